-- Links in texts that grow, and one link or one attribute more.
use Rattle.std.proofs.Common.{
  ℕ,
  ◌≡◌,
  ◌≤◌,
  List,
  [],
  ◌∷◌,
  ◌++◌,
  drop,
  length,
  map,
  flat_map,
  codes,
  arith,
  refl,
  sym,
  ap,
  ◌∙◌,
  append_assoc,
  append-nil,
}
use Rattle.std.proofs.lemmas.List.{map_push, drop-append-le, drop_all, length-append, take_rest}
use Rattle.std.proofs.lemmas.List.Elements.{All-push, All-head, All-tail}
use Rattle.std.specs.Prelude.{Option, Some}
use Rattle.std.specs.List.{All, join_with_byte}
use Rattle.std.specs.Str.{IsUtf8}
use Rattle.rd_base.specs.declared.attributes.Pair.{Pair}
use Rattle.rd_base.specs.declared.link_texts.LineSpans.{LineSpans}
use Rattle.rd_base.specs.declared.link_texts.LinkSpans.{LinkSpans}
use Rattle.rd_base.specs.declared.link_texts.PairSpans.{PairSpans}
use Rattle.rd_base.specs.declared.records.Item.{Item}
use Rattle.rd_base.specs.declared.spans.Span.{Span}
use Rattle.rd_base.specs.Drafted.{AreWaiting, drafted}
use Rattle.rd_base.specs.LinkLines.{
  anchor_text,
  comma,
  escaped_character,
  line_by,
  link_line,
  listed,
  quoted,
  submitted,
  submitted_line,
}
use Rattle.rd_base.specs.LinkTexts.{
  comma_after,
  Holds,
  HoldsAll,
  HoldsLine,
  HoldsPair,
  IsLineAt,
  link_of,
  links_of,
  pair_of,
  pairs_of,
}
use Rattle.rd_base.specs.Spans.{part, IsAt, IsPlacedAt, IsPlacedIfAny, IsTextAt}
use Rattle.rd_base.proofs.SpanLemmas.{
  appended-at,
  IsStretch-at,
  IsStretch-more,
  IsStretchIfAny-at,
  IsStretchIfAny-more,
  IsPlacedAt-more,
  IsPlacedIfAny-more,
  IsText-at,
  IsText-more,
  IsTextAt-more,
  IsWithin-more,
  part-more,
  placed-at,
  placed-more,
  placed_if_any-at,
  placed_if_any-more,
  utf8-rest,
}

-- ---- a line

-- the anchor of a line
pub anchor-spelled : (t t₁ t₂ t₃ anchor : List ℕ)
    → t₁ ≡ t ++ codes ";anchor=\""
    → t₂ ≡ t₁ ++ flat_map escaped_character anchor
    → t₃ ≡ t₂ ++ codes "\""
    → t₃ ≡ t ++ anchor_text (Some anchor)
unfolding quoted
anchor-spelled t t₁ t₂ t₃ anchor e₁ e₂ e₃ =
    e₃
    ∙ ap (λ (x : List ℕ). x ++ codes "\"")
    (e₂ ∙ ap (λ (x : List ℕ). x ++ flat_map escaped_character anchor) e₁)
    ∙ append_assoc (t ++ codes ";anchor=\"") (flat_map escaped_character anchor) (codes "\"")
    ∙ append_assoc t (codes ";anchor=\"") (flat_map escaped_character anchor ++ codes "\"")

module _ (t t₁ t₂ t₃ t₄ t₅ a target raw : List ℕ) (anchor : Option (List ℕ)) (s : LineSpans)
    (e₁ : t₁ ≡ t ++ codes "<") (e₂ : t₂ ≡ t₁ ++ target) (e₃ : t₃ ≡ t₂ ++ codes ">")
    (e₄ : t₄ ≡ t₃ ++ raw) (e₅ : t₅ ≡ t₄ ++ anchor_text anchor) where
  pub line-spelled : t₅ ≡ t ++ line_by target raw anchor
  line-spelled = rw (e₅, e₄, e₃, e₂, e₁) (simp append_assoc)

  pub line-at : IsTextAt t₂ s.target target
      → IsTextAt t₄ s.raw raw
      → IsPlacedIfAny t₅ a s.anchor anchor
      → s.line.from ≡ length t
      → s.line.upto ≡ length t₅
      → IsUtf8 t
      → IsUtf8 t₅
      → IsLineAt t₅ a s target raw anchor
  line-at h r p f u ut ut₅ = record {
    target =
        IsTextAt-more t₄ _ t₅ s.target target e₅
        (IsTextAt-more t₃ _ t₄ s.target target e₄ (IsTextAt-more t₂ _ t₃ s.target target e₃ h));
    raw = IsTextAt-more t₄ _ t₅ s.raw raw e₅ r;
    anchor = p;
    line = (
      appended-at t (line_by target raw anchor) t₅ s.line line-spelled f u,
      utf8-rest t₅ t
          (line_by target raw anchor) line-spelled ut₅ ut,
    );
  }

-- ---- texts that grow

module _ (t m t' a n a' : List ℕ) (et : t' ≡ t ++ m) (ea : a' ≡ a ++ n) where
  pub HoldsLine-more : (s : LineSpans) → HoldsLine t a s → HoldsLine t' a' s
  HoldsLine-more s h = record {
    target = IsText-more t m t' s.target et h.target;
    raw = IsText-more t m t' s.raw et h.raw;
    anchor = IsStretchIfAny-more t m t' a n a' et ea s.anchor h.anchor;
    line = IsText-more t m t' s.line et h.line;
    spelled =
        rw (
          part-more t m t' s.line et h.line.0,
          part-more t m t' s.target et h.target.0,
          part-more
              t m t' s.raw et h.raw.0,
          placed_if_any-more t m t' a n a' et ea s.anchor h.anchor,
        )
        h.spelled;
  }

  pub IsLineAt-more : (s : LineSpans) (target raw : List ℕ) (anchor : Option (List ℕ))
      → IsLineAt t a s target raw anchor
      → IsLineAt t' a' s target raw anchor
  IsLineAt-more s target raw anchor h = record {
    target = IsTextAt-more t m t' s.target target et h.target;
    raw = IsTextAt-more t m t' s.raw raw et h.raw;
    anchor = IsPlacedIfAny-more t m t' a n a' et ea s.anchor anchor h.anchor;
    line = IsTextAt-more t m t' s.line _ et h.line;
  }

  pub HoldsPair-more : (p : PairSpans) → HoldsPair t a p → HoldsPair t' a' p
  HoldsPair-more p h = (
    IsStretch-more t m t' a n a' et ea p.name h.0,
    IsStretch-more t m t' a n a' et ea p.value h.1,
  )

  pub pair-same : (p : PairSpans) → HoldsPair t a p → pair_of t' a' p ≡ pair_of t a p
  pair-same p h =
      rw (placed-more t m t' a n a' et ea p.name h.0, placed-more t m t' a n a' et ea p.value h.1)
      refl

  pub pairs-same : (ps : List PairSpans)
      → All (HoldsPair t a) ps
      → pairs_of t' a' ps ≡ pairs_of t a ps
  pairs-same [] h = refl
  pairs-same (p ∷ ps) h =
      rw (
        pair-same p (All-head (HoldsPair t a) p ps h),
        pairs-same ps
            (All-tail (HoldsPair t a) p ps h),
      ) refl

-- the parts of a line that stands there
module _ (t a : List ℕ) (s : LineSpans) (target raw : List ℕ) (anchor : Option (List ℕ))
    (h : IsLineAt t a s target raw anchor) where
  pub HoldsLine-at : HoldsLine t a s
  HoldsLine-at = record {
    target = IsText-at t s.target target h.target;
    raw = IsText-at t s.raw raw h.raw;
    anchor = IsStretchIfAny-at t a s.anchor anchor h.anchor;
    line = IsText-at t s.line _ h.line;
    spelled =
        rw (h.target.0.1, h.raw.0.1, placed_if_any-at t a s.anchor anchor h.anchor) (h.line.0.1);
  }

module _ (s m s' l e l' a n a' : List ℕ) (p q p' : List PairSpans) (es : s' ≡ s ++ m)
    (el : l' ≡ l ++ e) (ea : a' ≡ a ++ n) (ep : p' ≡ p ++ q) where
  raw_of : LinkSpans → List ℕ
  raw_of k = part s k.submitted.raw

  pub link-same : (k : LinkSpans) → Holds s l a p k → link_of s' l' a' p' k ≡ link_of s l a p k
  link-same k h = rw (
    part-more s m s' k.submitted.target es h.submitted.target.0,
    placed_if_any-more s m s' a n a' es ea k.submitted.anchor h.submitted.anchor,
    part-more l e l' k.listed.target el h.listed.target.0,
    placed_if_any-more l e l' a n a' el ea k.listed.anchor h.listed.anchor,
    part-more s m s' k.submitted.raw es h.submitted.raw.0,
    part-more p q p' k.pairs ep h.within,
    pairs-same (part s k.submitted.raw) [] (part s k.submitted.raw) a n a' (sym (append-nil _)) ea
        (part p k.pairs) h.pairs,
  ) refl

  pub Holds-more : (k : LinkSpans) → Holds s l a p k → Holds s' l' a' p' k
  Holds-more k h = record {
    submitted = HoldsLine-more s m s' a n a' es ea k.submitted h.submitted;
    listed = HoldsLine-more l e l' a n a' el ea k.listed h.listed;
    same =
        rw (
          part-more l e l' k.listed.raw el h.listed.raw.0,
          part-more s m s' k.submitted.raw es
              h.submitted.raw.0,
        ) h.same;
    within = IsWithin-more p q p' k.pairs ep h.within;
    pairs =
        rw (
          part-more s m s' k.submitted.raw es h.submitted.raw.0,
          part-more p q p' k.pairs ep
              h.within,
        )
        (λ i d b. HoldsPair-more (part s k.submitted.raw) [] (part s k.submitted.raw) a n a'
        (sym (append-nil _)) ea _ (h.pairs i d b));
  }

  pub all-same : (ks : List LinkSpans)
      → All (Holds s l a p) ks
      → links_of s' l' a' p' ks ≡ links_of s l a p ks
  all-same [] h = refl
  all-same (k ∷ ks) h =
      rw (
        link-same k (All-head (Holds s l a p) k ks h),
        all-same ks
            (All-tail (Holds s l a p) k ks h),
      ) refl

-- what stands at the span of its line is its line
pub line-shown : (s l a : List ℕ) (p : List PairSpans) (k : LinkSpans)
    → Holds s l a p k
    → part l k.listed.line ≡ link_line (link_of s l a p k)
unfolding link_line
line-shown s l a p k h = h.listed.spelled ∙ rw h.same refl

-- ---- lines with commas between them

joined-push : (lines : List (List ℕ)) (y : List ℕ)
    → join_with_byte comma (lines ++ y ∷ [])
    ≡ join_with_byte comma lines ++ (comma_after lines ++ y)
joined-push [] y = refl
joined-push (line ∷ []) y = refl
joined-push (line ∷ next ∷ lines) y =
    ap (λ (t : List ℕ). line ++ comma ∷ t) (joined-push (next ∷ lines) y)
    ∙ sym (append_assoc line (comma ∷ join_with_byte comma (next ∷ lines)) (comma ∷ y))

comma-map : {X Y : Type 0} (f : X → Y) (xs : List X) → comma_after (map f xs) ≡ comma_after xs
comma-map f [] = refl
comma-map f (x ∷ xs) = refl

pub submitted-push : (items : List Item) (item : Item)
    → submitted (items ++ item ∷ []) ≡ submitted items ++ (comma_after items ++ submitted_line item)
unfolding submitted
submitted-push items item =
    rw (map_push submitted_line items item)
    (joined-push (map submitted_line items) (submitted_line item)
    ∙ rw (comma-map submitted_line items) refl)

pub listed-push : (items : List Item) (item : Item)
    → listed (items ++ item ∷ []) ≡ listed items ++ (comma_after items ++ link_line item)
unfolding listed
listed-push items item =
    rw (map_push link_line items item)
    (joined-push (map link_line items) (link_line item) ∙ rw (comma-map link_line items) refl)

-- ---- one link more

abbrev pub made : List ℕ → Option (List ℕ) → List ℕ → Option (List ℕ) → List ℕ → List Pair → Item
made target_ref anchor_ref target anchor raw pairs = record {
  target_ref = target_ref;
  anchor_ref = anchor_ref;
  target = target;
  anchor = anchor;
  raw = raw;
  pairs = pairs;
}

pub made-submitted : (target_ref : List ℕ) (anchor_ref : Option (List ℕ)) (target : List ℕ)
    (anchor : Option (List ℕ)) (raw : List ℕ) (pairs : List Pair)
    → submitted_line (made target_ref anchor_ref target anchor raw pairs)
    ≡ line_by target_ref raw anchor_ref
unfolding submitted_line
made-submitted target_ref anchor_ref target anchor raw pairs = refl

pub made-listed : (target_ref : List ℕ) (anchor_ref : Option (List ℕ)) (target : List ℕ)
    (anchor : Option (List ℕ)) (raw : List ℕ) (pairs : List Pair)
    → link_line (made target_ref anchor_ref target anchor raw pairs) ≡ line_by target raw anchor
unfolding link_line
made-listed target_ref anchor_ref target anchor raw pairs = refl

-- the attributes behind the first ones are a part
pub rest-at : {X : Type 0} (xs : List X) (s : Span)
    → s.from ≤ length xs
    → s.upto ≡ length xs
    → IsAt xs s (drop s.from xs)
rest-at xs s b e = ((rw e b, rw e (omega arith)), rw e (take_rest xs s.from))

-- a new link
module _ (s l a : List ℕ) (p : List PairSpans) (k : LinkSpans) (target_ref : List ℕ)
    (anchor_ref : Option (List ℕ)) (target : List ℕ) (anchor : Option (List ℕ)) (raw : List ℕ)
    (ps : List PairSpans)
    (i : IsLineAt s a k.submitted target_ref raw anchor_ref)
    (j : IsLineAt l a k.listed target raw anchor) (at : IsAt p k.pairs ps)
    (w : All (HoldsPair raw a) ps) where
  pub new-link :
      link_of s l a p k ≡ made target_ref anchor_ref target anchor raw (pairs_of raw a ps)
  new-link =
      rw (
        i.target.0.1,
        placed_if_any-at s a k.submitted.anchor anchor_ref i.anchor,
        j.target.0.1,
        placed_if_any-at l a k.listed.anchor anchor j.anchor,
        i.raw.0.1,
        at.1,
      ) refl

  pub new-holds : Holds s l a p k
  new-holds = record {
    submitted = HoldsLine-at s a k.submitted target_ref raw anchor_ref i;
    listed = HoldsLine-at l a k.listed target raw anchor j;
    same = j.raw.0.1 ∙ sym i.raw.0.1;
    within = at.0;
    pairs = rw (i.raw.0.1, at.1) w;
  }

module _ (s s₁ s' l l₁ l' a k₁ a₁ k₂ a' : List ℕ) (ps : List PairSpans) (taken end : ℕ)
    (ks : List LinkSpans) (target_ref : List ℕ) (anchor_ref : Option (List ℕ)) (target : List ℕ)
    (anchor : Option (List ℕ)) (raw : List ℕ) (n : LinkSpans)
    (et : end ≡ length ps) (h : HoldsAll s l a ps ks) (w : AreWaiting raw a ps taken)
    (b : taken ≤ length ps)
    (e₁ : s₁ ≡ s ++ comma_after ks) (es : s' ≡ s₁ ++ line_by target_ref raw anchor_ref)
    (f₁ : l₁ ≡ l ++ comma_after ks) (el : l' ≡ l₁ ++ line_by target raw anchor)
    (g₁ : a₁ ≡ a ++ k₁) (ea : a' ≡ a₁ ++ k₂)
    (i : IsLineAt s' a₁ n.submitted target_ref raw anchor_ref)
    (j : IsLineAt l' a' n.listed target raw anchor)
    (np : n.pairs ≡ record { from = taken; upto = end }) where
  source-grown : s' ≡ s ++ (comma_after ks ++ line_by target_ref raw anchor_ref)
  source-grown = rw (es, e₁) (append_assoc s (comma_after ks) _)

  listed-grown : l' ≡ l ++ (comma_after ks ++ line_by target raw anchor)
  listed-grown = rw (el, f₁) (append_assoc l (comma_after ks) _)

  apart-grown : a' ≡ a ++ (k₁ ++ k₂)
  apart-grown = rw (ea, g₁) (append_assoc a k₁ k₂)

  submitted-at : IsLineAt s' a' n.submitted target_ref raw anchor_ref
  submitted-at =
      IsLineAt-more s' [] s' a₁ k₂ a' (sym (append-nil s')) ea n.submitted target_ref raw anchor_ref
      i

  pairs-at : IsAt ps n.pairs (drop taken ps)
  pairs-at = rw np (rest-at ps (record { from = taken; upto = end }) b et)

  still : All (HoldsPair raw a') (drop taken ps)
  still =
      λ at d m.
      HoldsPair-more raw [] raw a (k₁ ++ k₂) a' (sym (append-nil raw)) apart-grown _ (w at d m)

  added :
      link_of s' l' a' ps n
      ≡ made target_ref anchor_ref target anchor raw (pairs_of raw a (drop taken ps))
  added =
      new-link s' l' a' ps n target_ref anchor_ref target anchor raw (drop taken ps) submitted-at j
      pairs-at still
      ∙ ap (made target_ref anchor_ref target anchor raw)
      (pairs-same raw [] raw a (k₁ ++ k₂) a' (sym (append-nil raw)) apart-grown (drop taken ps)
      w)

  pub with-links :
      links_of s' l' a' ps (ks ++ n ∷ [])
      ≡ links_of s l a ps ks
      ++ made target_ref anchor_ref target anchor raw (pairs_of raw a (drop taken ps))
      ∷ []
  with-links =
      rw (
        map_push (link_of s' l' a' ps) ks n,
        all-same s _ s' l _ l' a _ a' ps [] ps source-grown
            listed-grown apart-grown (sym (append-nil ps)) ks h.each,
        added,
      ) refl

  grown-source : s' ≡ submitted (links_of s' l' a' ps (ks ++ n ∷ []))
  grown-source =
      source-grown
      ∙ ap (λ (t : List ℕ). t ++ (comma_after ks ++ line_by target_ref raw anchor_ref)) h.source
      ∙ rw (
        with-links,
        submitted-push (links_of s l a ps ks)
            (made target_ref anchor_ref target anchor raw (pairs_of raw a (drop taken ps))),
        comma-map (link_of s l a ps) ks,
        made-submitted target_ref anchor_ref target anchor raw (pairs_of raw a (drop taken ps)),
      ) refl

  grown-listed : l' ≡ listed (links_of s' l' a' ps (ks ++ n ∷ []))
  grown-listed =
      listed-grown
      ∙ ap (λ (t : List ℕ). t ++ (comma_after ks ++ line_by target raw anchor)) h.listed
      ∙ rw (
        with-links,
        listed-push (links_of s l a ps ks)
            (made target_ref anchor_ref target anchor raw (pairs_of raw a (drop taken ps))),
        comma-map (link_of s l a ps) ks,
        made-listed target_ref anchor_ref target anchor raw (pairs_of raw a (drop taken ps)),
      ) refl

  pub with-holds : HoldsAll s' l' a' ps (ks ++ n ∷ [])
  with-holds = record {
    each =
        All-push (Holds s' l' a' ps) ks n (λ at d m.
        Holds-more s _ s' l _ l' a _ a' ps [] ps source-grown listed-grown apart-grown
        (sym (append-nil ps)) _ (h.each at d m))
        (new-holds s' l' a' ps n target_ref anchor_ref target anchor raw (drop taken ps)
        submitted-at j pairs-at still);
    source = grown-source;
    listed = grown-listed;
  }

  pub none-left : drop end ps ≡ []
  none-left = drop_all end ps (rw et (omega arith))

  pub with-view :
      drafted (links_of s' l' a' ps (ks ++ n ∷ [])) [] (pairs_of [] a' (drop end ps))
      ≡ drafted (links_of s l a ps ks
      ++ made target_ref anchor_ref target anchor raw (pairs_of raw a (drop taken ps))
      ∷ []) [] []
  with-view = rw (with-links, none-left) refl

  pub with-waiting : AreWaiting [] a' ps end
  with-waiting = rw none-left (λ at d m. absurd (omega arith))

-- ---- more of what was written of attributes

module _ (a raw r raw' : List ℕ) (ps : List PairSpans) (taken : ℕ) (er : raw' ≡ raw ++ r)
    (w : AreWaiting raw a ps taken) where
  pub raw-pending : pairs_of raw' a (drop taken ps) ≡ pairs_of raw a (drop taken ps)
  raw-pending = pairs-same raw r raw' a [] a er (sym (append-nil a)) (drop taken ps) w

  pub raw-waiting : AreWaiting raw' a ps taken
  raw-waiting = λ at d m. HoldsPair-more raw r raw' a [] a er (sym (append-nil a)) _ (w at d m)

  pub raw-view : (links : List Item)
      → drafted links raw' (pairs_of raw' a (drop taken ps))
      ≡ drafted links (raw ++ r) (pairs_of raw a (drop taken ps))
  raw-view links = rw (raw-pending, er) refl

-- ---- one attribute more

module _ (s l a k₁ a₁ k₂ a' raw : List ℕ) (ps : List PairSpans) (taken : ℕ) (ks : List LinkSpans)
    (name value : List ℕ) (p : PairSpans)
    (h : HoldsAll s l a ps ks) (w : AreWaiting raw a ps taken) (b : taken ≤ length ps)
    (g₁ : a₁ ≡ a ++ k₁) (ea : a' ≡ a₁ ++ k₂) (n : IsPlacedAt raw a₁ p.name name)
    (v : IsPlacedAt raw a' p.value value) where
  wider : a' ≡ a ++ (k₁ ++ k₂)
  wider = rw (ea, g₁) (append_assoc a k₁ k₂)

  named : IsPlacedAt raw a' p.name name
  named = IsPlacedAt-more raw [] raw a₁ k₂ a' (sym (append-nil raw)) ea p.name name n

  pub pair-links : links_of s l a' (ps ++ p ∷ []) ks ≡ links_of s l a ps ks
  pair-links =
      all-same s [] s l [] l a _ a' ps (p ∷ []) (ps ++ p ∷ []) (sym (append-nil s))
      (sym (append-nil l)) wider refl ks h.each

  pub pair-holds : HoldsAll s l a' (ps ++ p ∷ []) ks
  pair-holds = record {
    each =
        λ at d m.
        Holds-more s [] s l [] l a _ a' ps (p ∷ []) (ps ++ p ∷ []) (sym (append-nil s))
        (sym (append-nil l)) wider refl _ (h.each at d m);
    source = rw pair-links h.source;
    listed = rw pair-links h.listed;
  }

  left-grown : drop taken (ps ++ p ∷ []) ≡ drop taken ps ++ p ∷ []
  left-grown = drop-append-le taken ps (p ∷ []) b

  new-pair : pair_of raw a' p ≡ record { name = name; value = value }
  new-pair = rw (placed-at raw a' p.name name named, placed-at raw a' p.value value v) refl

  pub pair-pending :
      pairs_of raw a' (drop taken (ps ++ p ∷ []))
      ≡ pairs_of raw a (drop taken ps) ++ record { name = name; value = value } ∷ []
  pair-pending =
      rw (
        left-grown,
        map_push (pair_of raw a') (drop taken ps) p,
        pairs-same raw [] raw a _ a'
            (sym (append-nil raw)) wider (drop taken ps) w,
        new-pair,
      ) refl

  pub pair-view :
      drafted (links_of s l a' (ps ++ p ∷ []) ks) raw (pairs_of raw a' (drop taken (ps ++ p ∷ [])))
      ≡ drafted (links_of s l a ps ks) raw
      (pairs_of raw a (drop taken ps) ++ record { name = name; value = value } ∷ [])
  pair-view = rw (pair-links, pair-pending) refl

  pub pair-waiting : AreWaiting raw a' (ps ++ p ∷ []) taken
  pair-waiting =
      rw left-grown (All-push (HoldsPair raw a') (drop taken ps) p
      (λ at d m. HoldsPair-more raw [] raw a _ a' (sym (append-nil raw)) wider _ (w at d m))
      (IsStretch-at raw a' p.name name named, IsStretch-at raw a' p.value value v))

  pub pair-within : taken ≤ length (ps ++ p ∷ [])
  pair-within = rw (length-append ps (p ∷ [])) (omega arith)
