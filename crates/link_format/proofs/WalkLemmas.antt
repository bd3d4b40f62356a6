-- What one octet changes of how far octets begin a document, and of whether they are one.
use Rattle.std.proofs.Common.{
  ◌≡◌,
  ℕ,
  suc,
  ◌+◌,
  ◌-◌,
  ◌≤◌,
  min,
  Bool,
  true,
  false,
  ◌&&◌,
  List,
  [],
  ◌∷◌,
  ◌++◌,
  length,
  Option,
  Some,
  None,
  option_map,
  is_some,
  refl,
  sym,
  ap,
  ◌∙◌,
  subst,
  append_assoc,
  arith,
}
use Rattle.std.specs.Prelude.{◌==◌, if◌then◌else◌}
use Rattle.std.proofs.lemmas.Bool.{eqb-true}
use Rattle.std.specs.Str.{is_utf8}
use Rattle.std.specs.Int.{is_in_range}
use Rattle.std.proofs.lemmas.Str.{IsUtf8-from_is_utf8, is_utf8-from_IsUtf8}
use Rattle.std.proofs.Math.Bool.{and-false}
use Rattle.link_model.specs.Documents.{Link}
use Rattle.link_model.specs.Utf8Prefix.{OctetRange, utf8_prefix_after}
use Rattle.link_model.specs.DocumentReading.{
  Point,
  at_beginning,
  point_after,
  with_octet,
  links_at_end,
  links_from,
  document,
  prefix_from,
  good_prefix,
}
use Rattle.link_model.proofs.Utf8Reading.{is_utf8_after, is_utf8_after-IsUtf8}
use Rattle.link_model.proofs.Utf8Found.{IsUtf8-is_utf8_after}
use Rattle.link_format.specs.Ranges.{tails_after}
use Rattle.link_format.specs.Staying.{AllStay, StaysUpTo}

-- how many octets may stand one after the other, in the grammar and in text
abbrev pub reach : Point → List OctetRange → List ℕ → ℕ
reach point tails bytes = min (utf8_prefix_after tails bytes) (prefix_from point bytes)

utf8_step : (tails more : List OctetRange) (c : ℕ) (cs : List ℕ)
    → tails_after tails c ≡ Some more
    → utf8_prefix_after tails (c ∷ cs) ≡ suc (utf8_prefix_after more cs)
unfolding utf8_prefix_after
utf8_step [] more c cs e = rw e refl
utf8_step (r ∷ ranges) more c cs e = by_test (is_in_range (r.0) (r.1) c) e
  where
    by_test : (b : Bool)
        → (if b then Some ranges else None) ≡ Some more
        → (if b then suc (utf8_prefix_after ranges cs) else 0) ≡ suc (utf8_prefix_after more cs)
    by_test true h = let same : ranges ≡ more = cc in rw same refl
    by_test false h = cc

utf8_stop : (tails : List OctetRange) (c : ℕ) (cs : List ℕ)
    → tails_after tails c ≡ None
    → utf8_prefix_after tails (c ∷ cs) ≡ 0
unfolding utf8_prefix_after
utf8_stop [] c cs e = rw e refl
utf8_stop (r ∷ ranges) c cs e = by_test (is_in_range (r.0) (r.1) c) e
  where
    by_test : (b : Bool)
        → (if b then Some ranges else None) ≡ None
        → (if b then suc (utf8_prefix_after ranges cs) else 0) ≡ 0
    by_test true h = cc
    by_test false h = refl

prefix_step : (point next : Point) (c : ℕ) (cs : List ℕ)
    → point_after point c ≡ Some next
    → prefix_from point (c ∷ cs) ≡ suc (prefix_from next cs)
unfolding prefix_from
prefix_step point next c cs e = rw e refl

prefix_stop : (point : Point) (c : ℕ) (cs : List ℕ)
    → point_after point c ≡ None
    → prefix_from point (c ∷ cs) ≡ 0
unfolding prefix_from
prefix_stop point c cs e = rw e refl

pub reach_step : (point next : Point) (tails more : List OctetRange) (c : ℕ) (cs : List ℕ)
    → point_after point c ≡ Some next
    → tails_after tails c ≡ Some more
    → reach point tails (c ∷ cs) ≡ suc (reach next more cs)
reach_step point next tails more c cs e f =
    let u = utf8_step tails more c cs f in let p = prefix_step point next c cs e in omega arith

pub reach_no_point : (point : Point) (tails : List OctetRange) (c : ℕ) (cs : List ℕ)
    → point_after point c ≡ None
    → reach point tails (c ∷ cs) ≡ 0
reach_no_point point tails c cs e = let p = prefix_stop point c cs e in omega arith

pub reach_no_tails : (point : Point) (tails : List OctetRange) (c : ℕ) (cs : List ℕ)
    → tails_after tails c ≡ None
    → reach point tails (c ∷ cs) ≡ 0
reach_no_tails point tails c cs e = let u = utf8_stop tails c cs e in omega arith

pub reach_end : (point : Point) (tails : List OctetRange) → reach point tails [] ≡ 0
unfolding utf8_prefix_after prefix_from
reach_end point [] = refl
reach_end point (r ∷ ranges) = refl

pub reach_start : (bytes : List ℕ) → good_prefix bytes ≡ reach at_beginning [] bytes
unfolding good_prefix
reach_start bytes = refl

-- whether the octets are what is left of a document
abbrev pub is_rest : Point → List OctetRange → List ℕ → Bool
is_rest point tails bytes = is_utf8_after tails bytes && is_some (links_from point bytes)

utf8_goes : (tails more : List OctetRange) (c : ℕ) (cs : List ℕ)
    → tails_after tails c ≡ Some more
    → is_utf8_after tails (c ∷ cs) ≡ is_utf8_after more cs
utf8_goes [] more c cs e = rw e refl
utf8_goes (r ∷ ranges) more c cs e = by_test (is_in_range (r.0) (r.1) c) e
  where
    by_test : (b : Bool)
        → (if b then Some ranges else None) ≡ Some more
        → (b && is_utf8_after ranges cs) ≡ is_utf8_after more cs
    by_test true h = let same : ranges ≡ more = cc in rw same refl
    by_test false h = cc

utf8_ends : (tails : List OctetRange) (c : ℕ) (cs : List ℕ)
    → tails_after tails c ≡ None
    → is_utf8_after tails (c ∷ cs) ≡ false
utf8_ends [] c cs e = rw e refl
utf8_ends (r ∷ ranges) c cs e = by_test (is_in_range (r.0) (r.1) c) e
  where
    by_test : (b : Bool)
        → (if b then Some ranges else None) ≡ None
        → (b && is_utf8_after ranges cs) ≡ false
    by_test true h = cc
    by_test false h = refl

is_some-mapped : {A B : Type 0} (f : A → B) (o : Option A) → is_some (option_map f o) ≡ is_some o
is_some-mapped f None = refl
is_some-mapped f (Some x) = refl

links_goes : (point next : Point) (c : ℕ) (cs : List ℕ)
    → point_after point c ≡ Some next
    → is_some (links_from point (c ∷ cs)) ≡ is_some (links_from next cs)
unfolding links_from
links_goes point next c cs e = rw e (is_some-mapped (with_octet point c) (links_from next cs))

links_ends : (point : Point) (c : ℕ) (cs : List ℕ)
    → point_after point c ≡ None
    → links_from point (c ∷ cs) ≡ None
unfolding links_from
links_ends point c cs e = rw e refl

pub is_rest-step : (point next : Point) (tails more : List OctetRange) (c : ℕ) (cs : List ℕ)
    → point_after point c ≡ Some next
    → tails_after tails c ≡ Some more
    → is_rest point tails (c ∷ cs) ≡ is_rest next more cs
is_rest-step point next tails more c cs e f =
    rw (utf8_goes tails more c cs f, links_goes point next c cs e) refl

pub is_rest-no_point : (point : Point) (tails : List OctetRange) (c : ℕ) (cs : List ℕ)
    → point_after point c ≡ None
    → is_rest point tails (c ∷ cs) ≡ false
is_rest-no_point point tails c cs e =
    rw (links_ends point c cs e) (and-false (is_utf8_after tails (c ∷ cs)))

pub is_rest-no_tails : (point : Point) (tails : List OctetRange) (c : ℕ) (cs : List ℕ)
    → tails_after tails c ≡ None
    → is_rest point tails (c ∷ cs) ≡ false
is_rest-no_tails point tails c cs e = rw (utf8_ends tails c cs e) refl

pub is_rest-end : (point : Point) → is_rest point [] [] ≡ is_some (links_at_end point)
unfolding links_from
is_rest-end point = refl

same_utf8 : (bytes : List ℕ) (a b : Bool) → is_utf8 bytes ≡ a → is_utf8_after [] bytes ≡ b → a ≡ b
same_utf8 bytes true true e f = refl
same_utf8 bytes false false e f = refl
same_utf8 bytes true false e f = sym (is_utf8_after-IsUtf8 bytes (IsUtf8-from_is_utf8 bytes e)) ∙ f
same_utf8 bytes false true e f = sym e ∙ is_utf8-from_IsUtf8 bytes (IsUtf8-is_utf8_after bytes f)

is_some-where_text : (b : Bool) (o : Option (List Link))
    → is_some (if b then o else None) ≡ (b && is_some o)
is_some-where_text true o = refl
is_some-where_text false o = refl

pub is_rest-start : (bytes : List ℕ) → is_some (document bytes) ≡ is_rest at_beginning [] bytes
unfolding document
is_rest-start bytes =
    is_some-where_text (is_utf8 bytes) (links_from at_beginning bytes)
    ∙ ap (λ (b : Bool). b && is_some (links_from at_beginning bytes))
    (same_utf8 bytes (is_utf8 bytes) (is_utf8_after [] bytes) refl refl)

-- a walk over the octets of a body has come to this rest of them, at a point of the grammar and
-- with these octets to follow
pub record Walked (body rest : List ℕ) (point : Point) (tails : List OctetRange) : Type 0 where
  pub within : length rest ≤ length body
  pub reached : good_prefix body + length rest ≡ length body + reach point tails rest
  pub same : is_some (document body) ≡ is_rest point tails rest

pub walked_start : (body : List ℕ) → Walked body body at_beginning []
walked_start body = record {
  within = omega arith;
  reached = let e = reach_start body in omega arith;
  same = is_rest-start body;
}

pub walked_step : (body rest : List ℕ) (point next : Point) (tails more : List OctetRange) (c : ℕ)
    (cs : List ℕ)
    → Walked body rest point tails
    → rest ≡ c ∷ cs
    → point_after point c ≡ Some next
    → tails_after tails c ≡ Some more
    → Walked body cs next more
walked_step body rest point next tails more c cs w e f g =
    at_cons (subst (λ (r : List ℕ). Walked body r point tails) e w)
  where
    at_cons : Walked body (c ∷ cs) point tails → Walked body cs next more
    at_cons w = let s = reach_step point next tails more c cs f g in let r = w.reached in record {
      within = let l = w.within in omega arith;
      reached = omega arith;
      same = w.same ∙ is_rest-step point next tails more c cs f g;
    }

-- ---- octets that stay

pub none_over : (point : Point) (octets : List ℕ) → StaysUpTo point octets octets
none_over point octets = record { over = []; spelled = refl; each = tt }

also_stays : (point : Point) (over : List ℕ) (b : ℕ)
    → AllStay point over
    → point_after point b ≡ Some point
    → tails_after [] b ≡ Some []
    → AllStay point (over ++ b ∷ [])
also_stays point [] b h e f = (e, f, tt)
also_stays point (a ∷ over) b h e f = (h.0, h.1, also_stays point over b h.2 e f)

-- one octet more stays
pub one_over : (point : Point) (octets rest more : List ℕ) (b : ℕ)
    → StaysUpTo point octets rest
    → rest ≡ b ∷ more
    → point_after point b ≡ Some point
    → tails_after [] b ≡ Some []
    → StaysUpTo point octets more
one_over point octets rest more b s e f g = record {
  over = s.over ++ b ∷ [];
  spelled =
      s.spelled ∙ ap (λ (r : List ℕ). s.over ++ r) e ∙ sym (append_assoc s.over (b ∷ []) more);
  each = also_stays point s.over b s.each f g;
}

over_all : (body rest over octets : List ℕ) (point : Point)
    → AllStay point over
    → octets ≡ over ++ rest
    → Walked body octets point []
    → Walked body rest point []
over_all body rest [] octets point h e w = subst (λ (r : List ℕ). Walked body r point []) e w
over_all body rest (b ∷ over) octets point h e w =
    over_all body rest over (over ++ rest) point h.2 refl
    (walked_step body octets point point [] [] b (over ++ rest) w e h.0 h.1)

-- a step, and then all octets that stay
pub walked_over : (body octets rest : List ℕ) (point : Point)
    → StaysUpTo point octets rest
    → Walked body octets point []
    → Walked body rest point []
walked_over body octets rest point s w = over_all body rest s.over octets point s.each s.spelled w

-- what is said where the walk stops
abbrev pub Stops : List ℕ → List ℕ → Type 0
Stops body rest = (length body - length rest ≡ good_prefix body) × (false ≡ is_some (document body))

pub walked_no_point : (body rest : List ℕ) (point : Point) (tails : List OctetRange) (c : ℕ)
    (cs : List ℕ)
    → Walked body rest point tails
    → rest ≡ c ∷ cs
    → point_after point c ≡ None
    → Stops body rest
walked_no_point body rest point tails c cs w e f =
    subst (λ (r : List ℕ). Stops body r) (sym e)
    (at_cons (subst (λ (r : List ℕ). Walked body r point tails) e w))
  where
    at_cons : Walked body (c ∷ cs) point tails → Stops body (c ∷ cs)
    at_cons w =
        let s = reach_no_point point tails c cs f in
        let r = w.reached in (omega arith, sym (w.same ∙ is_rest-no_point point tails c cs f))

pub walked_no_tails : (body rest : List ℕ) (point : Point) (tails : List OctetRange) (c : ℕ)
    (cs : List ℕ)
    → Walked body rest point tails
    → rest ≡ c ∷ cs
    → tails_after tails c ≡ None
    → Stops body rest
walked_no_tails body rest point tails c cs w e f =
    subst (λ (r : List ℕ). Stops body r) (sym e)
    (at_cons (subst (λ (r : List ℕ). Walked body r point tails) e w))
  where
    at_cons : Walked body (c ∷ cs) point tails → Stops body (c ∷ cs)
    at_cons w =
        let s = reach_no_tails point tails c cs f in
        let r = w.reached in (omega arith, sym (w.same ∙ is_rest-no_tails point tails c cs f))

pub walked_whole : (body rest : List ℕ) (point : Point) (tails : List OctetRange)
    → Walked body rest point tails
    → length rest ≡ 0
    → length body ≡ good_prefix body
walked_whole body [] point tails w e =
    let s = reach_end point tails in let r = w.reached in omega arith
walked_whole body (c ∷ cs) point tails w e = absurd (omega arith)

pub walked_end : (body rest : List ℕ) (point : Point) (tails : List OctetRange)
    → Walked body rest point tails
    → length rest ≡ 0
    → (length tails == 0) ≡ true
    → is_some (links_at_end point) ≡ is_some (document body)
walked_end body [] point [] w e f = sym (w.same ∙ is_rest-end point)
walked_end body [] point (r ∷ ranges) w e f =
    let g = eqb-true (length (r ∷ ranges)) 0 f in absurd (omega arith)
walked_end body (c ∷ cs) point tails w e f = absurd (omega arith)

pub walked_short : (body rest : List ℕ) (point : Point) (tails : List OctetRange)
    → Walked body rest point tails
    → length rest ≡ 0
    → (length tails == 0) ≡ false
    → false ≡ is_some (document body)
walked_short body [] point [] w e f = cc
walked_short body [] point (r ∷ ranges) w e f = sym w.same
walked_short body (c ∷ cs) point tails w e f = absurd (omega arith)
