-- What one parameter adds to what is gathered, and what all of them say.
use Rattle.std.proofs.Common.{
  ◌≡◌,
  ℕ,
  ◌+◌,
  ◌<◌,
  ◌^◌,
  Bool,
  true,
  false,
  List,
  [],
  ◌∷◌,
  ◌++◌,
  length,
  map,
  find,
  Option,
  Some,
  None,
  option_map,
  refl,
  sym,
  ap,
  ◌∙◌,
  append_assoc,
  append-nil,
  arith,
  length-append,
}
use Rattle.rd_base.specs.Drafted.{Drafted, drafted}
use Rattle.rd_base.specs.declared.attributes.Pair.{Pair}
use Rattle.rd_base.specs.declared.records.Item.{Item}
use Rattle.record_model.specs.BodyFaults.{TextAtOffset, shifted, quote_length, anchor_offset}
use Rattle.link_model.specs.Documents.{Parameter, parameter_text, parameters_text}
use Rattle.link_model.specs.Quoting.{value_of, is_anchor, pair_of}
use Rattle.registration.specs.LinkParameters.{without_anchors, anchor_from, IsGathered}
use Rattle.registration.specs.declared.link_parameters.Anchor.{Anchor}
use Rattle.registration.specs.declared.link_parameters.Gathered.{Gathered}

-- offsets are shifted twice
pub shifted_twice : (n m : ℕ) (rs : List TextAtOffset)
    → shifted n (shifted m rs) ≡ shifted (n + m) rs
shifted_twice n m [] = refl
shifted_twice n m (r ∷ rs) =
    let at : n + (m + r.0) ≡ n + m + r.0 = omega arith in
    rw (at, shifted_twice n m rs) refl

-- the end moves over a parameter
end_moves : (start old new : ℕ) (all rest : List Parameter) (p : Parameter)
    → new ≡ old + length (parameter_text p)
    → old + length (parameters_text (p ∷ rest)) ≡ start + length (parameters_text all)
    → new + length (parameters_text rest) ≡ start + length (parameters_text all)
end_moves start old new all rest p moved known =
    let joined = length-append (parameter_text p) (parameters_text rest) in
    omega (arith, moved, known, joined)

module _ (before : List Item) (start : ℕ) (all rest : List Parameter) (p : Parameter)
    (old new : Gathered) (moved : new.end ≡ old.end + length (parameter_text p))
    (known : IsGathered before start all (p ∷ rest) old) where
  end_known : new.end + length (parameters_text rest) ≡ start + length (parameters_text all)
  end_known = end_moves start old.end new.end all rest p moved known.end

  -- an attribute goes to the others
  pub takes_attribute : is_anchor p ≡ false
      → new.anchor ≡ old.anchor
      → new.builder
      ≡ drafted old.builder.links (old.builder.raw ++ parameter_text p)
      (old.builder.pairs ++ pair_of p ∷ [])
      → IsGathered before start all rest new
  takes_attribute attribute anchor is =
      let raw : new.builder.raw ≡ old.builder.raw ++ parameter_text p =
      ap (λ (d : Drafted). d.raw) is in
      let pairs : new.builder.pairs ≡ old.builder.pairs ++ pair_of p ∷ [] =
      ap (λ (d : Drafted). d.pairs) is in
      let kept : without_anchors (p ∷ rest) ≡ p ∷ without_anchors rest = rw attribute refl in
      let offset :
      anchor_offset (p ∷ rest) ≡ shifted (length (parameter_text p)) (anchor_offset rest) =
      rw attribute refl in
      record {
        links = ap (λ (d : Drafted). d.links) is ∙ known.links;
        anchor =
            ap (λ a. anchor_from a new.end rest) anchor ∙ still old.anchor offset ∙ known.anchor;
        raw =
            ap (λ (t : List ℕ). t ++ parameters_text (without_anchors rest)) raw
            ∙ append_assoc old.builder.raw (parameter_text p)
            (parameters_text (without_anchors rest))
            ∙ ap (λ ps. old.builder.raw ++ parameters_text ps) (sym kept) ∙ known.raw;
        pairs =
            ap (λ (ps : List Pair). ps ++ map pair_of (without_anchors rest)) pairs
            ∙ append_assoc old.builder.pairs (pair_of p ∷ []) (map pair_of (without_anchors rest))
            ∙ ap (λ ps. old.builder.pairs ++ map pair_of ps) (sym kept) ∙ known.pairs;
        end = end_known;
      }
    where
      still : (a : Option Anchor)
          → anchor_offset (p ∷ rest) ≡ shifted (length (parameter_text p)) (anchor_offset rest)
          → anchor_from a new.end rest ≡ anchor_from a old.end (p ∷ rest)
      still (Some a) offset = refl
      still None offset =
          sym (ap (shifted old.end) offset
          ∙ shifted_twice old.end (length (parameter_text p)) (anchor_offset rest)
          ∙ ap (λ n. shifted n (anchor_offset rest)) (sym moved))

  -- an anchor does not
  module _ (named : is_anchor p ≡ true) (is : new.builder ≡ old.builder) where
    raw : new.builder.raw ≡ old.builder.raw
    raw = ap (λ (d : Drafted). d.raw) is

    pairs : new.builder.pairs ≡ old.builder.pairs
    pairs = ap (λ (d : Drafted). d.pairs) is

    links_known : new.builder.links ≡ before
    links_known = ap (λ (d : Drafted). d.links) is ∙ known.links

    dropped : without_anchors (p ∷ rest) ≡ without_anchors rest
    dropped = rw named refl

    raw_known :
        new.builder.raw ++ parameters_text (without_anchors rest)
        ≡ parameters_text (without_anchors all)
    raw_known =
        ap (λ (t : List ℕ). t ++ parameters_text (without_anchors rest)) raw
        ∙ ap (λ ps. old.builder.raw ++ parameters_text ps) (sym dropped)
        ∙ known.raw

    pairs_known :
        new.builder.pairs ++ map pair_of (without_anchors rest) ≡ map pair_of (without_anchors all)
    pairs_known =
        ap (λ (ps : List Pair). ps ++ map pair_of (without_anchors rest)) pairs
        ∙ ap (λ ps. old.builder.pairs ++ map pair_of ps) (sym dropped)
        ∙ known.pairs

    -- the first one is kept, with its offset
    pub takes_anchor : (a : Anchor)
        → old.anchor ≡ None
        → new.anchor ≡ Some a
        → a.offset ≡ old.end + length p.name + 2 + quote_length p.value
        → a.text ≡ value_of p
        → IsGathered before start all rest new
    takes_anchor a none some offset text =
        let first :
        anchor_offset (p ∷ rest) ≡ (length p.name + 2 + quote_length p.value, value_of p) ∷ [] =
        rw named refl in
        let there : a.offset ≡ old.end + (length p.name + 2 + quote_length p.value) =
        omega (arith, offset) in
        record {
          anchor =
              ap (λ b. anchor_from b new.end rest) some
              ∙ same a.offset _ a.text _ there text
              ∙ sym (ap (λ b. anchor_from b old.end (p ∷ rest)) none ∙ ap (shifted old.end) first)
              ∙ known.anchor;
          links = links_known;
          raw = raw_known;
          pairs = pairs_known;
          end = end_known;
        }
      where
        one : ℕ → List ℕ → List TextAtOffset
        one n t = (n, t) ∷ []

        same : (n m : ℕ) (t u : List ℕ) → n ≡ m → t ≡ u → one n t ≡ one m u
        same n m t u e f = rw (e, f) refl

    -- and later ones do not count
    pub drops_anchor : (a : Anchor)
        → old.anchor ≡ Some a
        → new.anchor ≡ Some a
        → IsGathered before start all rest new
    drops_anchor a was is = record {
      anchor =
          ap (λ b. anchor_from b new.end rest) is
          ∙ sym (ap (λ b. anchor_from b old.end (p ∷ rest)) was)
          ∙ known.anchor;
      links = links_known;
      raw = raw_known;
      pairs = pairs_known;
      end = end_known;
    }

-- ---- all parameters

-- the text of an anchor, where there is one
abbrev pub anchor_said : Option Anchor → Option (List ℕ)
anchor_said anchor = option_map (λ a. a.text) anchor

-- the texts of texts at offsets
abbrev said : List TextAtOffset → List (List ℕ)
said rs = map (λ r. r.1) rs

said_placed : (n : ℕ) (rs : List TextAtOffset) → said (shifted n rs) ≡ said rs
said_placed n [] = refl
said_placed n (r ∷ rs) = ap (λ (ts : List (List ℕ)). r.1 ∷ ts) (said_placed n rs)

-- a text, where there is one, as a list
abbrev listed : Option (List ℕ) → List (List ℕ)
listed None = []
listed (Some t) = t ∷ []

listed_same : (o p : Option (List ℕ)) → listed o ≡ listed p → o ≡ p
listed_same None None h = refl
listed_same None (Some t) h = cc
listed_same (Some t) None h = cc
listed_same (Some t) (Some u) h = cc

-- the anchor that has a offset is the first parameter of the name
said_anchor : (ps : List Parameter)
    → said (anchor_offset ps) ≡ listed (option_map value_of (find is_anchor ps))
said_anchor [] = refl
said_anchor (p ∷ ps) = by_name (is_anchor p) refl (said_anchor ps)
  where
    by_name : (b : Bool)
        → is_anchor p ≡ b
        → said (anchor_offset ps) ≡ listed (option_map value_of (find is_anchor ps))
        → said (anchor_offset (p ∷ ps)) ≡ listed (option_map value_of (find is_anchor (p ∷ ps)))
    by_name true e more = rw e refl
    by_name false e more = rw e (said_placed (length (parameter_text p)) (anchor_offset ps) ∙ more)

said_placed_anchor : (o : Option Anchor) (n : ℕ)
    → said (anchor_from o n []) ≡ listed (anchor_said o)
said_placed_anchor None n = refl
said_placed_anchor (Some a) n = refl

module _ (before : List Item) (start : ℕ) (all : List Parameter) (g : Gathered)
    (known : IsGathered before start all [] g) where
  pub all_anchor : anchor_said g.anchor ≡ option_map value_of (find is_anchor all)
  all_anchor =
      listed_same _ _ (sym (said_placed_anchor g.anchor g.end)
      ∙ ap said known.anchor
      ∙ said_placed start (anchor_offset all)
      ∙ said_anchor all)

  pub all_raw : g.builder.raw ≡ parameters_text (without_anchors all)
  all_raw = sym (append-nil g.builder.raw) ∙ known.raw

  pub all_pairs : g.builder.pairs ≡ map pair_of (without_anchors all)
  all_pairs = sym (append-nil g.builder.pairs) ∙ known.pairs

  pub all_end : g.end ≡ start + length (parameters_text all)
  all_end = let e = known.end in omega (arith, e)

-- ---- room

-- a parameter of those that are left ends where there is room
pub fits_here : (start end : ℕ) (all left rest : List Parameter) (p : Parameter)
    → left ≡ p ∷ rest
    → end + length (parameters_text left) ≡ start + length (parameters_text all)
    → start + length (parameters_text all) < 2 ^ 63 → end + length (parameter_text p) < 2 ^ 63
fits_here start end all left rest p first known room =
    let joined :
    length (parameters_text left) ≡ length (parameter_text p) + length (parameters_text rest) =
    ap (λ ps. length (parameters_text ps)) first
    ∙ length-append (parameter_text p) (parameters_text rest) in
    omega (arith, joined, known, room)
