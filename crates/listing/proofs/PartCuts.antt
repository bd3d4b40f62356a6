-- The parts of a value by its first space.
use Rattle.std.proofs.Common.{
  ◌≡◌,
  ◌≢◌,
  ℕ,
  ◌<◌,
  false,
  List,
  [],
  ◌∷◌,
  ◌++◌,
  length,
  get_or,
  filter,
  refl,
  sym,
  ap,
  ◌∙◌,
  not,
  eq-eqb,
}
use Rattle.std.specs.Prelude.{◌==◌}
use Rattle.std.specs.List.{All, list_any, slice_split}
use Rattle.std.proofs.lemmas.Bool.{false≢true, ne_eqb}
use Rattle.std.proofs.lemmas.List.Folds.{list_any_at}
use Rattle.std.proofs.lemmas.List.Elements.{All-from_get_or}
use Rattle.std.proofs.lemmas.List.Splits.{slice_split_none, slice_split_at}
use Rattle.link_model.specs.Characters.{is_empty}
use Rattle.record_model.specs.Matching.{space, parts_of}

-- no octet of the text is a space
abbrev pub HasNoSpace : List ℕ → Type 0
HasNoSpace text = (i : ℕ) → i < length text → get_or text i 0 ≢ space

no_space : (text : List ℕ) → HasNoSpace text → All (λ b. (b == space) ≡ false) text
no_space text nowhere =
    All-from_get_or (λ b. (b == space) ≡ false) text 0
    (λ k h. ne_eqb (get_or text k 0) space (nowhere k h))

-- without a space the value is one text
whole : (value : List ℕ) → HasNoSpace value → slice_split (λ b. b == space) value ≡ value ∷ []
whole value nowhere = slice_split_none (λ b. b == space) value (no_space value nowhere)

-- the text before the first space, and those after it
cut : (front back : List ℕ)
    → HasNoSpace front
    → slice_split (λ b. b == space) (front ++ space ∷ back)
    ≡ front ∷ slice_split (λ b. b == space) back
cut front back nowhere =
    slice_split_at (λ b. b == space) front space back (no_space front nowhere) refl

-- a text without a space is one part, unless it is empty
pub one_part : (value : List ℕ) → HasNoSpace value → value ≢ [] → parts_of value ≡ value ∷ []
one_part [] nowhere some = absurd (some refl)
one_part (c ∷ cs) nowhere some =
    ap (λ (texts : List (List ℕ)). filter (λ part. not (is_empty part)) texts)
    (whole (c ∷ cs) nowhere)

-- before the first space stands a part
pub part_before : (value front back : List ℕ)
    → value ≡ front ++ space ∷ back
    → HasNoSpace front
    → front ≢ []
    → parts_of value ≡ front ∷ parts_of back
part_before value [] back e nowhere some = absurd (some refl)
part_before value (c ∷ cs) back e nowhere some =
    ap parts_of e
    ∙ ap (λ (texts : List (List ℕ)). filter (λ part. not (is_empty part)) texts)
    (cut (c ∷ cs) back nowhere)

-- where no space is found there is none
pub none_found : (value : List ℕ) → list_any (λ c. c == space) value ≡ false → HasNoSpace value
none_found value none i h e =
    false≢true
    (sym none ∙ list_any_at (λ c. c == space) value i 0 h (eq-eqb (get_or value i 0) space e))
