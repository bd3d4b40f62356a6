-- The fields of a text by the offset of its first space.
use Rattle.std.proofs.Common.{
  ◌≡◌,
  ℕ,
  ◌+◌,
  ◌≤◌,
  Bool,
  true,
  false,
  cond,
  List,
  [],
  ◌∷◌,
  length,
  take,
  drop,
  Some,
  None,
  refl,
  sym,
  ap,
  ◌∙◌,
  arith,
}
use Rattle.std.specs.Prelude.{◌==◌, position}
use Rattle.std.specs.List.{position_or_len}
use Rattle.std.proofs.lemmas.Bool.{ltb-false, ltb-true}
use Rattle.std.proofs.lemmas.List.Elements.{All-from_get_or}
use Rattle.std.proofs.lemmas.List.Splits.{slice_split_none, slice_split_first}
use Rattle.std.proofs.lemmas.List.Sums.{fails_before_first}
use Rattle.line_model.specs.Lines.{space, fields}

abbrev first_space : List ℕ → ℕ
first_space text = position_or_len (λ b. b == space) text

none_there : (t : Bool) (i : ℕ) → None ≡ cond t (Some i) None → t ≡ false
none_there true i e = cc
none_there false i e = refl

some_there : (t : Bool) (i at : ℕ) → Some at ≡ cond t (Some i) None → (t ≡ true) × (at ≡ i)
some_there true i at e = (refl, cc)
some_there false i at e = cc

-- without a space there is one field
pub one_field : (text : List ℕ) → None ≡ position (λ b. b == space) text → fields text ≡ text ∷ []
one_field text e =
    let all : length text ≤ first_space text =
    ltb-false (first_space text) (length text) (none_there _ (first_space text) e) in
    slice_split_none (λ b. b == space) text
    (All-from_get_or (λ b. (b == space) ≡ false) text 0
    λ k h. fails_before_first (λ b. b == space) text k 0 (omega (arith, all, h)))

-- the field before the first space, and the fields after it
pub first_field : (text : List ℕ) (at : ℕ)
    → Some at ≡ position (λ b. b == space) text
    → fields text ≡ take at text ∷ fields (drop (at + 1) text)
first_field text at e =
    let there = some_there _ (first_space text) at e in
    slice_split_first (λ b. b == space) text 0 (ltb-true (first_space text) (length text) there.0)
    ∙ ap (λ k. take k text ∷ fields (drop (k + 1) text)) (sym there.1)
