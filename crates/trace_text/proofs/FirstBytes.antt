-- The place that a search for a byte gives is that of the first byte of a list that passes.
use Rattle.std.proofs.Common.{
  ◌≡◌,
  ℕ,
  ◌<◌,
  ◌≤◌,
  Bool,
  true,
  false,
  cond,
  ⊎_elim,
  List,
  length,
  Option,
  Some,
  None,
  refl,
  sym,
  ap,
  ◌∙◌,
  arith,
}
use Rattle.std.specs.Prelude.{IfSome, position}
use Rattle.std.specs.List.{position_or_len}
use Rattle.std.proofs.lemmas.Bool.{cases_lt, false_from_ne_true, le-ltb, lt-ltb}
use Rattle.std.proofs.lemmas.List.Sums.{passes_at_first, position_or_len_is}
use Rattle.memchr.specs.Find.{IsFirstByte}

module _ (test : ℕ → Bool) (text : List ℕ) where
  chosen : (t : Bool) (i : ℕ) → t ≡ true → Some i ≡ cond t (Some i) None
  chosen true i e = refl
  chosen false i e = cc

  left_out : (t : Bool) (i : ℕ) → t ≡ false → None ≡ cond t (Some i) None
  left_out true i e = cc
  left_out false i e = refl

  -- the first that a search finds is the first of the list
  pub first_place : (found : Option ℕ) → IsFirstByte test text found
      → found ≡ position test text
  first_place None h =
      let none : length text ≤ position_or_len test text =
      ⊎_elim (λ below. absurd (h (position_or_len test text) (omega arith) below
      (passes_at_first test text 0 below))) (λ past. past)
      (cases_lt (position_or_len test text) (length text)) in
      left_out _ _ (le-ltb (position_or_len test text) (length text) none)
  first_place (Some at) h =
      let same : position_or_len test text ≡ at =
      position_or_len_is test text at 0 (omega (arith, h.0.high))
      (λ k below. false_from_ne_true _ (h.0.before k (omega arith) below)) (λ _. h.1) in
      let below : position_or_len test text < length text = omega (arith, same, h.0.high) in
      ap (λ k. Some k) (sym same)
      ∙ chosen _ (position_or_len test text)
      (lt-ltb (position_or_len test text) (length text) below)

  -- what a search finds stands in the list
  pub inside : (found : Option ℕ)
      → IsFirstByte test text found
      → IfSome found (λ at. at < length text)
  inside None h = tt
  inside (Some at) h = h.0.high
