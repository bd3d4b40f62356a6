-- What a pattern matches: the values that begin with what stands before its wildcard, or the equal
-- value.
use Rattle.std.proofs.Common.{
  ◌≡◌,
  ◌↔◌,
  ℕ,
  true,
  List,
  [],
  ◌∷◌,
  ◌++◌,
  length,
  take,
  drop,
  Some,
  None,
  option_map,
  bytes_eq,
  refl,
  sym,
  ap,
  ◌∙◌,
  take-append-drop,
  take_at,
}
use Rattle.std.proofs.lemmas.Slice.Eq.{bytes_eq-Decides}
use Rattle.link_model.specs.Characters.{asterisk}
use Rattle.record_model.specs.Matching.{before_wildcard, is_value_of, matches_value}

-- a pattern that ends with an asterisk has all before it as its front
pub before_wildcard-append : (front : List ℕ)
    → before_wildcard (front ++ asterisk ∷ []) ≡ Some front
before_wildcard-append [] = refl
before_wildcard-append (c ∷ []) = refl
before_wildcard-append (c ∷ d ∷ cs) =
    ap (λ o. option_map (λ (front : List ℕ). c ∷ front) o) (before_wildcard-append (d ∷ cs))

-- what a pattern with a wildcard tests
pub matches_value-append : (front value : List ℕ)
    → matches_value (front ++ asterisk ∷ []) value ≡ bytes_eq front (take (length front) value)
unfolding matches_value
matches_value-append front value =
    ap (λ o. is_value_of o (front ++ asterisk ∷ []) value) (before_wildcard-append front)

-- a pattern that ends with an asterisk matches the values that begin with what stands before it,
-- and no others An end theorem: nothing here cites it.
pub matches_value-wildcard : (front value : List ℕ)
    → (matches_value (front ++ asterisk ∷ []) value ≡ true)
    ↔ ((rest : List ℕ) × (value ≡ front ++ rest))
matches_value-wildcard front value = (
  λ e.
      let same : front ≡ take (length front) value =
      (bytes_eq-Decides front (take (length front) value)).0
      (sym (matches_value-append front value) ∙ e) in (
        drop (length front) value,
        sym (take-append-drop (length front) value)
            ∙ ap (λ (xs : List ℕ). xs ++ drop (length front) value) (sym same),
      ),
  λ (rest, split).
      let same : take (length front) value ≡ front =
      ap (take (length front)) split ∙ take_at front rest (length front) refl in
      matches_value-append front value
      ∙ (bytes_eq-Decides front (take (length front) value)).1 (sym same),
)

-- any other pattern matches the equal value alone
-- An end theorem: nothing here cites it.
pub matches_value-plain : (pattern value : List ℕ)
    → before_wildcard pattern ≡ None
    → (matches_value pattern value ≡ true) ↔ (value ≡ pattern)
unfolding matches_value
matches_value-plain pattern value without =
    let test : matches_value pattern value ≡ bytes_eq value pattern =
    ap (λ o. is_value_of o pattern value) without in (
      λ e. (bytes_eq-Decides value pattern).0 (sym test ∙ e),
      λ e. test ∙ (bytes_eq-Decides value pattern).1 e,
    )
