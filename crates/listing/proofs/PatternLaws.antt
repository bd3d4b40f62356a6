-- What a pattern matches, by the asterisk that ends it.
use Rattle.std.proofs.Common.{
  ◌≡◌,
  ◌≢◌,
  ℕ,
  ◌==◌,
  Bool,
  true,
  false,
  List,
  [],
  ◌∷◌,
  ◌++◌,
  Option,
  Some,
  None,
  option_map,
  nat_eq,
  bytes_eq,
  ◌||◌,
  refl,
  sym,
  ap,
  ap₂,
  ◌∙◌,
  cond,
}
use Rattle.std.proofs.lemmas.Bool.{eqb-true}
use Rattle.std.specs.List.{list_any, starts_with}
use Rattle.std.specs.Option.{MatchOption, option_copied}
use denote.Ref.{Bor}
use Rattle.link_model.specs.Characters.{asterisk}
use Rattle.record_model.specs.Matching.{
  before_wildcard,
  is_value_of,
  list_names,
  matches_named,
  matches_value,
  parts_of,
}
use Rattle.record_model.specs.Options.{is_among}

-- what stands before the asterisk
before_asterisk : (front : List ℕ) → before_wildcard (front ++ asterisk ∷ []) ≡ Some front
before_asterisk [] = refl
before_asterisk (c ∷ []) = refl
before_asterisk (c ∷ d ∷ cs) =
    ap (option_map (λ (front : List ℕ). c ∷ front)) (before_asterisk (d ∷ cs))

abbrev empty : List ℕ
empty = []

-- where none ends the pattern
no_asterisk : (pattern : List ℕ)
    → ((front : List ℕ) → pattern ≢ front ++ asterisk ∷ [])
    → before_wildcard pattern ≡ None
no_asterisk [] none = refl
no_asterisk (c ∷ []) none = by (c == asterisk) (eqb-true c asterisk)
  where
    by : (is : Bool) → (is ≡ true → c ≡ asterisk) → cond is (Some empty) None ≡ None
    by true same = absurd (none [] (ap (λ d. d ∷ []) (same refl)))
    by false other = refl
no_asterisk (c ∷ d ∷ cs) none =
    ap (option_map (λ (front : List ℕ). c ∷ front))
    (no_asterisk (d ∷ cs) (λ front e. none (c ∷ front) (ap (λ (xs : List ℕ). c ∷ xs) e)))

-- where another octet ends the pattern
pub other_end : (pattern front : List ℕ) (c : ℕ)
    → pattern ≡ front ++ c ∷ []
    → (c == asterisk) ≡ false
    → before_wildcard pattern ≡ None
other_end pattern front c e other = ap before_wildcard e ∙ by front
  where
    by : (front : List ℕ) → before_wildcard (front ++ c ∷ []) ≡ None
    by [] = ap (λ (is : Bool). cond is (Some empty) None) other
    by (d ∷ []) = ap (option_map (λ (front : List ℕ). d ∷ front)) (by [])
    by (d ∷ e ∷ es) = ap (option_map (λ (front : List ℕ). d ∷ front)) (by (e ∷ es))

-- what stands before a wildcard, by what is left without an asterisk at the end
pub before_end : (pattern : List ℕ) (found : Option (Bor (List ℕ)))
    → MatchOption found ((front : List ℕ) → pattern ≢ front ++ asterisk ∷ [])
    (λ front. pattern ≡ front.now ++ asterisk ∷ [])
    → option_copied found ≡ before_wildcard pattern
before_end pattern None none = sym (no_asterisk pattern none)
before_end pattern (Some front) e = sym (ap before_wildcard e ∙ before_asterisk front.now)

-- a pattern with a wildcard matches what begins with the text before it
pub by_front : (pattern value front : List ℕ)
    → Some front ≡ before_wildcard pattern
    → starts_with nat_eq value front ≡ matches_value pattern value
unfolding matches_value
by_front pattern value front e = ap (λ o. is_value_of o pattern value) e

-- and one without a wildcard the equal value
pub by_whole : (pattern value : List ℕ)
    → None ≡ before_wildcard pattern
    → bytes_eq value pattern ≡ matches_value pattern value
unfolding matches_value
by_whole pattern value e = ap (λ o. is_value_of o pattern value) e

-- tests that are the same of each element
pub any_same : {X : Type 0} (test other : X → Bool)
    → ((x : X) → test x ≡ other x)
    → (xs : List X)
    → list_any test xs ≡ list_any other xs
any_same test other same [] = refl
any_same test other same (x ∷ xs) = ap₂ ◌||◌ (same x) (any_same test other same xs)

-- a test that says of each value what the pattern says, of a part of a value of such a name
pub named_part : (name pattern value : List ℕ) (test : List ℕ → Bool)
    → is_among list_names name ≡ true
    → ((part : List ℕ) → test part ≡ matches_value pattern part)
    → list_any test (parts_of value) ≡ matches_named name pattern value
unfolding matches_named
named_part name pattern value test among same =
    rw among (any_same test (matches_value pattern) same (parts_of value))

-- and of the value of another name
pub named_whole : (name pattern value : List ℕ) (test : List ℕ → Bool)
    → is_among list_names name ≡ false
    → ((part : List ℕ) → test part ≡ matches_value pattern part)
    → test value ≡ matches_named name pattern value
unfolding matches_named
named_whole name pattern value test among same = rw among (same value)
