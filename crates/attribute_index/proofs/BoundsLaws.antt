-- Which abbreviations are of values that a pattern matches, of those that spell the whole of them.
use Rattle.std.proofs.Common.{
  ◌≡◌,
  ℕ,
  ◌+◌,
  ◌<◌,
  Bool,
  true,
  false,
  ◌&&◌,
  ◌==◌,
  arith,
  drop,
  take,
  length,
  List,
  [],
  ◌∷◌,
  Option,
  Some,
  None,
  map,
  nat_eq,
  nat_cmp,
  bytes_eq,
  unwrap_or,
  refl,
  sym,
  ap,
  ◌∙◌,
  subst,
}
use lib.Pointwise.{pointwise}
use Rattle.std.specs.declared.cmp.Ordering.{Ordering}
use Rattle.std.specs.declared.cmp.Ordering.TheVariants.{Less, Equal, Greater}
use Rattle.std.specs.Ordering.{is_eq, is_le, is_lt, ordering_then, MatchOrdering}
use Rattle.std.specs.Cmp.{ranks}
use Rattle.std.specs.Cmp.Lexicographic.{slice_cmp}
use Rattle.std.specs.List.{starts_with}
use Rattle.std.proofs.lemmas.Bool.{eq-eqb, ne_eqb}
use Rattle.std.proofs.lemmas.Bool.Decides.{nat_tests}
use Rattle.record_model.specs.Matching.{before_wildcard, is_value_of, matches_value}
use Rattle.attribute_index.specs.declared.abbreviations.Abbreviation.{Abbreviation}
use Rattle.attribute_index.specs.declared.bounds.Bounds.{Bounds}
use Rattle.attribute_index.specs.Abbreviations.{
  IsAbbreviation,
  abbreviation_cmp,
  symbols_of,
  raised,
}
use Rattle.attribute_index.specs.Bounds.{AreBounds, IsEnd, is_in, is_within}
use Rattle.attribute_index.specs.Rows.{is_wanted}
use Rattle.attribute_index.proofs.AbbreviationLaws.{
  are_raised,
  by_abbreviations_first,
  spelled_first,
  spelled_second,
  symbols_cmp,
  value_symbols,
}
use Rattle.attribute_index.proofs.RowLaws.{same_at}

-- ---- symbols that begin with others

-- the order of two numbers as that of one and the next
by_last : (s x : ℕ) (q r : Ordering) (more : List ℕ)
    → MatchOrdering q (s < x) (s ≡ x) (x < s)
    → MatchOrdering r (x < s + 1) (x ≡ s + 1) (s + 1 < x)
    → (is_le (ordering_then q (slice_cmp nat_cmp [] more))
    && is_lt (ordering_then r (slice_cmp nat_cmp more []))) ≡ (nat_eq s x && true)
by_last s x Less Less more h k = absurd (omega arith)
by_last s x Less Equal [] h k = sym (ap (λ t. t && true) (ne_eqb s x (λ e. omega arith)))
by_last s x Less Equal (m ∷ more) h k =
    sym (ap (λ t. t && true) (ne_eqb s x (λ e. omega arith)))
by_last s x Less Greater more h k = sym (ap (λ t. t && true) (ne_eqb s x (λ e. omega arith)))
by_last s x Equal Less [] h k = sym (ap (λ t. t && true) (eq-eqb s x h))
by_last s x Equal Less (m ∷ more) h k = sym (ap (λ t. t && true) (eq-eqb s x h))
by_last s x Equal Equal more h k = absurd (omega arith)
by_last s x Equal Greater more h k = absurd (omega arith)
by_last s x Greater r more h k = sym (ap (λ t. t && true) (ne_eqb s x (λ e. omega arith)))

by_first : (s x : ℕ) (q r t u : Ordering) (begins : Bool)
    → MatchOrdering q (s < x) (s ≡ x) (x < s) → MatchOrdering r (x < s) (x ≡ s) (s < x)
    → (is_le t && is_lt u) ≡ begins
    → (is_le (ordering_then q t) && is_lt (ordering_then r u)) ≡ (nat_eq s x && begins)
by_first s x Less Less t u begins h k more = absurd (omega arith)
by_first s x Less Equal t u begins h k more = absurd (omega arith)
by_first s x Less Greater t u begins h k more =
    sym (ap (λ b. b && begins) (ne_eqb s x (λ e. omega arith)))
by_first s x Equal Less t u begins h k more = absurd (omega arith)
by_first s x Equal Equal t u begins h k more = more ∙ sym (ap (λ b. b && begins) (eq-eqb s x h))
by_first s x Equal Greater t u begins h k more = absurd (omega arith)
by_first s x Greater r t u begins h k more =
    sym (ap (λ b. b && begins) (ne_eqb s x (λ e. omega arith)))

-- symbols begin with others where they are not before these, and before them with the last one
-- raised
begins_within : (s : ℕ) (ss xs : List ℕ)
    → (is_le (slice_cmp nat_cmp (s ∷ ss) xs) && is_lt (slice_cmp nat_cmp xs (raised (s ∷ ss))))
    ≡ starts_with nat_eq xs (s ∷ ss)
begins_within s [] [] = refl
begins_within s (t ∷ ss) [] = refl
begins_within s [] (x ∷ xs) =
    by_last s x (nat_cmp s x) (nat_cmp x (s + 1)) xs (ranks s x) (ranks x (s + 1))
begins_within s (t ∷ ss) (x ∷ xs) =
    by_first s x (nat_cmp s x) (nat_cmp x s) (slice_cmp nat_cmp (t ∷ ss) xs)
    (slice_cmp nat_cmp xs (raised (t ∷ ss))) (starts_with nat_eq xs (t ∷ ss)) (ranks s x)
    (ranks x s) (begins_within t ss xs)

symbols_within : (name front xs : List ℕ)
    → (is_le (slice_cmp nat_cmp (symbols_of (name, front)) xs)
    && is_lt (slice_cmp nat_cmp xs (raised (symbols_of (name, front)))))
    ≡ starts_with nat_eq xs (symbols_of (name, front))
symbols_within [] front xs = begins_within 0 (map (λ octet. octet + 1) front) xs
symbols_within (c ∷ name) front xs = begins_within (c + 1) (symbols_of (name, front)) xs

-- ---- names and values that begin with others

same_lifted : (c x : ℕ) → nat_eq (c + 1) (x + 1) ≡ nat_eq c x
same_lifted c x = grind (arith, nat_tests)

same_swapped : (c x : ℕ) → nat_eq (c + 1) (x + 1) ≡ nat_eq x c
same_swapped c x = grind (arith, nat_tests)

text_begins : (value front : List ℕ)
    → starts_with nat_eq (map (λ octet. octet + 1) value) (map (λ octet. octet + 1) front)
    ≡ starts_with nat_eq value front
text_begins value [] = refl
text_begins [] (c ∷ front) = refl
text_begins (x ∷ value) (c ∷ front) =
    ap (λ t. t && starts_with nat_eq (map (λ octet. octet + 1) value)
    (map (λ octet. octet + 1) front)) (same_lifted c x)
    ∙ ap (λ t. nat_eq c x && t) (text_begins value front)

symbols_begin : (name front own value : List ℕ)
    → starts_with nat_eq (symbols_of (own, value)) (symbols_of (name, front))
    ≡ (bytes_eq own name && starts_with nat_eq value front)
symbols_begin [] front [] value = text_begins value front
symbols_begin [] front (x ∷ own) value =
    ap (λ t. t && starts_with nat_eq (symbols_of (own, value)) (map (λ octet. octet + 1) front))
    (ne_eqb 0 (x + 1) (λ e. omega arith))
symbols_begin (c ∷ name) front [] value =
    ap (λ t. t && starts_with nat_eq (map (λ octet. octet + 1) value) (symbols_of (name, front)))
    (ne_eqb (c + 1) 0 (λ e. omega arith))
symbols_begin (c ∷ name) front (x ∷ own) value =
    ap (λ t. t && starts_with nat_eq (symbols_of (own, value)) (symbols_of (name, front)))
    (same_swapped c x)
    ∙ ap (λ t. nat_eq x c && t) (symbols_begin name front own value)
    ∙ and_other (nat_eq x c) (bytes_eq own name) (starts_with nat_eq value front)
  where
    and_other : (a b c : Bool) → (a && (b && c)) ≡ ((a && b) && c)
    and_other true b c = refl
    and_other false b c = refl

-- ---- bounds

module _ (from f : Abbreviation) (name pattern : List ℕ) (v : List ℕ × List ℕ)
    (is : IsAbbreviation f v) (short : drop 23 (symbols_of v) ≡ []) where
  within : (wildcard : Option (List ℕ)) (end : Option Abbreviation)
      → IsAbbreviation from (name, unwrap_or wildcard pattern) → IsEnd name wildcard end
      → is_in from end f ≡ (bytes_eq v.0 name && is_value_of wildcard pattern v.1)
  within None None first last =
      ap is_eq (by_abbreviations_first f from v (name, pattern) is first short)
      ∙ same_at v (name, pattern)
  within (Some front) (Some end) first last =
      ap (λ r. is_le r && is_lt (abbreviation_cmp f end))
      (spelled_second from f (symbols_of (name, front)) (symbols_of v) first.spells is.spells
      (value_symbols from (name, front) first) (value_symbols f v is) short)
      ∙ ap (λ r. is_le (slice_cmp nat_cmp (symbols_of (name, front)) (symbols_of v)) && is_lt r)
      (spelled_first f end (symbols_of v) (raised (symbols_of (name, front))) is.spells last
      (value_symbols f v is) (are_raised name front first.name_octets first.value_octets) short)
      ∙ symbols_within name front (symbols_of v)
      ∙ symbols_begin name front v.0 v.1
  within None (Some end) first last = absurd last
  within (Some front) None first last = absurd last

-- a value that has fewer than 24 symbols is wanted where its abbreviation is within the bounds
pub wanted_within : (bounds : Bounds) (name pattern : List ℕ) (f : Abbreviation)
    (v : List ℕ × List ℕ) → AreBounds bounds name pattern → IsAbbreviation f v
    → drop 23 (symbols_of v) ≡ [] → is_within bounds f ≡ is_wanted name pattern v
unfolding matches_value
wanted_within bounds name pattern f v are is short =
    within bounds.from f name pattern v is short (before_wildcard pattern) bounds.end are.from
    are.end
