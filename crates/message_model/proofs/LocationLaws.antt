-- A location is the decimal text of its number, and no other text names it.
use Rattle.std.proofs.Common.{
  ◌≡◌,
  ℕ,
  ◌+◌,
  ◌-◌,
  ◌*◌,
  ◌^◌,
  ◌<◌,
  ◌≤◌,
  Bool,
  true,
  false,
  not,
  leb,
  eqb,
  cond,
  List,
  [],
  ◌∷◌,
  length,
  get_or,
  refl,
  sym,
  ap,
  subst,
  ◌∙◌,
  arith,
  inl,
  inr,
}
use Rattle.std.specs.Prelude.{fold, codes, bytes_eq}
use Rattle.std.specs.Fmt.{decimal, digits}
use Rattle.std.specs.List.{list_all}
use Rattle.std.specs.Char.{is_ascii_digit}
use Rattle.std.proofs.Common.{rules}
use Rattle.std.proofs.lemmas.Bool.{
  cases_order,
  both_ways,
  leb-true,
  le-leb,
  not-true,
  ne_eqb,
  eq-eqb,
}
use Rattle.std.proofs.lemmas.Fmt.{
  decimal-digits_value,
  digits_decimal,
  digits_value-decimal,
  length-decimal-le,
  decimal_nonempty,
  first_decimal,
}
use Rattle.std.proofs.lemmas.Str.Parse.{IsNumeralModel, numerals_by_fold, digits_value_short}
use Rattle.message_model.specs.declared.requests.Path.{Path}
use Rattle.message_model.specs.declared.requests.Path.TheVariants as path
use Rattle.message_model.specs.Request.{
  has_leading_zero,
  is_location,
  decimal_value,
  location_of,
  well_known_of,
  lookup_of,
  path_of,
}
use Rattle.message_model.proofs.KeyLaws.{FitsKey}
use Rattle.rd_base.proofs.lemmas.Booleans.{and_four}
use Rattle.rd_base.proofs.lemmas.Choices.{either_of}

abbrev are_digits : List ℕ → Bool
are_digits text = list_all is_ascii_digit text

own : IsNumeralModel (λ text. are_digits text ≡ true) decimal_value
own =
    numerals_by_fold _ (search rules) (λ n text. fold (λ m digit. m * 10 + (digit - 48)) n text)
    (search rules)

-- the four parts of the test
record IsLocation (text : List ℕ) : Type 0 where
  some : 1 ≤ length text
  few : length text ≤ 15
  digits : are_digits text ≡ true
  plain : has_leading_zero text ≡ false

location_parts : (text : List ℕ) → is_location text ≡ true → IsLocation text
location_parts text e =
    let h =
    and_four (leb 1 (length text)) (leb (length text) 15) (are_digits text)
    (not (has_leading_zero text)) e in
    record { some = leb-true _ _ h.0; few = leb-true _ _ h.1; digits = h.2; plain = not-true _ h.3 }

one_zero : (text : List ℕ)
    → has_leading_zero text ≡ false
    → get_or text 0 0 ≡ 48
    → 0 < length text
    → length text ≡ 1
one_zero [] plain zero some = absurd (omega arith)
one_zero (b ∷ []) plain zero some = refl
one_zero (b ∷ c ∷ others) plain zero some = absurd (both_ways (eqb b 48) plain (eq-eqb b 48 zero))

value_small : (text : List ℕ) → IsLocation text → decimal_value text < 10 ^ 15
value_small text h = digits_value_short own text 15 h.digits h.few

no_location : (n : ℕ) → path.Other ≡ path.Location n → ⊥
no_location n e = cc

same_number : (a b : ℕ) → path.Location a ≡ path.Location b → a ≡ b
same_number a b e = cc

-- What is read as a location is the decimal text of its number.
-- An end theorem: nothing here cites it.
pub location_found : (text : List ℕ) (n : ℕ)
    → location_of text ≡ path.Location n
    → (text ≡ decimal n) × (n < 10 ^ 15)
unfolding location_of
location_found text n e =
    elim (either_of (is_location text) _ _ (path.Location n) e) [
      | inl named ↦
          let h = location_parts text named.0 in
          let small = value_small text h in
          let same = same_number (decimal_value text) n named.1 in
          let some : 0 < length text = omega (arith, h.some) in
          let short : decimal_value text < 2 ^ 64 = omega (arith, small) in
          let back : decimal (decimal_value text) ≡ text =
          decimal-digits_value own text h.digits some (λ zero. one_zero text h.plain zero some)
          short in
          (sym back ∙ ap decimal same, subst (λ (k : ℕ). k < 10 ^ 15) same small)
      | inr other ↦ absurd (no_location n other.1)
    ]

plain_above : (text : List ℕ) → 48 < get_or text 0 0 → has_leading_zero text ≡ false
plain_above [] above = refl
plain_above (b ∷ []) above = refl
plain_above (b ∷ c ∷ others) above = ne_eqb b 48 (λ same. absurd (omega arith))

zero_plain : has_leading_zero (decimal 0) ≡ false
unfolding digits
zero_plain = refl

plain_decimal : (n : ℕ) → n < 10 ^ 15 → has_leading_zero (decimal n) ≡ false
plain_decimal n small =
    elim (cases_order n 0) [
      | inl none ↦ subst (λ (k : ℕ). has_leading_zero (decimal k) ≡ false) (sym none) zero_plain
      | inr other ↦ elim other [
        | inl below ↦ absurd (omega arith)
        | inr above ↦ plain_above (decimal n) (first_decimal n above (omega arith))
      ]
    ]

-- The decimal text of a number of at most 15 digits is read as its location.
-- An end theorem: nothing here cites it.
pub location_again : (n : ℕ) → n < 10 ^ 15 → location_of (decimal n) ≡ path.Location n
unfolding location_of
location_again n small =
    let short : n < 2 ^ 64 = omega arith in
    let some : leb 1 (length (decimal n)) ≡ true =
    le-leb 1 (length (decimal n)) (omega (arith, decimal_nonempty n short)) in
    let few : leb (length (decimal n)) 15 ≡ true =
    le-leb _ _ (length-decimal-le 15 n (omega arith) small short) in
    let digits : are_digits (decimal n) ≡ true = digits_decimal own n short in
    let value : decimal_value (decimal n) ≡ n = digits_value-decimal own n short in
    rw (some, few, digits, plain_decimal n small, value) refl

-- a path fits a key where its number does, if it is a location
numbered_fits : (p : Path) → ((n : ℕ) → p ≡ path.Location n → n < 2 ^ 64) → FitsKey p
numbered_fits path.Core low = tt
numbered_fits path.SimpleRd low = tt
numbered_fits path.Rd low = tt
numbered_fits (path.Location n) low = low n refl
numbered_fits path.Res low = tt
numbered_fits path.Ep low = tt
numbered_fits path.Other low = tt

location_fits : (text : List ℕ) → FitsKey (location_of text)
location_fits text =
    numbered_fits (location_of text)
    (λ n e. let small = (location_found text n e).1 in omega (arith, small))

-- The path that segments name fits a key: a location has at most 15 digits.
pub path_fits : (segments : List (List ℕ)) → FitsKey (path_of segments)
unfolding path_of
path_fits [] = tt
path_fits (first ∷ []) = by (bytes_eq first (codes "rd"))
  where
    by : (b : Bool) → FitsKey (cond b path.Rd path.Other)
    by true = tt
    by false = tt
path_fits (first ∷ second ∷ []) =
    by (bytes_eq first (codes ".well-known")) (bytes_eq first (codes "rd"))
    (bytes_eq first (codes "rd-lookup"))
  where
    known : (a b : Bool) → FitsKey (cond a path.Core (cond b path.SimpleRd path.Other))
    known true b = tt
    known false true = tt
    known false false = tt

    looked : (a b : Bool) → FitsKey (cond a path.Res (cond b path.Ep path.Other))
    looked true b = tt
    looked false true = tt
    looked false false = tt

    by : (a b c : Bool)
        → FitsKey (cond a (well_known_of second)
        (cond b (location_of second) (cond c (lookup_of second) path.Other)))
    by true b c = known (bytes_eq second (codes "core")) (bytes_eq second (codes "rd"))
    by false true c = location_fits second
    by false false true = looked (bytes_eq second (codes "res")) (bytes_eq second (codes "ep"))
    by false false false = tt
path_fits (first ∷ second ∷ third ∷ others) = tt
