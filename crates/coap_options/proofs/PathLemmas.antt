-- The number that few digits say is small.
use Rattle.std.proofs.Common.{
  ◌≡◌,
  ℕ,
  ◌+◌,
  ◌-◌,
  ◌*◌,
  ◌^◌,
  ◌<◌,
  ◌≤◌,
  zero,
  suc,
  true,
  List,
  [],
  ◌∷◌,
  length,
  take,
  refl,
  rules,
  arith,
}
use Rattle.std.specs.Prelude.{fold}
use Rattle.std.specs.List.{list_all}
use Rattle.std.specs.Char.{is_ascii_digit}
use Rattle.std.proofs.lemmas.Bool.{and_parts}
use Rattle.std.proofs.lemmas.List.{length-take}
use Rattle.std.proofs.lemmas.Str.Parse.{IsNumeralModel, numerals_by_fold, digits_value_short}
use Rattle.message_model.specs.Request.{decimal_value}

own : IsNumeralModel (λ text. list_all is_ascii_digit text ≡ true) decimal_value
own =
    numerals_by_fold _ (search rules) (λ n text. fold (λ m digit. m * 10 + (digit - 48)) n text)
    (search rules)

-- The first of some digits are digits.
pub front_digits : (k : ℕ) (text : List ℕ)
    → list_all is_ascii_digit text ≡ true
    → list_all is_ascii_digit (take k text) ≡ true
front_digits zero text e = refl
front_digits (suc k) [] e = refl
front_digits (suc k) (b ∷ text) e =
    let h = and_parts (is_ascii_digit b) (list_all is_ascii_digit text) e in
    rw (h.0, front_digits k text h.1) refl

-- At most 15 digits but the last say a number below 10 ^ 14.
pub front_small : (text : List ℕ)
    → length text ≤ 15
    → 1 ≤ length text
    → list_all is_ascii_digit text ≡ true
    → decimal_value (take (length text - 1) text) < 10 ^ 14
front_small text few some digits =
    digits_value_short own (take (length text - 1) text) 14
    (front_digits (length text - 1) text digits)
    (omega (arith, length-take (length text - 1) text))
