-- A number is what digits parse to.
use Rattle.std.proofs.Common.{
  ◌≡◌,
  ℕ,
  ◌≤◌,
  ◌<◌,
  true,
  false,
  Bool,
  List,
  [],
  ◌∷◌,
  Some,
  None,
  Result,
  Ok,
  Err,
  length,
  sym,
  ap,
  ◌∙◌,
  rules,
  arith,
}
use Rattle.std.specs.Prelude.{◌==◌, nat_le, if◌then◌else◌}
use Rattle.std.specs.List.{list_all}
use Rattle.std.specs.Char.{is_ascii_digit}
use Rattle.std.specs.Str.Parse.{ParsesUnsigned, digits_value}
use Rattle.std.proofs.lemmas.Result.{OkIff-at_ok, OkIff-at_err}
use Rattle.std.proofs.lemmas.Str.Parse.{IsNumeralModel, numerals_by_value, parse_digits}
use Rattle.std.proofs.lemmas.Bool.Decides.{nat_tests}
use Rattle.record_model.specs.Options.{max_number}
use Rattle.query_text.specs.Numbers.{number_in}

own : IsNumeralModel (λ ds. list_all is_ascii_digit ds ≡ true) (digits_value 10)
own = numerals_by_value _ (search rules)

-- the tests of a number that are left, where the others are passed
tests_left : (text : List ℕ)
    → 0 < length text
    → length text ≤ 10
    → list_all is_ascii_digit text ≡ true
    → (b : Bool)
    → nat_le (digits_value 10 text) max_number ≡ b
    → number_in text ≡ (if b then Some (digits_value 10 text) else None)
tests_left [] some short digits b e = absurd (omega (arith, some))
tests_left (c ∷ cs) some short digits b e = grind (arith, nat_tests, some, short, digits, e)

module _ {E : Type 0} (text : List ℕ) (r : Result ℕ E) (parsed : ParsesUnsigned 32 10 text r)
    (filled : (length text == 0) ≡ false) (short : length text ≤ 10)
    (digits : list_all is_ascii_digit text ≡ true) where
  some : 0 < length text
  some = grind (arith, nat_tests, filled)

  pub parsed_number : (n : ℕ) → r ≡ Ok n → Some n ≡ number_in text
  parsed_number n ok =
      let found = OkIff-at_ok r _ _ n (parse_digits own 32 text r parsed digits) ok in
      let small : nat_le (digits_value 10 text) max_number ≡ true =
      grind (arith, nat_tests, found.0.1) in
      ap (λ k. Some k) found.1 ∙ sym (tests_left text some short digits true small)

  pub great_number : (e : E) → r ≡ Err e → None ≡ number_in text
  great_number e err =
      let great : nat_le (digits_value 10 text) max_number ≡ false =
      grind (
        arith,
        nat_tests,
        OkIff-at_err r _ _ e (parse_digits own 32 text r parsed digits)
            err,
      ) in
      sym (tests_left text some short digits false great)
