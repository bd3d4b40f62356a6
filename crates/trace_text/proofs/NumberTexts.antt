-- A number is what a text parses to, where the text begins above the digit 0 or has one octet.
use Rattle.std.proofs.Common.{
  ◌≡◌,
  ◌≢◌,
  ℕ,
  ◌≤◌,
  ◌<◌,
  ◌^◌,
  Bool,
  true,
  false,
  ◌⊎◌,
  inl,
  inr,
  ⊎_elim,
  List,
  length,
  Option,
  Some,
  None,
  Result,
  Ok,
  Err,
  decimal,
  refl,
  sym,
  ap,
  subst,
  ◌∙◌,
  arith,
}
use Rattle.std.specs.Prelude.{◌==◌, ◌||◌, nat_lt, slice_index}
use Rattle.std.specs.Str.{IsUtf8}
use Rattle.std.specs.Str.Parse.{
  AllDigits,
  IsNumeral,
  ParsesUnsigned,
  digits_value,
  without_leading_plus,
}
use Rattle.std.proofs.lemmas.Str.{IsUtf8-from_ascii}
use Rattle.std.proofs.lemmas.Str.Parse.{
  numerals_by_value,
  tells_digits,
  without_leading_plus_none,
  without_leading_plus_plus,
}
use Rattle.std.proofs.lemmas.Fmt.{
  IsAscii-decimal,
  decimal-digits_value,
  decimal_digit,
  first_decimal,
  parse-decimal,
}
use Rattle.std.proofs.lemmas.List.{length-drop}
use Rattle.std.proofs.lemmas.Bool.{cases_lt, eqb-false, eqb-true, ltb-false, ltb-true}
use Rattle.line_model.specs.Numbers.{number_of}
use Rattle.line_model.proofs.Numbers.{number_of-found, number_of-IsNumber}

either_false : (a b : Bool) → (a || b) ≡ false → (a ≡ false) × (b ≡ false)
either_false true b e = cc
either_false false b e = (refl, e)

either_true : (a b : Bool) → (a || b) ≡ true → (a ≡ true) ⊎ (b ≡ true)
either_true true b e = inl refl
either_true false b e = inr e

-- it has one octet, or begins above the digit 0
abbrev is_plain : List ℕ → Bool
is_plain text = length text == 1 || nat_lt 48 (slice_index text 0)

-- a number is printed so
printed_plain : (text : List ℕ) (n : ℕ) → n < 2 ^ 64 → is_plain text ≡ false
    → text ≢ decimal n
printed_plain text n small other printed =
    let parts = either_false (length text == 1) (nat_lt 48 (slice_index text 0)) other in
    let low = ltb-false 48 (slice_index text 0) parts.1 in
    let begins = ap (λ (t : List ℕ). slice_index t 0) printed in
    ⊎_elim
    (λ pos. absurd (omega (arith, low, begins, first_decimal n pos small)))
    (λ none. absurd (eqb-false (length text) 1 parts.0
    (ap (λ (t : List ℕ). length t) (printed ∙ decimal_digit n (omega (arith, none))))))
    (cases_lt 0 n)

-- what parses so is printed
module _ (text : List ℕ) (plain : is_plain text ≡ true)
    (numeral : IsNumeral 10 (without_leading_plus text)) where
  shape : (length text ≡ 1) ⊎ (48 < slice_index text 0)
  shape = ⊎_elim (λ one. inl (eqb-true (length text) 1 one))
      (λ above. inr (ltb-true 48 (slice_index text 0) above))
      (either_true (length text == 1) (nat_lt 48 (slice_index text 0)) plain)

  no_plus : slice_index text 0 ≢ 43
  no_plus plus = ⊎_elim
      (λ one. absurd (omega (
        arith,
        one,
        numeral.0,
        length-drop 1 text,
        ap (λ (t : List ℕ). length t) (without_leading_plus_plus text plus),
      )))
      (λ above. absurd (omega (arith, above, plus)))
      shape

  same_text : without_leading_plus text ≡ text
  same_text = without_leading_plus_none text no_plus

  one_zero : slice_index text 0 ≡ 48 → length text ≡ 1
  one_zero zero = ⊎_elim (λ one. one) (λ above. absurd (omega (arith, above, zero))) shape

  prints : (n : ℕ)
      → digits_value 10 (without_leading_plus text) < 2 ^ 64
      → n ≡ digits_value 10 (without_leading_plus text)
      → text ≡ decimal n
  prints n small value =
      let own = subst (λ (t : List ℕ). IsNumeral 10 t) same_text numeral in
      let same = ap (λ (t : List ℕ). digits_value 10 t) same_text in
      sym (decimal-digits_value (numerals_by_value (AllDigits 10) tells_digits) text own.1 own.0
      one_zero (omega (arith, small, same)))
      ∙ ap (λ k. decimal k) (sym (value ∙ same))

no_value : (o : Option ℕ) → ((n : ℕ) → o ≢ Some n) → None ≡ o
no_value None h = refl
no_value (Some n) h = absurd (h n refl)

module _ (limit : ℕ) (text : List ℕ) (fits : limit < 2 ^ 64) where
  none_where : ((n : ℕ) → n ≤ limit → text ≢ decimal n) → None ≡ number_of limit text
  none_where h =
      no_value (number_of limit text) λ n e. let is =
      number_of-found limit text n e in h n is.within is.printed

  -- no text
  pub not_text : ¬ (IsUtf8 text) → None ≡ number_of limit text
  not_text h = none_where λ n within printed.
      h (subst IsUtf8 (sym printed)
      (IsUtf8-from_ascii (decimal n) (IsAscii-decimal n (omega (arith, within, fits)))))

  module _ {E : Type 0} (digits : List ℕ) (r : Result ℕ E) (same : digits ≡ text)
      (parsed : ParsesUnsigned 64 10 digits r) where
    parses_to : (n : ℕ) → n ≤ limit → text ≡ decimal n → r ≡ Ok n
    parses_to n within printed =
        parse-decimal 64 n digits r (omega (arith, within, fits)) (omega (arith, within, fits))
        (same ∙ printed) parsed

    -- no number
    pub not_parsed : (e : E) → r ≡ Err e → None ≡ number_of limit text
    not_parsed e err = none_where λ n within printed. let ok = parses_to n within printed in cc

    same_number : (m n : ℕ) → r ≡ Ok m → n ≤ limit → text ≡ decimal n → m ≡ n
    same_number m n ok within printed = let other = parses_to n within printed in cc

    -- past the limit
    pub too_great : (m : ℕ) → r ≡ Ok m → limit < m → None ≡ number_of limit text
    too_great m ok more =
        none_where λ n within printed. let same_n =
        same_number m n ok within printed in omega (arith, same_n, within, more)

    -- the number
    pub is_number : (m : ℕ)
        → r ≡ Ok m
        → m ≤ limit
        → is_plain text ≡ true
        → Some m ≡ number_of limit text
    is_number m ok within plain =
        let read : ParsesUnsigned {E = E} 64 10 text (Ok m) =
        subst (λ (t : List ℕ). ParsesUnsigned {E = E} 64 10 t (Ok m)) same
        (subst (λ (o : Result ℕ E). ParsesUnsigned 64 10 digits o) ok parsed) in
        sym (number_of-IsNumber limit text m
        (record { printed = prints text plain read.0.0 m read.0.1 read.1; within = within })
        fits)

  -- no number begins so
  pub not_plain : is_plain text ≡ false → None ≡ number_of limit text
  not_plain other = none_where λ n within.
      printed_plain text n (omega (arith, within, fits)) other
