-- A number is read exactly of the decimal text of a number within the limit.
use Rattle.std.proofs.Common.{
  ◌≡◌,
  ℕ,
  ◌≤◌,
  ◌<◌,
  ◌^◌,
  ◌&&◌,
  List,
  Some,
  None,
  nat_le,
  bytes_eq,
  decimal,
  refl,
  ap,
  ◌∙◌,
  arith,
}
use Rattle.std.specs.Str.Parse.{digits_value}
use Rattle.std.proofs.lemmas.Fmt.{decimal_is_IsNumeral}
use Rattle.line_model.specs.Numbers.{IsNumber, number_of}
use Rattle.rd_base.proofs.lemmas.Choices.{let_through, chosen_true}
use Rattle.rd_base.proofs.lemmas.Booleans.{both_parts, both_from}

-- what is read is the number whose text it is
pub number_of-found : (limit : ℕ) (text : List ℕ) (n : ℕ)
    → number_of limit text ≡ Some n
    → IsNumber limit text n
unfolding number_of
number_of-found limit text n e =
    let v = digits_value 10 text in
    let (test, same) = let_through (nat_le v limit && bytes_eq text (decimal v)) v n e in
    let (within, printed) = both_parts v limit text (decimal v) test in
    record { printed = printed ∙ ap (λ m. decimal m) same; within = omega (arith, within, same) }

-- the text of a number within the limit is read as that number
pub number_of-decimal : (limit n : ℕ)
    → n ≤ limit
    → limit < 2 ^ 64
    → number_of limit (decimal n) ≡ Some n
unfolding number_of
number_of-decimal limit n within small =
    let same : digits_value 10 (decimal n) ≡ n = (decimal_is_IsNumeral n (omega arith)).1 in
    rw same (chosen_true (nat_le n limit && bytes_eq (decimal n) (decimal n)) (Some n) None
    (both_from n limit (decimal n) (decimal n) within refl))

-- a text that prints a number within the limit is read as it
pub number_of-IsNumber : (limit : ℕ) (text : List ℕ) (n : ℕ)
    → IsNumber limit text n
    → limit < 2 ^ 64
    → number_of limit text ≡ Some n
number_of-IsNumber limit text n h small =
    ap (number_of limit) h.printed ∙ number_of-decimal limit n h.within small
