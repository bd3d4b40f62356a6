-- Options in order: what one more at the end adds to their spelling, and which numbers stand among
-- them.
use Rattle.std.proofs.Common.{
  ◌≡◌,
  ℕ,
  ◌≤◌,
  eqb,
  List,
  [],
  ◌∷◌,
  ◌++◌,
  refl,
  sym,
  ap,
  ◌∙◌,
  append_assoc,
  arith,
  inl,
  inr,
}
use Rattle.std.specs.Prelude.{⊤, ◌==◌}
use Rattle.std.proofs.lemmas.Bool.{cases_Bool, eqb-true, eq-eqb}
use Rattle.std.proofs.lemmas.List.{append-nil}
use Rattle.std.proofs.Math.Bool.{or-false}
use Rattle.message_model.specs.Message.{Opt, AreOptionsAfter, end_number}
use Rattle.message_model.specs.Spelling.{option_spelling, options_spelling}
use Rattle.message_model.specs.OptionTable.{stands_in}
use Rattle.message_model.proofs.OptionLemmas.{IsOptionAfter}

-- ---- which numbers stand among them

-- Options after one of the number before, none with a lower number than the one before it.
abbrev pub AreAscending : ℕ → List Opt → Type 0
AreAscending before [] = ⊤
AreAscending before (option ∷ options) = (before ≤ option.0) × AreAscending option.0 options

pub end_number-ge : (before : ℕ) (options : List Opt)
    → AreAscending before options
    → before ≤ end_number before options
end_number-ge before [] rise = omega arith
end_number-ge before (option ∷ options) rise =
    let rises : before ≤ option.0 = rise.0 in
    omega (arith, end_number-ge option.0 options rise.1)

-- Of ascending options, one of a number that is not below the last stands there exactly where the
-- last one has it.
pub stands_in-ascending : (first : Opt) (options : List Opt) (number : ℕ)
    → AreAscending first.0 options
    → end_number first.0 options ≤ number
    → stands_in number (first ∷ options) ≡ (end_number first.0 options == number)
stands_in-ascending first [] number rise most = or-false (first.0 == number)
stands_in-ascending first (option ∷ options) number rise most =
    let rises : first.0 ≤ option.0 = rise.0 in
    let ends = end_number-ge option.0 options rise.1 in
    let others : stands_in number (option ∷ options) ≡ (end_number option.0 options == number) =
    stands_in-ascending option options number rise.1 most in
    elim (cases_Bool (eqb first.0 number)) [
      | inl same ↦
          let all_same : end_number option.0 options ≡ number = omega (arith, eqb-true _ _ same) in
          rw (same, eq-eqb _ _ all_same) refl
      | inr other ↦ rw (other, others) refl
    ]

-- ---- one more option at the end

pub end_number-push : (before : ℕ) (options : List Opt) (option : Opt)
    → end_number before (options ++ option ∷ []) ≡ option.0
end_number-push before [] option = refl
end_number-push before (first ∷ options) option = end_number-push first.0 options option

pub AreOptionsAfter-push : (before : ℕ) (options : List Opt) (option : Opt)
    → AreOptionsAfter before options
    → IsOptionAfter (end_number before options) option
    → AreOptionsAfter before (options ++ option ∷ [])
AreOptionsAfter-push before [] option fits last =
    (last.ascends, last.number, last.size, last.value, tt)
AreOptionsAfter-push before (first ∷ options) option fits last =
    (fits.0, fits.1, fits.2, fits.3, AreOptionsAfter-push first.0 options option fits.4 last)

pub options_spelling-push : (before : ℕ) (options : List Opt) (option : Opt)
    → options_spelling before (options ++ option ∷ [])
    ≡ options_spelling before options ++ option_spelling (end_number before options) option
unfolding options_spelling
options_spelling-push before [] option = append-nil (option_spelling before option)
options_spelling-push before (first ∷ options) option =
    ap (λ (t : List ℕ). option_spelling before first ++ t)
    (options_spelling-push first.0 options option)
    ∙ sym (append_assoc (option_spelling before first) (options_spelling first.0 options)
    (option_spelling (end_number first.0 options) option))

-- ---- options with no payload behind them
