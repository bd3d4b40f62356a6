-- The values of a number that may be repeated, from the left.
use Rattle.std.proofs.Common.{
  ◌≡◌,
  ℕ,
  Bool,
  true,
  false,
  suc,
  ◌≤◌,
  ◌&&◌,
  cond,
  eqb,
  List,
  [],
  ◌∷◌,
  ◌++◌,
  length,
  refl,
  sym,
  ap,
  ◌∙◌,
  append_assoc,
  inl,
  inr,
  arith,
}
use Rattle.std.specs.Prelude.{◌==◌}
use Rattle.std.proofs.lemmas.Bool.{cases_Bool, eqb-true}
use Rattle.std.proofs.lemmas.List.{append-nil}
use Rattle.std.proofs.Math.Bool.{and-false, and-true}
use Rattle.message_model.specs.Message.{Opt}
use Rattle.message_model.specs.OptionTable as table
use Rattle.message_model.specs.OptionTable.{
  definition_of,
  stands_in,
  is_allowed_by,
  is_recognized,
  preceded_options,
  recognized_options,
  values,
}
use Rattle.message_model.proofs.TableLemmas.{values-push}
use Rattle.coap_options.specs.ValuesLeft.{values_left}

-- the test of a value of a number that may be repeated
abbrev pub is_value : ℕ → Opt → Bool
is_value number option =
    option.0 == number && is_allowed_by (definition_of number) false (length option.1)

-- ---- one option at the front

pub values_left-first : (number : ℕ) (option : Opt) (options : List Opt)
    → is_value number option ≡ true
    → values_left number (option ∷ options) ≡ option.1 ∷ values_left number options
values_left-first number option options e = rw e refl

pub values_left-passed : (number : ℕ) (option : Opt) (options : List Opt)
    → is_value number option ≡ false
    → values_left number (option ∷ options) ≡ values_left number options
values_left-passed number option options e = rw e refl

left_more : (number : ℕ) (option : Opt) (options : List Opt)
    → cond (is_value number option) (option.1 ∷ []) [] ++ values_left number options
    ≡ values_left number (option ∷ options)
left_more number option options =
    elim (cases_Bool (is_value number option)) [
      | inl good ↦ rw good refl
      | inr other ↦ rw other refl
    ]

-- ---- numbers that may be repeated

-- A further one is allowed like a first one.
abbrev pub MayRepeat : ℕ → Type 0
MayRepeat number =
    (is_further : Bool) (size : ℕ)
    → is_allowed_by (definition_of number) is_further size
    ≡ is_allowed_by (definition_of number) false size

pub queries_repeat : MayRepeat table.uri_query
unfolding definition_of
queries_repeat is_further size = refl

pub etags_repeat : MayRepeat table.etag
unfolding definition_of
etags_repeat is_further size = refl

pub locations_repeat : MayRepeat table.location_path
unfolding definition_of
locations_repeat is_further size = refl

same_test : (number : ℕ) (before : List Opt) (option : Opt)
    → MayRepeat number
    → (is_recognized before option.0 (length option.1) && (option.0 == number))
    ≡ is_value number option
same_test number before option repeats =
    elim (cases_Bool (eqb option.0 number)) [
      | inl same ↦
          rw same (
          and-true (is_recognized before option.0 (length option.1))
          ∙ ap (λ (n : ℕ).
          is_allowed_by (definition_of n) (stands_in option.0 before) (length option.1))
          (eqb-true _ _ same)
          ∙ repeats (stands_in option.0 before) (length option.1)
          )
      | inr other ↦ rw other (and-false (is_recognized before option.0 (length option.1)))
    ]

values_onward : (number : ℕ) (before left : List Opt)
    → MayRepeat number
    → values number (before ++ left) ≡ values number before ++ values_left number left
values_onward number before [] repeats =
    ap (values number) (append-nil before) ∙ sym (append-nil (values number before))
values_onward number before (option ∷ left) repeats =
    ap (values number) (sym (append_assoc before (option ∷ []) left))
    ∙ values_onward number (before ++ option ∷ []) left repeats
    ∙ ap (λ (vs : List (List ℕ)). vs ++ values_left number left) (values-push number before option)
    ∙ append_assoc (values number before)
    (cond (is_recognized before option.0 (length option.1) && (option.0 == number))
    (option.1 ∷ []) []) (values_left number left)
    ∙ ap (λ (b : Bool).
    values number before ++ (cond b (option.1 ∷ []) [] ++ values_left number left))
    (same_test number before option repeats)
    ∙ ap (λ (vs : List (List ℕ)). values number before ++ vs) (left_more number option left)

no_values : (number : ℕ) → values number [] ≡ []
unfolding values recognized_options preceded_options
no_values number = refl

-- The recognized values of a number that may be repeated are those of a length that the table
-- allows.
pub values_left-all : (number : ℕ) (options : List Opt)
    → MayRepeat number
    → values_left number options ≡ values number options
values_left-all number options repeats =
    sym (values_onward number [] options repeats
    ∙ ap (λ (vs : List (List ℕ)). vs ++ values_left number options) (no_values number))

pub queries_all : (options : List Opt)
    → values_left table.uri_query options ≡ values table.uri_query options
queries_all options = values_left-all table.uri_query options queries_repeat

pub etags_all : (options : List Opt) → values_left table.etag options ≡ values table.etag options
etags_all options = values_left-all table.etag options etags_repeat

pub locations_all : (options : List Opt)
    → values_left table.location_path options ≡ values table.location_path options
locations_all options = values_left-all table.location_path options locations_repeat

-- ---- how many they are

counted_in : (number : ℕ) (option : Opt) (options : List Opt) (b : Bool)
    → is_value number option ≡ b
    → length (values_left number options) ≤ length options
    → length (values_left number (option ∷ options)) ≤ suc (length options)
counted_in number option options true e few =
    let more = ap length (values_left-first number option options e) in omega (arith, few, more)
counted_in number option options false e few =
    let same = ap length (values_left-passed number option options e) in omega (arith, few, same)

-- They are no more than the options.
pub values_left-size : (number : ℕ) (options : List Opt)
    → length (values_left number options) ≤ length options
values_left-size number [] = omega arith
values_left-size number (option ∷ options) =
    counted_in number option options (is_value number option) refl (values_left-size number options)
