-- The options of a message one after the other.
use Rattle.std.proofs.Common.{
  ◌≡◌,
  ℕ,
  ◌≤◌,
  List,
  [],
  ◌∷◌,
  ◌++◌,
  length,
  Option,
  Some,
  None,
  sym,
  ap,
  subst,
  ◌∙◌,
  append_assoc,
}
use Rattle.std.proofs.lemmas.Option.{same_Some}
use Rattle.std.specs.Option.{option_or}
use Rattle.std.specs.List.{AllByRecursion}
use Rattle.std.proofs.lemmas.List.{append-nil}
use Rattle.message_model.specs.Message.{Opt}
use Rattle.message_model.specs.OptionTable.{
  Definition,
  definition_of,
  stands_in,
  first_bad_option,
  values,
  first_of,
}
use Rattle.message_model.proofs.TableLemmas.{first_bad_option-push}
use Rattle.message_model.proofs.ValueLemmas.{HasSize, values_sizes}
use Rattle.message_model.proofs.OrderLemmas.{AreAscending}
use Rattle.coap_options.specs.declared.findings.Found.{Found}
use Rattle.coap_options.specs.Findings.{is_last, IsFound}
use Rattle.coap_options.proofs.OptionOrder.{stands_by_last}

-- ---- the walk

-- The options in front are found, and the others are left.
pub record IsWalked (options left : List Opt) (so_far : Found) : Type 0 where
  pub front : List Opt
  pub whole : front ++ left ≡ options
  pub found : IsFound front so_far

pub walked_further : (options : List Opt) (option : Opt) (left before : List Opt) (found : Found)
    (w : IsWalked options before found)
    → AreAscending 0 options
    → before ≡ option ∷ left
    → stands_in option.0 w.front ≡ is_last found.last option.0
walked_further options option left before found w fits e =
    let whole : options ≡ w.front ++ option ∷ left =
    sym w.whole ∙ ap (λ (os : List Opt). w.front ++ os) e in
    stands_by_last w.front option left (subst (λ (os : List Opt). AreAscending 0 os) whole fits)
    ∙ ap (λ (last : Option ℕ). is_last last option.0) (sym w.found.last)

pub walked_more : (options : List Opt) (option : Opt) (left before : List Opt) (found more : Found)
    (w : IsWalked options before found)
    → before ≡ option ∷ left
    → IsFound (w.front ++ option ∷ []) more
    → IsWalked options left more
walked_more options option left before found more w e so = record {
  front = w.front ++ option ∷ [];
  whole =
      append_assoc w.front (option ∷ []) left
      ∙ ap (λ (os : List Opt). w.front ++ os) (sym e)
      ∙ w.whole;
  found = so;
}

or_some : (o p : Option ℕ) (n : ℕ) → o ≡ Some n → option_or o p ≡ Some n
or_some o p n e = ap (λ (q : Option ℕ). option_or q p) e

bad_kept : (front left : List Opt) (n : ℕ)
    → first_bad_option front ≡ Some n
    → first_bad_option (front ++ left) ≡ Some n
bad_kept front [] n bad = ap first_bad_option (append-nil front) ∙ bad
bad_kept front (option ∷ left) n bad =
    ap first_bad_option (sym (append_assoc front (option ∷ []) left))
    ∙ bad_kept (front ++ option ∷ []) left n
    (first_bad_option-push front option ∙ or_some (first_bad_option front) _ n bad)

pub walked_bad : (options : List Opt) (option : Opt) (left before : List Opt) (found : Found)
    (n : ℕ) (w : IsWalked options before found)
    → before ≡ option ∷ left
    → first_bad_option (w.front ++ option ∷ []) ≡ Some n
    → first_bad_option options ≡ Some n
walked_bad options option left before found n w e bad =
    ap first_bad_option (sym w.whole
    ∙ ap (λ (os : List Opt). w.front ++ os) e
    ∙ sym (append_assoc w.front (option ∷ []) left))
    ∙ bad_kept (w.front ++ option ∷ []) left n bad

-- ---- lengths

no_value : (v : List ℕ) → None ≡ Some v → ⊥
no_value v e = cc

-- The first of values that are short is short.
first_short : (vs : List (List ℕ)) (d : Definition)
    → AllByRecursion (λ value. HasSize d (length value)) vs
    → (v : List ℕ)
    → first_of vs ≡ Some v
    → length v ≤ d.most
first_short [] d sizes v e = absurd (no_value v e)
first_short (w ∷ vs) d sizes v e =
    subst (λ (t : List ℕ). length t ≤ d.most) (same_Some w v e) sizes.0.most

-- The first value of a number is no longer than the table allows.
pub value_short : (number : ℕ) (d : Definition) (options : List Opt) (found : Option (List ℕ))
    → definition_of number ≡ Some d
    → found ≡ first_of (values number options)
    → (v : List ℕ)
    → found ≡ Some v
    → length v ≤ d.most
value_short number d options found is e v some =
    first_short (values number options) d (values_sizes number d options is) v (sym e ∙ some)
