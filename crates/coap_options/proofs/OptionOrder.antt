-- Numbers of options in order: none falls (RFC 7252 section 3.1).
use Rattle.std.proofs.Common.{
  ◌≡◌,
  ℕ,
  zero,
  suc,
  ◌+◌,
  ◌/◌,
  ◌%◌,
  ◌≤◌,
  ltb,
  List,
  [],
  ◌∷◌,
  ◌++◌,
  length,
  Option,
  Some,
  None,
  refl,
  ap,
  arith,
  inl,
  inr,
}
use Rattle.std.specs.Prelude.{◌⊎◌}
use Rattle.std.proofs.lemmas.Option.{same_Some}
use Rattle.message_model.specs.Message.{Opt, last_number, end_number}
use Rattle.message_model.specs.OptionTable.{stands_in}
use Rattle.message_model.specs.Reading.{byte_at, extended_at, bytes_at, option_at}
use Rattle.message_model.proofs.ByteLemmas.{bind_some}
use Rattle.message_model.proofs.OrderLemmas.{AreAscending, stands_in-ascending}
use Rattle.coap_message.specs.OptionsAt.{few_options, options_at}
use Rattle.coap_options.specs.Findings as found
use Rattle.rd_base.proofs.lemmas.Choices.{not_refused}

option_ascends : (before : ℕ) (bytes : List ℕ) (x : Opt × List ℕ)
    → option_at before bytes ≡ Some x
    → before ≤ x.0.0
unfolding option_at
option_ascends before bytes x e =
    let a = bind_some (byte_at bytes) _ x e in
    let b = bind_some (extended_at (a.0.0 / 16) a.0.1) _ x a.2 in
    let c = bind_some (extended_at (a.0.0 % 16) b.0.1) _ x b.2 in
    let d = bind_some (bytes_at c.0.0 c.0.1) _ x c.2 in
    let p =
    not_refused (ltb last_number (before + b.0.0)) (Some ((before + b.0.0, d.0.0), d.0.1)) x
    d.2 in
    let same = same_Some ((before + b.0.0, d.0.0), d.0.1) x p.1 in
    let number : before + b.0.0 ≡ x.0.0 = ap (λ (y : Opt × List ℕ). y.0.0) same in
    omega (arith, number)

some_or_none : {A : Type 0} (o : Option A) → (o ≡ None) ⊎ ((x : A) × (o ≡ Some x))
some_or_none None = inl refl
some_or_none (Some x) = inr (x, refl)

few_ascend : (n before : ℕ) (bytes : List ℕ) → AreAscending before (few_options n before bytes)
unfolding few_options
few_ascend zero before bytes = tt
few_ascend (suc n) before bytes =
    elim (some_or_none (option_at before bytes)) [
      | inl none ↦ rw none tt
      | inr some ↦ rw some.1
          (option_ascends before bytes some.0 some.1, few_ascend n some.0.0.0 some.0.1)
    ]

-- The options of bytes ascend.
pub options_ascend : (bytes : List ℕ) → AreAscending 0 (options_at 0 bytes)
unfolding options_at
options_ascend bytes = few_ascend (length bytes) 0 bytes

-- what stands before an option of a number that is not below theirs
front_ascends : (before : ℕ) (front : List Opt) (option : Opt) (left : List Opt)
    → AreAscending before (front ++ option ∷ left)
    → AreAscending before front × (end_number before front ≤ option.0)
front_ascends before [] option left fits = (tt, fits.0)
front_ascends before (first ∷ front) option left fits =
    let h = front_ascends first.0 front option left fits.1 in
    ((fits.0, h.0), h.1)

-- One of its number stands before an option exactly where the last one has it.
pub stands_by_last : (front : List Opt) (option : Opt) (left : List Opt)
    → AreAscending 0 (front ++ option ∷ left)
    → stands_in option.0 front ≡ found.is_last (found.last_number front) option.0
stands_by_last [] option left fits = refl
stands_by_last (first ∷ front) option left fits =
    let h = front_ascends first.0 front option left fits.1 in
    stands_in-ascending first front option.0 h.0 h.1
