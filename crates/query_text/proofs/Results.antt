-- What a call answers where an option is refused or all are good.
use Rattle.std.proofs.Common.{
  ◌≡◌,
  ℕ,
  false,
  List,
  Option,
  Some,
  Result,
  Ok,
  Err,
  refl,
  sym,
  ap,
  subst,
  ◌∙◌,
}
use Rattle.record_model.specs.declared.readings.Reading.{Reading}
use Rattle.record_model.specs.Faults.{Fault}
use Rattle.std.specs.Result.{IsErrAnd}
use Rattle.rd_base.specs.declared.parameters.RegParams.{RegParams}
use Rattle.rd_base.specs.declared.parameters.UpdateParams.{UpdateParams}
use Rattle.record_model.specs.declared.readings.Reading.TheVariants as reading
use Rattle.record_model.specs.Parameters.{
  parameters_fault,
  unless_fault,
  registration_values,
  update_values,
  registration_parameters,
  update_parameters,
}
use Rattle.query_text.specs.GivenParameters.{values_in, values_of, registration_of, update_of}
use Rattle.query_text.specs.declared.faults.QueryBad.{QueryBad}
use Rattle.query_text.specs.declared.faults.QueryBad.TheVariants as bad
use Rattle.query_text.specs.declared.given_parameters.Given.{Given}
use Rattle.query_text.specs.Rules.{is_lookup}
use Rattle.query_text.specs.Walks.{start_of, faults_from}
use Rattle.query_text.specs.Outcomes.{Answers, Gathers}
use Rattle.query_text.proofs.RuleLaws.{of_parameters}

-- an error of that kind
pub error_at : {A : Type 0} (fault : QueryBad) (P : Result A QueryBad → Type 0)
    (result : Result A QueryBad)
    → P (Err fault)
    → IsErrAnd result (λ e. e ≡ fault)
    → P result
error_at fault P (Ok x) p h = absurd h
error_at fault P (Err e) p h = subst (λ b. P (Err b)) (sym h) p

pub gathered_refused : (kind : Reading) (left : List (List ℕ)) (fault : Fault)
    (result : Result Given QueryBad)
    → is_lookup kind ≡ false
    → faults_from (start_of kind) left ≡ Some fault
    → IsErrAnd result (λ e. e ≡ bad.At fault.0 fault.1) → Gathers kind left result
gathered_refused kind left fault result l h e =
    error_at (bad.At fault.0 fault.1) (Gathers kind left) result
    (sym (of_parameters kind l left) ∙ h) e

module _ {A : Type 0} (kind : Reading) (left : List (List ℕ)) (value : A) where
  bad_answer : (b : QueryBad)
      → Gathers kind left (Err b)
      → Answers {A = A} (Err b) (unless_fault (parameters_fault kind left) value)
  bad_answer (bad.At index why) h = ap (λ (f : Option Fault). unless_fault f value) h
  bad_answer bad.Starved h = tt

  -- a fault is answered
  refused_answer : (b : QueryBad) (result : Result A QueryBad)
      → Gathers kind left (Err b)
      → IsErrAnd result (λ e. e ≡ b)
      → Answers result (unless_fault (parameters_fault kind left) value)
  refused_answer b result h e =
      error_at b (λ r. Answers r (unless_fault (parameters_fault kind left) value)) result
      (bad_answer b h) e

pub registration_refused : (kind : Reading) (left : List (List ℕ)) (b : QueryBad)
    (result : Result RegParams QueryBad)
    → Gathers kind left (Err b)
    → IsErrAnd result (λ e. e ≡ b)
    → Answers result (registration_parameters kind left)
unfolding registration_parameters
registration_refused kind left b result h e =
    refused_answer kind left (registration_values left) b result h e

pub update_refused : (left : List (List ℕ)) (b : QueryBad) (result : Result UpdateParams QueryBad)
    → Gathers reading.Update left (Err b)
    → IsErrAnd result (λ e. e ≡ b)
    → Answers result (update_parameters left)
unfolding update_parameters
update_refused left b result h e =
    refused_answer reading.Update left (update_values left) b result h e

pub registration_seen : (left : List (List ℕ))
    → registration_values left ≡ registration_of (values_of left)
unfolding registration_values values_of
registration_seen left = refl

pub update_seen : (left : List (List ℕ)) → update_values left ≡ update_of (values_of left)
unfolding update_values values_of
update_seen left = refl

-- and what is given is
pub registration_good : (kind : Reading) (left : List (List ℕ)) (given : Given) (value : RegParams)
    → Gathers kind left (Ok given)
    → value ≡ registration_of (values_in given)
    → registration_parameters kind left ≡ Ok value
unfolding registration_parameters
registration_good kind left given value h e =
    ap (λ (f : Option Fault). unless_fault f (registration_values left)) h.0
    ∙ ap (λ (v : RegParams). Ok v) (registration_seen left ∙ (ap registration_of (sym h.1) ∙ sym e))

pub update_good : (left : List (List ℕ)) (given : Given) (value : UpdateParams)
    → Gathers reading.Update left (Ok given)
    → value ≡ update_of (values_in given)
    → update_parameters left ≡ Ok value
unfolding update_parameters
update_good left given value h e =
    ap (λ (f : Option Fault). unless_fault f (update_values left)) h.0
    ∙ ap (λ (v : UpdateParams). Ok v) (update_seen left ∙ (ap update_of (sym h.1) ∙ sym e))
