-- What a lookup is answered where an option is refused or all are good.
use Rattle.std.proofs.Common.{◌≡◌, ℕ, List, Option, Some, Result, Ok, Err, refl, sym, ap, ◌∙◌}
use Rattle.std.specs.Result.{IsErrAnd}
use Rattle.rd_base.specs.declared.queries.Kind.{Kind}
use Rattle.rd_base.specs.declared.queries.Query.{Query}
use Rattle.record_model.specs.declared.readings.Reading.TheVariants as reading
use Rattle.record_model.specs.Faults.{Fault}
use Rattle.record_model.specs.Parameters.{unless_fault}
use Rattle.record_model.specs.Criteria.{lookup_fault, lookup_values, lookup_query, fault_of}
use Rattle.query_text.specs.declared.faults.QueryBad.{QueryBad}
use Rattle.query_text.specs.declared.faults.QueryBad.TheVariants as bad
use Rattle.query_text.specs.declared.asked_options.Asked.{Asked}
use Rattle.query_text.specs.Walks.{start_of, faults_from}
use Rattle.query_text.specs.AskedOptions.{wanted_in, wanted_of, query_of}
use Rattle.query_text.specs.Outcomes.{Answers, Asks}
use Rattle.query_text.proofs.RuleLaws.{same_fault}
use Rattle.query_text.proofs.Results.{error_at}

pub of_lookup : (queries : List (List ℕ))
    → faults_from (start_of reading.Lookup) queries ≡ lookup_fault queries
unfolding fault_of
of_lookup queries = same_fault reading.Lookup queries

pub asked_refused : (left : List (List ℕ)) (fault : Fault) (result : Result Asked QueryBad)
    → faults_from (start_of reading.Lookup) left ≡ Some fault
    → IsErrAnd result (λ e. e ≡ bad.At fault.0 fault.1) → Asks left result
asked_refused left fault result h e =
    error_at (bad.At fault.0 fault.1) (Asks left) result (sym (of_lookup left) ∙ h) e

bad_answer : (left : List (List ℕ)) (value : Query) (b : QueryBad)
    → Asks left (Err b)
    → Answers {A = Query} (Err b) (unless_fault (lookup_fault left) value)
bad_answer left value (bad.At index why) h = ap (λ (f : Option Fault). unless_fault f value) h
bad_answer left value bad.Starved h = tt

pub lookup_refused : (kind : Kind) (left : List (List ℕ)) (b : QueryBad)
    (result : Result Query QueryBad)
    → Asks left (Err b)
    → IsErrAnd result (λ e. e ≡ b)
    → Answers result (lookup_query kind left)
unfolding lookup_query
lookup_refused kind left b result h e =
    error_at b (λ r. Answers r (unless_fault (lookup_fault left) (lookup_values kind left))) result
    (bad_answer left (lookup_values kind left) b h) e

pub query_seen : (kind : Kind) (left : List (List ℕ))
    → lookup_values kind left ≡ query_of kind (wanted_of left)
unfolding lookup_values wanted_of
query_seen kind left = refl

pub lookup_good : (kind : Kind) (left : List (List ℕ)) (asked : Asked) (value : Query)
    → Asks left (Ok asked)
    → value ≡ query_of kind (wanted_in asked)
    → lookup_query kind left ≡ Ok value
unfolding lookup_query
lookup_good kind left asked value h e =
    ap (λ (f : Option Fault). unless_fault f (lookup_values kind left)) h.0
    ∙ ap (λ (v : Query). Ok v) (query_seen kind left ∙ (ap (query_of kind) (sym h.1) ∙ sym e))
