-- What a call returns, compared with the definition.
use Rattle.std.specs.Prelude.{◌≡◌, ℕ, List, None, Some, Result, Ok, Err}
use Rattle.record_model.specs.declared.readings.Reading.{Reading}
use Rattle.record_model.specs.declared.readings.Reading.TheVariants as reading
use Rattle.record_model.specs.Faults.{Fault}
use Rattle.record_model.specs.Parameters.{parameters_fault}
use Rattle.query_text.specs.declared.given_parameters.Given.{Given}
use Rattle.record_model.specs.Criteria.{lookup_fault}
use Rattle.query_text.specs.declared.asked_options.Asked.{Asked}
use Rattle.query_text.specs.AskedOptions.{wanted_in, wanted_of}
use Rattle.query_text.specs.GivenParameters.{values_in, values_of}
use Rattle.query_text.specs.declared.faults.QueryBad.{QueryBad}
use Rattle.query_text.specs.declared.faults.QueryBad.TheVariants as bad
use Rattle.std.specs.Prelude.{Bool, if◌then◌else◌}

-- States that the result is the value that is meant, or the fault that is; or memory ran out.
abbrev pub Answers : {A : Type 0} → Result A QueryBad → Result A Fault → Type 0
Answers (Ok value) meant = meant ≡ Ok value
Answers (Err (bad.At index why)) meant = meant ≡ Err (index, why)
Answers (Err bad.Starved) meant = Unit {0}

-- Returns the kind of request that the parameters of a registration are read for.
abbrev pub registering : Bool → Reading
registering simple = if simple then reading.Simple else reading.Register

-- States that all parameters were stored, or that there is this first fault; or memory ran out.
abbrev pub Gathers : Reading → List (List ℕ) → Result Given QueryBad → Type 0
Gathers kind left (Ok given) =
    (parameters_fault kind left ≡ None) × (values_in given ≡ values_of left)
Gathers kind left (Err (bad.At index why)) = parameters_fault kind left ≡ Some (index, why)
Gathers kind left (Err bad.Starved) = Unit {0}

-- States that all options of a lookup were stored, or that there is this first fault; or memory ran
-- out.
abbrev pub Asks : List (List ℕ) → Result Asked QueryBad → Type 0
Asks left (Ok asked) = (lookup_fault left ≡ None) × (wanted_in asked ≡ wanted_of left)
Asks left (Err (bad.At index why)) = lookup_fault left ≡ Some (index, why)
Asks left (Err bad.Starved) = Unit {0}
