-- The first fault of the remaining options, and one option read.
use Rattle.std.specs.Prelude.{
  ◌≡◌,
  ℕ,
  ◌+◌,
  List,
  [],
  ◌∷◌,
  Option,
  Some,
  None,
  option_map,
  Result,
  Ok,
  Err,
}
use Rattle.record_model.specs.declared.readings.Reading.{Reading}
use Rattle.record_model.specs.declared.readings.Why.{Why}
use Rattle.record_model.specs.Faults.{Fault, or_else}
use Rattle.record_model.specs.Options.{option_name, option_value}
use Rattle.query_text.specs.declared.rules.Named.{Named}
use Rattle.query_text.specs.declared.walks.Walk.{Walk}
use Rattle.query_text.specs.Occurrences.{nothing_occurred, occurred_with}
use Rattle.query_text.specs.Rules.{fault_after, missing_after}

-- Returns a walk before the first option.
abbrev pub start_of : Reading → Walk
start_of kind = record { kind = kind; occurred = nothing_occurred; index = 0 }

-- Returns the walk with one more option.
abbrev pub walk_past : Walk → List ℕ → Walk
walk_past walk query = record {
  kind = walk.kind;
  occurred = occurred_with walk.occurred (option_name query);
  index = walk.index + 1;
}

-- Returns the reason, with its index.
abbrev pub at_index : ℕ → Option Why → Option Fault
at_index index reason = option_map (λ why. (index, why)) reason

-- Returns the first fault of the remaining options.
unfoldable pub faults_from : Walk → List (List ℕ) → Option Fault
faults_from walk [] = at_index walk.index (missing_after walk.kind walk.occurred)
faults_from walk (query ∷ queries) =
    or_else (at_index walk.index (fault_after walk.kind walk.occurred query))
    (faults_from (walk_past walk query) queries)

-- The first remaining option was read without a fault, and has this name and value.
pub record IsPast (walk : Walk) (left : List (List ℕ)) (now : Walk) (rest : List (List ℕ))
    (named : Named) : Type 0 where
  pub query : List ℕ
  pub first : left ≡ query ∷ rest
  pub good : fault_after walk.kind walk.occurred query ≡ None
  pub name : named.name.now ≡ option_name query
  pub value : named.value.now ≡ option_value query
  pub past : now ≡ walk_past walk query

-- States that one option was read, or that none is left and none was refused, or that there is this
-- first fault.
abbrev pub Stepped : Walk
    → List (List ℕ)
    → Walk
    → List (List ℕ)
    → Result (Option Named) Fault
    → Type 0
Stepped walk left now rest (Ok (Some named)) = IsPast walk left now rest named
Stepped walk left now rest (Ok None) = (left ≡ []) × (faults_from walk left ≡ None)
Stepped walk left now rest (Err fault) = faults_from walk left ≡ Some fault
