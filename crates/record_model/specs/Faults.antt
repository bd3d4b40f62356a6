-- The first fault of query options, with its index.
use Rattle.std.specs.Prelude.{
  ℕ,
  Bool,
  List,
  [],
  ◌∷◌,
  length,
  Option,
  Some,
  None,
  option_map,
  if◌then◌else◌,
}
use Rattle.record_model.specs.declared.readings.Why.{Why}

-- A fault: the index of its option, counted from 0, and the reason.
abbrev pub Fault : Type 0
Fault = ℕ × Why

-- Returns the first if there is one, and otherwise the second.
abbrev pub or_else : {A : Type 0} → Option A → Option A → Option A
or_else None other = other
or_else (Some x) other = Some x

-- Returns the first reason of a list whose test holds.
abbrev pub first_reason : List (Bool × Why) → Option Why
first_reason [] = None
first_reason (row ∷ rows) = if row.0 then Some row.1 else first_reason rows

-- Returns the fault of options that follow others: the first option that is refused, with its
-- index. Each is judged by those before it, latest first. If no option is refused, the fault is one
-- that is found after the last option, and its index is the number of options.
abbrev pub first_fault_after : (List (List ℕ) → List ℕ → Option Why)
    → (List (List ℕ) → Option Why)
    → List (List ℕ)
    → List (List ℕ)
    → Option Fault
first_fault_after judge at_end others [] = option_map (λ why. (length others, why)) (at_end others)
first_fault_after judge at_end others (query ∷ queries) =
    or_else (option_map (λ why. (length others, why)) (judge others query))
    (first_fault_after judge at_end (query ∷ others) queries)

-- Returns the first fault of options.
abbrev pub first_fault : (List (List ℕ) → List ℕ → Option Why)
    → (List (List ℕ) → Option Why)
    → List (List ℕ)
    → Option Fault
first_fault judge at_end queries = first_fault_after judge at_end [] queries
