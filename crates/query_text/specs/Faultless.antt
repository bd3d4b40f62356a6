-- Options without a fault, and the next of them.
use Rattle.std.specs.Prelude.{◌≡◌, ℕ, Bool, List, [], Option, Some, None}
use Rattle.query_text.specs.declared.rules.Named.{Named}
use Rattle.query_text.specs.declared.walks.Walk.{Walk}
use Rattle.query_text.specs.Rules.{is_lookup}
use Rattle.query_text.specs.Walks.{faults_from, IsPast}

-- Options of a lookup, or parameters, that have no fault after some others.
pub record AreFaultless (of_lookup : Bool) (left : List (List ℕ)) : Type 0 where
  pub walk : Walk
  pub kind : is_lookup walk.kind ≡ of_lookup
  pub none : faults_from walk left ≡ None

-- The first remaining option has this name and value, and the rest have no fault after it.
pub record IsFollowed (walk : Walk) (left rest : List (List ℕ)) (named : Named) : Type 0 where
  pub now : Walk
  pub past : IsPast walk left now rest named
  pub none : faults_from now rest ≡ None

-- States that one option was read, or that none is left.
abbrev pub Follows : Walk → List (List ℕ) → List (List ℕ) → Option Named → Type 0
Follows walk left rest (Some named) = IsFollowed walk left rest named
Follows walk left rest None = left ≡ []
