-- Rows within a journal, and what a row sent and noted.
use Rattle.std.specs.Prelude.{◌≡◌, ℕ, Bool, List, [], ◌∷◌, ◌++◌, Option, Some, None, if◌then◌else◌}
use Rattle.std.specs.List.{list_any}
use Rattle.rd_base.specs.declared.peers.Peer.{Peer}
use Rattle.message_model.specs.Codes as codes_of
use Rattle.event_model.specs.Repeats.{is_admission_of}
use Rattle.journal_model.specs.declared.steps.StepKind.TheVariants as step
use Rattle.journal_model.specs.declared.rows.Row.{Row}

-- A row of a journal, after the rows before it.
pub record Within (rows before : List Row) (r : Row) : Type 0 where
  pub later : List Row
  pub whole : rows ≡ later ++ r ∷ before

-- States that the step of a row commits the write that was admitted at a place.
abbrev pub Commits : Row → ℕ → Type 0
Commits r place = r.step.kind ≡ step.Commit place

-- States that the step of a row begins a run.
abbrev pub Begins : Row → ℕ → Type 0
Begins r first = r.step.kind ≡ step.Begin first

-- Returns whether the row admits a write of a peer and a Message ID.
abbrev pub admits : Peer → ℕ → Row → Bool
admits peer mid r = list_any (is_admission_of peer mid) r.notes

-- Returns the code of a message: its second octet (RFC 7252 section 3).
abbrev pub code_at : List ℕ → ℕ
code_at (first ∷ code ∷ others) = code
code_at _ = codes_of.empty

-- Returns the code of the first message that a row sent.
abbrev pub code_sent : List (Peer × List ℕ) → ℕ
code_sent [] = codes_of.empty
code_sent (d ∷ sent) = code_at d.1

-- A row with the rows before it.
pub record Placed : Type 0 where
  pub row : Row
  pub before : List Row

-- Returns the last row of a kind, with the rows before it.
unfoldable pub last_row : (Row → Bool) → List Row → Option Placed
last_row is_kind [] = None
last_row is_kind (r ∷ before) =
    if is_kind r then Some (record { row = r; before = before }) else last_row is_kind before
