-- Duplicates among the requests of a connection. A seat handles each request as a confirmable
-- message whose Message ID is the number of requests before it. So a request is taken for a
-- duplicate only if something else used its peer less than 247 seconds before (RFC 7252 sections
-- 4.4, 4.5 and 4.8.2). All lists of rows have the newest first.
use Rattle.std.specs.Prelude.{◌≡◌, ℕ, ◌+◌, ◌<◌, ◌≤◌, true, List, length, None, Ok}
use Rattle.rd_base.specs.declared.peers.Peer.{Peer}
use Rattle.message_model.specs.Message.{Message}
use Rattle.message_model.specs.Reading.{reading}
use Rattle.event_model.specs.Events.{exchange_lifetime}
use Rattle.event_model.specs.Repeats.{repeated}
use Rattle.journal_model.specs.declared.rows.Row.{Row}
use Rattle.journal_model.specs.declared.steps.StepKind.TheVariants as step
use Rattle.journal_model.specs.Journal.{events}
use Rattle.journal_model.specs.PlacedRows.{Within, admits}

-- A row, after these rows, that a connection led to. Its worker serves the connection, which began
-- after the rows `begun`.
pub record IsOfConnection (begun : List Row) (worker : ℕ) (before : List Row) (r : Row)
    : Type 0 where
  pub later : length begun ≤ length before
  pub served_by : r.step.worker ≡ worker

-- The premise: nothing but the connection uses its peer. Whatever a journal had admitted of the
-- peer in the 247 seconds before a row of the connection, the connection itself had led to it.
abbrev pub HasPeerAlone : Peer → List Row → ℕ → List Row → Type 0
HasPeerAlone peer begun worker rows = (before earlier : List Row) (r other : Row) (mid : ℕ)
    → Within rows before r
    → IsOfConnection begun worker before r
    → Within before earlier other
    → admits peer mid other ≡ true
    → r.moment.0 < other.moment.0 + exchange_lifetime
    → IsOfConnection begun worker earlier other

-- States that no request of the connection is taken for a duplicate: when it is heard, no stored
-- admission has its peer and its Message ID (RFC 7252 section 4.5).
abbrev pub NoneIsDuplicate : List Row → ℕ → List Row → Type 0
NoneIsDuplicate begun worker rows = (before : List Row) (r : Row) (m : Message)
    → Within rows before r
    → IsOfConnection begun worker before r
    → r.step.kind ≡ step.Admit
    → reading r.step.datagram ≡ Ok m
    → repeated r.moment.0 r.step.peer m.mid (events before) ≡ None

-- States that under that premise no request of the connection is taken for a duplicate.
abbrev pub AreNew : Peer → List Row → ℕ → List Row → Type 0
AreNew peer begun worker rows =
    HasPeerAlone peer begun worker rows → NoneIsDuplicate begun worker rows
