-- The first sentence of the headline: registrations are the replay of one legal history that holds
-- each accepted request once, despite duplicates.
use Rattle.std.specs.Prelude.{◌≡◌, ◌⊎◌, ℕ, ◌+◌, ◌<◌, ◌≤◌, true, false, List, [], ◌∷◌, length}
use Rattle.rd_base.specs.declared.peers.Peer.{Peer}
use Rattle.history_model.specs.declared.entries.Entry.{Entry}
use Rattle.history_model.specs.Legal.{IsLegal}
use Rattle.event_model.specs.Events.{exchange_lifetime}
use Rattle.journal_model.specs.declared.rows.Row.{Row}
use Rattle.journal_model.specs.Journal.{entries, entries_of}
use Rattle.journal_model.specs.PlacedRows.{Within, Commits, Begins, admits}
use Rattle.journal_model.specs.FetchCompletions.{IsCompletion}
use Rattle.journal_model.specs.AskedChanges.{answers_change, IsEntryOf}
use Rattle.journal_model.specs.AdmittedWrites.{EndedWithoutMemory, AdmittedAt}

-- The sentence: registrations are the replay of one legal history that holds each accepted request
-- once, despite duplicates.
-- - `legal`, `single`: the history is legal, and a row has at most one entry.
-- - `origin`: the row of an entry is that of a commit, of a beginning, or of a completion. A
--   completion is a response that completed a fetch with the end of a whole body.
-- - `entry`: an entry has the moment, the worker and the peer of its row. The change of a commit is
--   the one that its own request asks for, with its last block or a whole body. The change of a
--   response is the one that the fetch was made for, and that of a beginning its own.
-- - `answered`, `enters_none`: a commit whose response says that a change was made has exactly one
--   entry, and any other has none.
-- - `place`, `once`: a commit is of a row that admitted its write, and each admission is committed
--   at most once.
-- - `failed`: take two admissions with one peer and Message ID that are less than the lifetime of
--   an exchange apart. The earlier one ended in 5.00, which was sent, before the later one was
--   made.
pub record HoldsEachOnce (rows : List Row) : Type 0 where
  pub legal : IsLegal (entries rows)
  pub single : (before : List Row) (r : Row) → Within rows before r → length (entries_of r) ≤ 1
  pub origin : (before : List Row) (r : Row) → Within rows before r → 0 < length (entries_of r)
      → ((place : ℕ) × Commits r place) ⊎ IsCompletion before r ⊎ ((first : ℕ) × Begins r first)
  pub entry : (before : List Row) (r : Row) (entry : Entry)
      → Within rows before r
      → entries_of r ≡ entry ∷ []
      → IsEntryOf before r.moment.0 r.step entry
  pub answered : (before : List Row) (r : Row) (place : ℕ)
      → Within rows before r
      → Commits r place
      → answers_change r ≡ true
      → length (entries_of r) ≡ 1
  pub enters_none : (before : List Row) (r : Row) (place : ℕ)
      → Within rows before r
      → Commits r place
      → answers_change r ≡ false
      → entries_of r ≡ []
  pub place : (before : List Row) (r : Row) (place : ℕ)
      → Within rows before r
      → Commits r place
      → AdmittedAt before place r.step
  pub once : (before earlier : List Row) (r other : Row) (place : ℕ)
      → Within rows before r
      → Within before earlier other
      → Commits r place
      → Commits other place
      → ⊥
  pub failed : (before earlier : List Row) (r other : Row) (peer : Peer) (mid : ℕ)
      → Within rows before r
      → Within before earlier other
      → admits peer mid r ≡ true
      → admits peer mid other ≡ true
      → r.moment.0 < other.moment.0 + exchange_lifetime
      → EndedWithoutMemory before (length earlier)
