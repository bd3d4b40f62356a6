-- The journals of a desk: which steps follow which rows, whether those of a replay or of workers
-- that look alongside the desk. The definition leaves open which job a worker holds and how many
-- Message IDs it drew. Looks may be in the journal or not.
use Rattle.std.specs.Prelude.{◌≡◌, ℕ, ◌<◌, ◌≤◌, max, Bool, true, false, List, [], ◌∷◌, Some}
use Rattle.std.specs.List.{list_any}
use Rattle.event_model.specs.Events.{has_event}
use Rattle.event_model.specs.Repeats.{is_admitting, is_ending_of}
use Rattle.journal_model.specs.declared.limits.TheConstants.{MAX_WORKERS}
use Rattle.journal_model.specs.declared.steps.Step.{Step}
use Rattle.journal_model.specs.declared.steps.StepKind.{StepKind}
use Rattle.journal_model.specs.declared.steps.StepKind.TheVariants as step
use Rattle.journal_model.specs.declared.rows.Row.{Row}
use Rattle.journal_model.specs.Journal.{events, now, latest, row_at}
use Rattle.journal_model.specs.Rows.{row}

-- The most workers of a directory.
abbrev pub max_workers : ℕ
max_workers = MAX_WORKERS

-- An admission that is open for a step. The row of the place admitted a write of the step's worker,
-- peer and datagram, and no Settled or Failed ended that since.
pub record IsOpenFor (s : Step) (place : ℕ) (rows : List Row) : Type 0 where
  pub admission : Row
  pub found : row_at place rows ≡ Some admission
  pub admits : list_any is_admitting admission.notes ≡ true
  pub worker : admission.step.worker ≡ s.worker
  pub peer : admission.step.peer ≡ s.peer
  pub datagram : admission.step.datagram ≡ s.datagram
  pub not_ended : has_event (is_ending_of place) (events rows) ≡ false

-- States that a commit is of such an admission. A keep may have any body and any tag.
abbrev pub CommitsOpen : List Row → Step → StepKind → Type 0
CommitsOpen rows s (step.Commit place) = IsOpenFor s place rows
CommitsOpen rows s _ = Unit {0}

-- Returns whether a step ends a job: a commit or a keep.
abbrev pub ends_job : StepKind → Bool
ends_job (step.Commit place) = true
ends_job (step.Keep body tag) = true
ends_job _ = false

-- States that no look was at a later moment than the last other row, or than the one that is passed
-- in.
abbrev pub NoLaterLook : ℕ → List Row → Type 0
NoLaterLook handed rows = latest rows ≤ max handed (now rows)

-- What is passed in with a step: a moment that is not below those of looks, and one of the workers.
-- A step that ends a job has the word 0.
pub record IsHanded (rows : List Row) (s : Step) : Type 0 where
  pub in_time : NoLaterLook s.handed.0 rows
  pub worker : s.worker < max_workers
  pub word : ends_job s.kind ≡ true → s.word ≡ 0

-- A step that a desk may make after a journal.
pub record MayFollow (rows : List Row) (s : Step) : Type 0 where
  pub commits : CommitsOpen rows s s.kind
  pub handed : IsHanded rows s

-- A journal of a desk: each row is that of the rows before it and its own step, which may follow
-- them.
pub data IsDeskJournal : List Row → Type 0 where
  begun : IsDeskJournal []
  made : {rows : List Row}
      → (s : Step) (starved : Bool)
      → IsDeskJournal rows
      → MayFollow rows s
      → IsDeskJournal (row rows s starved ∷ rows)
