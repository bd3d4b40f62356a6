-- The jobs of a seat.
use Rattle.std.specs.Prelude.{◌≡◌, ℕ, List, [], ◌∷◌, length, Some, None}
use Rattle.journal_model.specs.declared.rows.Row.{Row}
use Rattle.journal_model.specs.declared.steps.StepKind.TheVariants as step
use Rattle.journal_model.specs.DeskJournal.{IsOpenFor}
use Rattle.journal_model.specs.Seats.{job_left}
use Rattle.rd_desk.specs.calls.WriteJobs.{Write}
use Rattle.rd_desk.specs.declared.admitted.Admitted.{Admitted}
use Rattle.rd_desk.specs.declared.admitted.Admitted.TheVariants as admitted
use Rattle.rd_seat.specs.Seats.{SeatSeen}
use Rattle.rd_seat.specs.Steps.{commit_step}

-- The open admission of a job. The seat itself admitted the write, at a place of the journal that
-- it has seen, and nothing there has ended it.
pub record IsOpenJob (place : ℕ) (seat : SeatSeen) (j : Write) : Type 0 where
  pub opened : IsOpenFor (commit_step seat.worker place (record { 0 = 0 }) j.peer j.datagram 0)
      place seat.seen
  pub admitted_at : opened.admission.moment.0 ≡ j.admitted

-- A row that leaves to its worker the job of the write that it admitted.
pub record IsLeft (j : Write) (r : Row) (before : List Row) : Type 0 where
  pub left : job_left r before ≡ Some (record {
    kind = step.Commit (length before);
    peer = r.step.peer;
    datagram = r.step.datagram;
  })
  pub is : j ≡ record {
    peer = r.step.peer;
    datagram = r.step.datagram;
    admitted = r.moment.0;
  }

-- States that the last row of a journal leaves this job to its worker, or none.
abbrev pub LeavesJob : Admitted → List Row → Type 0
LeavesJob _ [] = ⊥
LeavesJob (admitted.Held j) (r ∷ before) = IsLeft j r before
LeavesJob _ (r ∷ before) = job_left r before ≡ None

-- Returns the place of the last row.
abbrev pub last_place : List Row → ℕ
last_place [] = 0
last_place (r ∷ before) = length before

-- States that the admission of the write, if there is one, is open at the place of that row.
abbrev pub OpensJob : Admitted → SeatSeen → Type 0
OpensJob (admitted.Held j) seat = IsOpenJob (last_place seat.seen) seat j
OpensJob _ seat = Unit {0}
