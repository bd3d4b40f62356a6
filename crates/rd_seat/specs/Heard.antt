-- The result of a datagram that a seat handles, and the step that does a job.
use Rattle.std.specs.Prelude.{◌≡◌, ℕ, Bool, true, false, List, Option, Some, None}
use Rattle.rd_base.specs.declared.moments.Moment.{Moment}
use Rattle.rd_base.specs.declared.peers.Peer.{Peer}
use Rattle.event_model.specs.KeptAnswers.{Answer}
use Rattle.journal_model.specs.declared.rows.Row.{Row}
use Rattle.journal_model.specs.declared.steps.Step.{Step}
use Rattle.rd_desk.specs.declared.admitted.Admitted.TheVariants as admitted
use Rattle.rd_desk.specs.declared.jobs.Job.{Job}
use Rattle.rd_desk.specs.declared.jobs.Job.TheVariants as job
use Rattle.rd_seat.specs.declared.hearing.SeatHeard.{SeatHeard}
use Rattle.rd_seat.specs.declared.hearing.SeatHeard.TheVariants as heard
use Rattle.rd_seat.specs.Jobs.{IsOpenJob, LeavesJob, last_place}
use Rattle.rd_seat.specs.Seats.{SeatSeen}
use Rattle.rd_seat.specs.Steps.{commit_step, keep_step}

-- Returns whether memory ran out.
abbrev pub is_starved_hearing : SeatHeard → Bool
is_starved_hearing heard.Done = false
is_starved_hearing (heard.Held j) = false
is_starved_hearing heard.Starved = true

-- Returns the body that a job is to keep, or `None` if the job is a write.
abbrev pub answer_in : Job → Option Answer
answer_in (job.Write j) = None
answer_in (job.Keep j) = Some j.answer

-- Returns the body that a datagram leaves to be kept, if there is one.
abbrev pub answer_left : SeatHeard → Option Answer
answer_left heard.Done = None
answer_left (heard.Held j) = answer_in j
answer_left heard.Starved = None

-- States that the job is to keep a body, and belongs to this peer and this datagram.
abbrev pub IsKeep : Peer → List ℕ → Job → Type 0
IsKeep peer datagram (job.Write j) = ⊥
IsKeep peer datagram (job.Keep j) = (j.peer ≡ peer) × (j.datagram ≡ datagram)

-- States that a job, if one is left, is to keep a body, and belongs to this peer and this datagram.
abbrev pub IsKeepOf : Peer → List ℕ → SeatHeard → Type 0
IsKeepOf peer datagram (heard.Held j) = IsKeep peer datagram j
IsKeepOf peer datagram _ = Unit {0}

-- States that the job is a write, and the last row leaves it to the worker.
abbrev pub LeavesAs : Job → List Row → Type 0
LeavesAs (job.Write j) rows = LeavesJob (admitted.Held j) rows
LeavesAs (job.Keep j) rows = ⊥

-- States that the last row leaves this write to the worker, or no job.
abbrev pub LeavesWrite : SeatHeard → List Row → Type 0
LeavesWrite heard.Done rows = LeavesJob admitted.Done rows
LeavesWrite (heard.Held j) rows = LeavesAs j rows
LeavesWrite heard.Starved rows = LeavesJob admitted.Starved rows

-- States that if the job is a write, its admission has this place in what the seat has seen, and is
-- open.
abbrev pub IsOpenWrite : ℕ → SeatSeen → Job → Type 0
IsOpenWrite place seat (job.Write j) = IsOpenJob place seat j
IsOpenWrite place seat (job.Keep j) = Unit {0}

-- States that the job that is left, if any, may be done next. If it is a write, its admission is
-- open, at the place of the last row that the seat has seen.
abbrev pub MayBeDone : SeatHeard → SeatSeen → Type 0
MayBeDone (heard.Held j) seat = IsOpenWrite (last_place seat.seen) seat j
MayBeDone _ seat = Unit {0}

-- Returns the step that does a job.
abbrev pub go_step : ℕ → ℕ → Moment → Job → ℕ → Step
go_step worker place moment (job.Write j) drawn =
    commit_step worker place moment j.peer j.datagram drawn
go_step worker place moment (job.Keep j) drawn = keep_step worker moment j drawn
