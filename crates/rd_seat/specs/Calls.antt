-- The calls that a caller makes on its seat, and the result of each. The last comes first.
use Rattle.std.specs.Prelude.{◌≡◌, ◌⊎◌, ℕ, Bool, List, [], ◌∷◌}
use Rattle.std.specs.Prelude.{Option, Some, None}
use Rattle.rd_base.specs.declared.moments.Moment.{Moment}
use Rattle.rd_base.specs.declared.peers.Peer.{Peer}
use Rattle.udp_link.specs.Links.{Datagram}
use Rattle.udp_link.specs.Clocks.{GivesFirst, but_first}
use Rattle.history_model.specs.Live.{IsFront}
use Rattle.event_model.specs.KeptAnswers.{Answer}
use Rattle.journal_model.specs.declared.rows.Row.{Row}
use Rattle.journal_model.specs.declared.steps.Step.{Step}
use Rattle.journal_model.specs.declared.steps.StepKind.{StepKind}
use Rattle.journal_model.specs.declared.steps.StepKind.TheVariants as step
use Rattle.journal_model.specs.Machine as machine
use Rattle.journal_model.specs.Machine.{hearing}
use Rattle.journal_model.specs.Seats.{job_left}
use Rattle.rd_desk.specs.declared.jobs.Job.{Job}
use Rattle.rd_desk.specs.declared.jobs.Job.TheVariants as job
use Rattle.rd_seat.specs.declared.hearing.SeatHeard.{SeatHeard}
use Rattle.rd_seat.specs.declared.hearing.SeatHeard.TheVariants as heard
use Rattle.rd_seat.specs.Seats.{SeatSeen, IsOfHall, MakesStep, LooksAtMet}

-- ---- one call

-- A call of the seat: its step, and whether it ran out of memory. It also has the output in the
-- caller's own form, and the job that the call left to the caller.
pub record Call (S : Type 0) : Type 0 where
  pub step : Step
  pub starved : Bool
  pub sent : S
  pub left : Option machine.Job

-- States that the last row of a journal leaves this job to its caller, or none.
abbrev pub IsLeftBy : List Row → Option machine.Job → Type 0
IsLeftBy [] left = ⊥
IsLeftBy (r ∷ before) left = left ≡ job_left r before

-- Returns the job to keep the body that a look leaves, if it leaves one.
abbrev pub job_kept : Option Answer → Step → Option machine.Job
job_kept None s = None
job_kept (Some found) s =
    Some (record { kind = step.Keep found.body found.tag; peer = s.peer; datagram = s.datagram })

-- A call that made a row at a turn of the seat, which still belongs to its hall. The caller's
-- output is what the row sent. `told` returns the datagrams of that output.
pub record Rowed {S : Type 0} (told : S → List Datagram) (before : SeatSeen) (c : Call S)
    (after : SeatSeen) : Type 0 where
  pub of_hall : IsOfHall before.hall after
  pub grows : IsFront before.met after.met
  pub made : MakesStep before c.step c.starved (told c.sent) after
  pub left : IsLeftBy after.seen c.left

-- A call that was a look. The caller's output is what the look sent.
pub record Viewed {S : Type 0} (told : S → List Datagram) (before : SeatSeen) (c : Call S)
    (after : SeatSeen) : Type 0 where
  pub of_hall : IsOfHall before.hall after
  pub grows : IsFront before.met after.met
  pub held : Option Answer
  pub looks : LooksAtMet before c.step c.starved (told c.sent) held after
  pub left : c.left ≡ job_kept held c.step

-- States what a call did to the seat: it made a row, or was a look.
abbrev pub Does : {S : Type 0} → (S → List Datagram) → SeatSeen → Call S → SeatSeen
    → Type 0
Does told before c after = Rowed told before c after ⊎ Viewed told before c after

-- A call that handles this datagram.
pub record IsHearing {S : Type 0} (peer : Peer) (datagram : List ℕ) (c : Call S)
    : Type 0 where
  pub kind : c.step.kind ≡ hearing datagram
  pub peer_of : c.step.peer ≡ peer
  pub datagram_of : c.step.datagram ≡ datagram

-- A step that does the job.
pub record IsOfJob (j : machine.Job) (s : Step) : Type 0 where
  pub kind : s.kind ≡ j.kind
  pub peer : s.peer ≡ j.peer
  pub datagram : s.datagram ≡ j.datagram

-- ---- jobs as a caller holds them

-- Returns the job that is left, if there is one.
abbrev pub job_held : SeatHeard → Option Job
job_held heard.Done = None
job_held (heard.Held j) = Some j
job_held heard.Starved = None

-- Returns the step that does the job, if the admission of a write has this place.
abbrev pub job_at : ℕ → Job → machine.Job
job_at place (job.Write j) =
    record { kind = step.Commit place; peer = j.peer; datagram = j.datagram }
job_at place (job.Keep j) = record {
  kind = step.Keep j.answer.body j.answer.tag;
  peer = j.peer;
  datagram = j.datagram;
}

-- ---- what the clock returned

-- States that the call's moment is the one that the clock returned before it.
abbrev pub GivesMoment : {S : Type 0} → List Moment → Call S → List Moment → Type 0
GivesMoment before c now = GivesFirst (record { 0 = 0 }) c.step.handed before now

-- States which random words steps take from the clock. A datagram and a tick take one, which a look
-- does not use. A job takes none.
abbrev pub GivesWordTo : StepKind → ℕ → List ℕ → List ℕ → Type 0
GivesWordTo step.Admit word before now = GivesFirst 0 word before now
GivesWordTo step.Look word before now = now ≡ but_first before
GivesWordTo step.Tick word before now = GivesFirst 0 word before now
GivesWordTo _ word before now = now ≡ before

-- States which random words a call took from the clock.
abbrev pub GivesWord : {S : Type 0} → List ℕ → Call S → List ℕ → Type 0
GivesWord before c now = GivesWordTo c.step.kind c.step.word before now
