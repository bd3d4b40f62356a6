-- What a worker does at its turn: the step of each action, what it requires, and what it leaves.
use Rattle.std.specs.Prelude.{◌≡◌, ◌≤◌, ◌^◌, ℕ, Bool, false, List, None, Ok}
use Rattle.rd_base.specs.declared.peers.Peer.{Peer}
use Rattle.message_model.specs.Message.{Message}
use Rattle.message_model.specs.Reading.{reading}
use Rattle.event_model.specs.AdmissionOrder.{IsOpen}
use Rattle.event_model.specs.declared.notes.Note.{Note}
use Rattle.journal_model.specs.declared.rows.Row.{Row}
use Rattle.journal_model.specs.declared.steps.Step.{Step}
use Rattle.journal_model.specs.Journal.{entries_of, events}
use Rattle.journal_model.specs.Machine.{is_look_datagram}
use Rattle.journal_model.specs.Rows.{row, row_moment}
use Rattle.coap_answers.specs.declared.mids.Mids.{Mids}
use Rattle.rd_request.specs.Incoming.{IsIncoming}
use Rattle.rd_desk.specs.calls.Admitting.{IsHeldFor, is_starved_admission}
use Rattle.rd_desk.specs.calls.Shown.{Shown}
use Rattle.rd_desk.specs.calls.Staging.{staged_after}
use Rattle.rd_desk.specs.calls.Steps.{IsCalled, Made}
use Rattle.rd_desk.specs.calls.WriteJobs.{Write}
use Rattle.rd_desk.specs.declared.admitted.Admitted.{Admitted}
use Rattle.version_board.specs.Ends.{PublisherSeen}
use Rattle.rd_seat.specs.declared.actions.Action.{Action}
use Rattle.rd_seat.specs.declared.actions.Action.TheVariants as action
use Rattle.rd_seat.specs.Jobs.{IsOpenJob, LeavesJob, OpensJob}
use Rattle.rd_seat.specs.Seats.{SeatSeen}
use Rattle.rd_seat.specs.Steps.{admit_step, commit_step, keep_step, tick_step}

-- Returns the step of an action. If the action does a write, its admission has this place.
abbrev pub action_step : ℕ → ℕ → Action → ℕ → Step
action_step worker place (action.Admit a) drawn =
    admit_step worker a.moment a.word a.peer a.datagram.now drawn
action_step worker place (action.Commit moment j) drawn =
    commit_step worker place moment j.peer j.datagram drawn
action_step worker place (action.Keep moment j) drawn = keep_step worker moment j drawn
action_step worker place (action.Tick moment word) drawn = tick_step worker moment word drawn

-- Returns the row of an action.
abbrev pub action_row : List Row → ℕ → Mids → Action → Bool → Row
action_row rows place mids a starved =
    row rows (action_step mids.worker place a mids.drawn) starved

-- ---- what an action requires

-- States that the moment of the action is at most 10^15 milliseconds. If the action handles a
-- datagram, the datagram is not a look, and was read.
abbrev pub IsReady : Action → Type 0
IsReady (action.Admit a) =
    (a.moment.0 ≤ 10 ^ 15)
    × IsIncoming a.datagram.now a.incoming
    × (is_look_datagram a.datagram.now ≡ false)
IsReady (action.Commit moment j) = moment.0 ≤ 10 ^ 15
IsReady (action.Keep moment j) = moment.0 ≤ 10 ^ 15
IsReady (action.Tick moment word) = moment.0 ≤ 10 ^ 15

-- States that if the action does a write, the admission of the write has this place in what the
-- seat has seen. The admission is open.
abbrev pub OpensAt : ℕ → SeatSeen → Action → Type 0
OpensAt place seat (action.Commit moment j) = IsOpenJob place seat j
OpensAt place seat _ = Unit {0}

-- A write whose admission has this place in a journal, and is open.
pub record IsOpenIn (rows : List Row) (place : ℕ) (j : Write) : Type 0 where
  pub message : Message
  pub read : reading j.datagram ≡ Ok message
  pub is_open : IsOpen place j.peer message.mid j.admitted (events rows)

-- States that if the action does a write, the admission of the write has this place in a journal,
-- and is open.
abbrev pub OpensIn : List Row → ℕ → Action → Type 0
OpensIn rows place (action.Commit moment j) = IsOpenIn rows place j
OpensIn rows place _ = Unit {0}

-- An action that may be taken on the desk after a journal.
pub record MayAct (rows : List Row) (place : ℕ) (s : Step) (a : Action) (mids : Mids)
    (desk : Shown PublisherSeen) : Type 0 where
  pub called : IsCalled rows s s.handed mids desk.tables
  pub opened : OpensIn rows place a

-- ---- what an action leaves

-- States that the worker has the job of the write that the action admits, or no job if it admits
-- none.
abbrev pub HoldsFor : Action → Admitted → List Note → Step → ℕ → Type 0
HoldsFor (action.Admit a) result notes s moment = IsHeldFor result notes s moment
HoldsFor _ result notes s moment = Unit {0}

-- States that the seat's last row leaves the job of the write that the action admits, or no job if
-- it admits none. The admission is open at the place of that row.
abbrev pub LeavesJobOf : Action → Admitted → SeatSeen → Type 0
LeavesJobOf (action.Admit a) result seat = LeavesJob result seat.seen × OpensJob result seat
LeavesJobOf _ result seat = Unit {0}

-- An action that was taken on the desk. The desk made the row of its step. The board still exposes
-- the entries before it. If nothing was staged before and the step made an entry, the version with
-- that entry is staged.
pub record HasActed (rows : List Row) (s : Step) (starved : Bool) (a : Action) (result : Admitted)
    (mids : Mids) (before after : Shown PublisherSeen) (sent : List (Peer × List ℕ)) (drew : Mids)
    : Type 0 where
  pub made : Made rows (row rows s starved) after.tables sent mids drew
  pub told : after.board.told ≡ before.board.told
  pub staged : before.board.staged ≡ None
      → after.board.staged
      ≡ staged_after (entries_of (row rows s starved)) after.tables.version None
  pub held : HoldsFor a result (row rows s starved).notes s (row_moment rows s)

-- States what an action does on the desk, for each journal that the desk stands for.
abbrev pub Acts : Action → Admitted → Mids → Shown PublisherSeen → Shown PublisherSeen
    → List (Peer × List ℕ) → Mids → Type 0
Acts a result mids before after sent drew = (rows : List Row) (place : ℕ)
    → MayAct rows place (action_step mids.worker place a mids.drawn) a mids before
    → HasActed rows (action_step mids.worker place a mids.drawn) (is_starved_admission result) a
    result mids before after sent drew
