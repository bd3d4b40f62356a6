-- What the steps and looks of a worker leave of its share of a hall.
use Rattle.std.specs.Prelude.{◌≡◌, ℕ, max, Bool, List, Option}
use Rattle.rd_base.specs.declared.peers.Peer.{Peer}
use Rattle.event_model.specs.KeptAnswers.{Answer}
use Rattle.history_model.specs.Live.{IsFront}
use Rattle.journal_model.specs.declared.rows.Row.{Row}
use Rattle.journal_model.specs.declared.steps.Step.{Step}
use Rattle.rd_desk.specs.declared.admitted.Admitted.{Admitted}
use Rattle.rd_desk.specs.calls.Admitting.{is_starved_admission}
use Rattle.rd_desk.specs.calls.Shown.{Shown}
use Rattle.version_board.specs.Ends.{PublisherSeen}
use Rattle.rd_seat.specs.declared.actions.Action.{Action}
use Rattle.rd_seat.specs.declared.shares.Share.{Share}
use Rattle.rd_seat.specs.Actions.{action_step, LeavesJobOf}
use Rattle.rd_seat.specs.Insides.{IsAtRest, hall_of, seat_shown}
use Rattle.rd_seat.specs.OneTurn.{HasBegun, HasEnded}
use Rattle.rd_seat.specs.Seats.{SeatSeen, MakesStep, LooksAtMet}

-- Returns what the seat of a share shows.
abbrev pub share_shown : Share → SeatSeen
share_shown share = seat_shown share.pass share.looker share.mids share.last

-- States that the share is as it is between two calls.
abbrev pub Rests : Share → Type 0
Rests share = IsAtRest share.pass share.looker share.mids share.last

-- A share that is of the same hall, is at rest again, and has met all that it had met before.
pub record GoesOnAs (before after : Share) : Type 0 where
  pub hall : hall_of after.pass ≡ hall_of before.pass
  pub rest : Rests after
  pub met : IsFront before.looker.seen after.looker.seen

-- A share that took the turn, and has the desk. Only its pass and its looker changed.
pub record HasTaken (before after : Share) (desk : Shown PublisherSeen) : Type 0 where
  pub begun : HasBegun before.pass after.pass before.looker after.looker desk
  pub mids : after.mids ≡ before.mids
  pub last : after.last ≡ before.last

-- A share that gave the turn back, with the desk and one more row.
pub record HasGiven (r : Row) (before after : Share) (desk : Shown PublisherSeen) : Type 0 where
  pub ended : HasEnded r before.pass after.pass before.looker after.looker
  pub mids : after.mids ≡ before.mids
  pub last : after.last.0 ≡ max before.last.0 desk.tables.moment

-- A share that had a turn, at which it made the row of a step.
pub record HasTurned (before : Share) (s : Step) (starved : Bool) (sent : List (Peer × List ℕ))
    (after : Share) : Type 0 where
  pub goes_on : GoesOnAs before after
  pub made : MakesStep (share_shown before) s starved sent (share_shown after)

-- A share that took an action at a turn. The worker has the job of the write that the row admits.
pub record HasTakenAction (before : Share) (place : ℕ) (a : Action) (result : Admitted)
    (sent : List (Peer × List ℕ)) (after : Share) : Type 0 where
  pub turned : HasTurned before (action_step before.mids.worker place a before.mids.drawn)
      (is_starved_admission result) sent after
  pub left : LeavesJobOf a result (share_shown after)

-- A share that looked from what it has met by then.
pub record HasLooked (before : Share) (s : Step) (starved : Bool) (sent : List (Peer × List ℕ))
    (held : Option Answer) (after : Share) : Type 0 where
  pub goes_on : GoesOnAs before after
  pub looks : LooksAtMet (share_shown before) s starved sent held (share_shown after)
