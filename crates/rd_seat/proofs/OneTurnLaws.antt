-- One turn of a seat: from what its beginning finds, the desk's step and its end, what the seat
-- shows and keeps afterwards.
use Rattle.std.proofs.Common.{◌≡◌, ℕ, ◌^◌, ◌<◌, max, Bool, List, ◌∷◌, None, sym, ap, subst, ◌∙◌}
use Rattle.rd_base.specs.declared.moments.Moment.{Moment}
use Rattle.rd_base.specs.declared.peers.Peer.{Peer}
use Rattle.journal_model.specs.declared.rows.Row.{Row}
use Rattle.journal_model.specs.declared.steps.Step.{Step}
use Rattle.journal_model.specs.Journal.{entries_of}
use Rattle.journal_model.specs.DeskJournal.{MayFollow}
use Rattle.journal_model.specs.Rows.{row}
use Rattle.journal_model.specs.Seats.{rows_of}
use Rattle.journal_model.specs.UnfinishedRow.{drawing}
use Rattle.journal_model.proofs.SeatLaws.{IsFront-trans}
use Rattle.turn_lock.specs.Shown.{number_of, seen_of}
use Rattle.coap_answers.specs.declared.mids.Mids.{Mids}
use Rattle.rd_desk.specs.calls.Shown.{Shown}
use Rattle.rd_desk.specs.calls.Staging.{staged_after}
use Rattle.rd_desk.specs.calls.Steps.{IsCalled, Made}
use Rattle.version_board.specs.Ends.{PublisherSeen}
use Rattle.rd_seat.specs.declared.shares.Share.{Share}
use Rattle.rd_seat.specs.Seats.{MakesStep}
use Rattle.rd_seat.specs.Shares.{Rests, HasTaken, HasGiven, HasTurned, share_shown}
use Rattle.rd_seat.specs.Steps.{first_entry}
use Rattle.rd_seat.specs.Turns.{AreTurns, HasStepped}
use Rattle.rd_seat.proofs.TurnLaws.{now-row, AreTurns-row, HasStepped-by, row-MakesAtMost}
use Rattle.rd_seat.proofs.SeatLaws.{made-MakesRow, drawing-drawn_more, drawing-small, turn-IsAtRest}

-- A share at rest takes the turn, and the desk makes the row of a step. The version with its entry
-- is staged then, if it made one.
pub record Turn (before taken : Share) (s : Step) (starved : Bool)
    (desk left : Shown PublisherSeen) (sent : List (Peer × List ℕ)) (drew : Mids) : Type 0 where
  pub rest : Rests before
  pub took : HasTaken before taken desk
  pub called : IsCalled (seen_of taken.pass) s s.handed taken.mids desk.tables
  pub may : MayFollow (seen_of taken.pass) s
  pub made : Made (seen_of taken.pass) (row (seen_of taken.pass) s starved) left.tables sent
      taken.mids drew
  pub told : left.board.told ≡ desk.board.told
  pub staged : left.board.staged
      ≡ staged_after (entries_of (row (seen_of taken.pass) s starved)) left.tables.version None

module _ {before taken : Share} {s : Step} {starved : Bool} {desk left : Shown PublisherSeen}
    {sent : List (Peer × List ℕ)} {drew : Mids}
    (turn : Turn before taken s starved desk left sent drew) where
  abbrev found : List Row
  found = seen_of taken.pass

  abbrev new_row : Row
  new_row = row (seen_of taken.pass) s starved

  -- the desk has stepped, and nothing is published yet
  pub turn-HasStepped : HasStepped (first_entry (entries_of new_row))
      new_row (number_of taken.pass) found left
  turn-HasStepped =
      subst (λ (n : ℕ). HasStepped
      (first_entry (entries_of new_row))
      new_row n found left)
      (turn.called.worker ∙ (ap (λ (m : Mids). m.worker) turn.took.mids
      ∙ (sym turn.rest.number ∙ sym turn.took.begun.number)))
      (HasStepped-by found s starved
      (first_entry (entries_of new_row)) desk left
      turn.took.begun.stands turn.may turn.called.no_look turn.made.stands turn.told turn.staged
      (row-MakesAtMost found s starved))

  turn-AreTurns : AreTurns (new_row ∷ found)
  turn-AreTurns = AreTurns-row found s starved turn.took.begun.stands.turns turn.may
      turn.called.no_look

  module _ {given : Share}
      (gave : HasGiven new_row (record {
        alloc = taken.alloc;
        pass = taken.pass;
        looker = taken.looker;
        mids = drew;
        last = taken.last;
      }) given left) where
    -- the row is the later one of two moments
    turn-later : given.last.0 ≡ max before.last.0 new_row.moment.0
    unfolding row
    turn-later =
        gave.last
        ∙ (ap (λ (m : Moment). max m.0 left.tables.moment) turn.took.last
        ∙ ap (max before.last.0) (turn.made.stands.moment
        ∙ now-row new_row found turn.called.no_look))

    turn-worker : given.mids.worker ≡ before.mids.worker
    turn-worker = ap (λ (m : Mids). m.worker) gave.mids ∙ (turn.made.worker
        ∙ ap (λ (m : Mids). m.worker) turn.took.mids)

    turn-drawn : given.mids.drawn
        ≡ drawing new_row.drew before.mids.drawn
    turn-drawn = ap (λ (m : Mids). m.drawn) gave.mids ∙ (turn.made.drawn
        ∙ ap (λ (m : Mids). drawing new_row.drew m.drawn)
        turn.took.mids)

    -- the seat is at rest again
    turn-rests : Rests given
    turn-rests = turn-IsAtRest before.pass given.pass before.looker taken.looker given.looker
        before.mids given.mids before.last given.last found
        new_row turn.rest
        gave.ended.idle (gave.ended.number ∙ turn.took.begun.number) gave.ended.own gave.ended.below
        (gave.ended.label ∙ turn.took.begun.label) gave.ended.seen
        (gave.ended.name ∙ turn.took.begun.name) gave.ended.met_own turn.took.begun.only
        gave.ended.only turn.took.begun.stands.turns turn-AreTurns
        turn-later turn-worker (subst (λ (n : ℕ). n < 2 ^ 64) (sym turn-drawn)
        (drawing-small new_row.drew before.mids.drawn
        turn.rest.drawn))

    -- and has made the row of the step
    turn-MakesStep : MakesStep (share_shown before) s starved sent (share_shown given)
    unfolding row
    turn-MakesStep shown front may =
        made-MakesRow (share_shown before) (share_shown given) shown
        front found s starved sent may turn.took.begun.goes_on
        (subst (λ (n : ℕ). rows_of n found ≡ rows_of n (seen_of before.pass))
        turn.rest.number turn.took.begun.by_others)
        turn.took.begun.order turn.called.no_look
        (turn.called.worker ∙ ap (λ (m : Mids). m.worker) turn.took.mids)
        (turn.called.drawn ∙ ap (λ (m : Mids). m.drawn) turn.took.mids) turn.made.sent turn-worker
        gave.ended.seen
        (gave.ended.mine ∙ ap (λ (rows : List Row). new_row ∷ rows)
        turn.took.begun.mine)
        turn-later (turn-drawn ∙ drawing-drawn_more new_row.drew
        before.mids.drawn turn.rest.drawn)

    -- so it had its turn, and still has met what it had met
    pub turn-HasTurned : HasTurned before s starved sent given
    turn-HasTurned = record {
      goes_on = record {
        hall = gave.ended.hall ∙ turn.took.begun.hall;
        rest = turn-rests;
        met = IsFront-trans before.looker.seen taken.looker.seen given.looker.seen
            turn.took.begun.met gave.ended.met;
      };
      made = turn-MakesStep;
    }
