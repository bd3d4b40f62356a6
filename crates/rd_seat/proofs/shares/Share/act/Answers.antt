use Rattle.std.proofs.Common.{sym, subst}
use Rattle.journal_model.specs.declared.rows.Row.{Row}
use Rattle.journal_model.specs.Journal.{entries_of}
use Rattle.turn_lock.specs.Shown.{number_of, seen_of}
use Rattle.rd_seat.specs.declared.shares.Share.{Share}
use Rattle.rd_seat.specs.Actions.{action_row}
use Rattle.rd_seat.specs.Shares.{HasTaken, HasGiven}
use Rattle.rd_seat.specs.Steps.{first_entry}
use Rattle.rd_seat.specs.Turns.{HasStepped}
use Rattle.rd_seat.proofs.ActionLaws.{action-Turn, action-HasTakenAction}
use Rattle.rd_seat.proofs.OneTurnLaws.{turn-HasStepped}
use Rattle.rd_seat.proofs.shares.Share.act.Goals as goal

-- the desk made the row of the step
pub give-requires-clause-stepped : goal.give-requires-clause-stepped
give-requires-clause-stepped g c =
    let taken : Share = c.take-shared.new.self in
    subst (λ (r : Row). HasStepped (first_entry (entries_of r)) r (number_of taken.pass)
    (seen_of taken.pass) c.act-admitted.new.desk)
    (λ i. action_row (seen_of taken.pass) g.place (sym c.of-mids.ensures i)
    (sym c.of-kept.ensures i) (sym c.is_starved.ensures i))
    (turn-HasStepped (action-Turn g.place c.args.self.now taken c.args.action
    c.act-admitted.result c.deref_mut.result.now c.act-admitted.new.desk c.act-admitted.new.out
    c.act-admitted.new.mids c.requires.1.1.1.0
    (subst (HasTaken c.args.self.now taken) (sym c.deref_mut.ensures.value) c.take-shared.ensures)
    c.requires.1.1.1.1.1.1 c.act-admitted.ensures.acted).turn)

-- and so the seat had its turn
pub returns : goal.returns
returns g c =
    let taken : Share = c.take-shared.new.self in
    action-HasTakenAction g.place c.args.self.now taken c.give.new.self c.args.action
    c.act-admitted.result c.deref_mut.result.now c.act-admitted.new.desk c.act-admitted.new.out
    c.act-admitted.new.mids c.requires.1.1.1.0
    (subst (HasTaken c.args.self.now taken) (sym c.deref_mut.ensures.value) c.take-shared.ensures)
    c.requires.1.1.1.1.1.1 c.act-admitted.ensures.acted
    (subst (λ (r : Row). HasGiven r (record {
      alloc = taken.alloc;
      pass = taken.pass;
      looker = taken.looker;
      mids = c.act-admitted.new.mids;
      last = taken.last;
    }) c.give.new.self c.act-admitted.new.desk)
    (λ i. action_row (seen_of taken.pass) g.place (c.of-mids.ensures i) (c.of-kept.ensures i)
    (c.is_starved.ensures i)) c.give.ensures)
