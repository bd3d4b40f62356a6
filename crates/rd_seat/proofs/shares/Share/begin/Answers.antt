use Rattle.std.proofs.Common.{List, [], sym, subst}
use Rattle.journal_model.specs.declared.rows.Row.{Row}
use Rattle.journal_model.specs.Journal.{entries_of}
use Rattle.journal_model.specs.Rows.{row}
use Rattle.coap_answers.specs.declared.mids.Mids.{Mids}
use Rattle.rd_desk.specs.calls.Stepping.{is_starved_step}
use Rattle.turn_lock.specs.Shown.{number_of, seen_of}
use Rattle.rd_seat.specs.declared.shares.Share.{Share}
use Rattle.rd_seat.specs.Shares.{HasTaken, HasGiven, HasTurned}
use Rattle.rd_seat.specs.Steps.{begin_step, first_entry}
use Rattle.rd_seat.specs.Turns.{HasStepped}
use Rattle.rd_seat.proofs.ActionLaws.{begin-Turn}
use Rattle.rd_seat.proofs.OneTurnLaws.{Turn, turn-HasStepped, turn-HasTurned}
use Rattle.rd_seat.proofs.shares.Share.begin.Goals as goal

-- the desk made the row of the step
pub give-requires-clause-stepped : goal.give-requires-clause-stepped
give-requires-clause-stepped g c =
    let taken : Share = c.take-shared.new.self in
    let found : List Row = seen_of taken.pass in
    let starved = is_starved_step c.begin-stepped.result in
    let left = c.begin-stepped.new.self in
    let turn : Turn c.args.self.now taken
    (begin_step taken.mids.worker c.args.now c.args.first taken.mids.drawn) starved
    c.deref_mut.result.now left [] taken.mids =
    begin-Turn c.args.self.now taken c.args.now c.args.first starved c.deref_mut.result.now left
    c.requires.rest
    (subst (HasTaken c.args.self.now taken) (sym c.deref_mut.ensures.value) c.take-shared.ensures)
    (c.begin-stepped.ensures.made found) c.begin-stepped.ensures.told
    (c.begin-stepped.ensures.staged found) in
    subst (λ (m : Mids). HasStepped (first_entry (entries_of (row found
    (begin_step m.worker c.args.now c.args.first m.drawn) starved)))
    (row found (begin_step m.worker c.args.now c.args.first m.drawn) starved)
    (number_of taken.pass) found left) (sym c.of-mids.ensures) (turn-HasStepped turn)

-- and so the seat had its turn
pub returns : goal.returns
returns g c =
    let taken : Share = c.take-shared.new.self in
    let found : List Row = seen_of taken.pass in
    let starved = is_starved_step c.begin-stepped.result in
    let left = c.begin-stepped.new.self in
    let turn : Turn c.args.self.now taken
    (begin_step taken.mids.worker c.args.now c.args.first taken.mids.drawn) starved
    c.deref_mut.result.now left [] taken.mids =
    begin-Turn c.args.self.now taken c.args.now c.args.first starved c.deref_mut.result.now left
    c.requires.rest
    (subst (HasTaken c.args.self.now taken) (sym c.deref_mut.ensures.value) c.take-shared.ensures)
    (c.begin-stepped.ensures.made found) c.begin-stepped.ensures.told
    (c.begin-stepped.ensures.staged found) in
    subst (λ (m : Mids). HasTurned c.args.self.now
    (begin_step m.worker c.args.now c.args.first m.drawn) starved [] c.give.new.self)
    c.take-shared.ensures.mids
    (turn-HasTurned turn
    (subst (λ (m : Mids). HasGiven (row found
    (begin_step m.worker c.args.now c.args.first m.drawn) starved) taken c.give.new.self left)
    c.of-mids.ensures c.give.ensures))
