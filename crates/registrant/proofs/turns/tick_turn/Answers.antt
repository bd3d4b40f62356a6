use Rattle.registrant.proofs.TurnLaws.{turned_waits, turned_sends, turned_ends}
use Rattle.registrant.proofs.turns.tick_turn.Goals as goal

pub returns-in-Wait-clause-turned : goal.returns-in-Wait-clause-turned
returns-in-Wait-clause-turned g c = λ a octets past stands.
    let due = c.in-Wait.ensures a octets past stands in
    turned_waits a octets past c.args.now _ _ _ due.0 due.1

pub returns-in-Send-clause-turned : goal.returns-in-Send-clause-turned
returns-in-Send-clause-turned g c = λ a octets past stands.
    let due = c.in-Send.ensures a octets past stands in
    turned_sends a octets past c.args.now _ c.to.result c.bytes.result.now _ _ _ _ due.0 due.1
    c.to.ensures
    c.bytes.ensures
    c.send.ensures.sends

pub returns-in-Over-clause-turned : goal.returns-in-Over-clause-turned
returns-in-Over-clause-turned g c = λ a octets past stands.
    turned_ends a octets past c.args.now c.in-Over.outcome c.args.talk.now _ _
    stands.undecided
    (c.in-Over.ensures a octets past stands)
