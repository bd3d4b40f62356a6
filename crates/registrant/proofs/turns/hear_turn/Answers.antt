use Rattle.registrant.proofs.TurnLaws.{turned_unsaid, turned_said, sends_none}
use Rattle.registrant.proofs.turns.hear_turn.Goals as goal

pub returns-in-Other-clause-turned : goal.returns-in-Other-clause-turned
returns-in-Other-clause-turned g c = λ a octets past stands.
    turned_unsaid a octets past c.args.now c.args.peer.now c.args.datagram.now _ _ _
    stands.undecided
    (c.in-Other.ensures a octets past stands).1

pub returns-in-Quiet-clause-turned : goal.returns-in-Quiet-clause-turned
returns-in-Quiet-clause-turned g c = λ a octets past stands.
    turned_unsaid a octets past c.args.now c.args.peer.now c.args.datagram.now _ _ _
    stands.undecided
    (c.in-Quiet.ensures a octets past stands).1

pub returns-in-Starved-clause-turned : goal.returns-in-Starved-clause-turned
returns-in-Starved-clause-turned g c = λ a octets past stands.
    sends_none (g.L.Link.gone c.args.link.now) (g.L.Link.send_faults c.args.link.now)

pub returns-in-Over-clause-turned : goal.returns-in-Over-clause-turned
returns-in-Over-clause-turned g c = λ a octets past stands.
    let said = c.in-Over.ensures a octets past stands in
    turned_said a octets past c.args.now c.args.peer.now c.args.datagram.now c.in-Over.outcome
    c.in-Over.octets c.args.talk.now _ _ _ _
    stands.undecided
    said.0
    said.1
    c.acknowledge.ensures.sends
