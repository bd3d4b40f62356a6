use Rattle.coap_stream.specs.Endings.{TalkSeen, source_seen, talk_seen}
use Rattle.coap_stream.proofs.ServingLaws.{one_served, talk_unfailed}
use Rattle.coap_stream.proofs.serving.serve_one.Goals as goal

pub returns-in-One-clause-serves : goal.returns-in-One-clause-serves
returns-in-One-clause-serves g c =
    let new = c.converse-talked.new in
    let before : TalkSeen =
    talk_seen g.A.Out.Sink g.C.Clock (source_seen g.A.In.Source c.in-One.source)
    c.args.seat.now c.in-One.out c.args.clock.now in
    let after : TalkSeen =
    talk_seen g.A.Out.Sink g.C.Clock (source_seen g.A.In.Source new.source)
    new.seat new.out new.clock in
    one_served _ c.in-One.peer before after c.converse-talked.result
    (g.A.Accept.coming c.args.door.now) (g.A.Accept.coming c.next.new.self)
    (g.A.Accept.faults c.args.door.now) (g.A.Accept.faults c.next.new.self) c.asked_of.result
    c.in-One.ensures.opened c.in-One.ensures.cause c.converse-talked.ensures.talks
    (λ never. talk_unfailed c.in-One.peer before after c.converse-talked.result
    c.converse-talked.ensures.talks (never.reads c.in-One.source) (never.reads new.source)
    (never.writes c.in-One.out) (never.writes new.out))
    c.asked_of.ensures
