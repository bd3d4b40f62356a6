use Rattle.std.proofs.Common.{refl}
use Rattle.coap_stream.specs.Endings.{source_seen, talk_seen}
use Rattle.joint_server.proofs.turns.turn.Goals as goal

pub returns-in-One-clause-made : goal.returns-in-One-clause-made
returns-in-One-clause-made g c =
    let new = c.attend-talked.new in
    record {
      connection = record {
        peer = c.in-One.peer;
        before = talk_seen g.E.Out.Sink g.C.Clock (source_seen g.E.In.Source c.in-One.source)
            c.args.seat.now c.in-One.out c.args.clock.now;
        after = talk_seen g.E.Out.Sink g.C.Clock (source_seen g.E.In.Source new.source)
            new.seat new.out new.clock;
        result = c.attend-talked.result;
      };
      let_in = c.in-One.ensures;
      attended = record {
        begins = refl;
        ends = refl;
        attends = c.attend-talked.ensures.attends;
      };
      counts = c.asked_of.ensures;
    }
