use Rattle.std.proofs.Common.{◌∷◌, [], take, refl, ◌∙◌, arith}
use Rattle.rd_server.specs.serving.Turns.{Turn, Heard, TooLong, Nothing, Failed}
use Rattle.rd_server.specs.serving.Workers.{WorkerSeen, worker_seen}
use Rattle.rd_server.proofs.service.TurnLaws.{
  turn-made,
  CallsMade-none,
  CountsTurn-calls,
  long_comes,
}
use Rattle.rd_server.proofs.serving.turns.turn.Goals as goal

pub returns-in-Datagram-clause-made : goal.returns-in-Datagram-clause-made
returns-in-Datagram-clause-made g c =
    let m : WorkerSeen = worker_seen g.L.Link g.C.Clock c.args.seat.now c.recv.new.self
    c.args.clock.now in
    let t : Turn = record {
      came = Heard c.in-Datagram.peer (take c.in-Datagram.n c.recv.new.into);
      calls = c.hear_datagram.ensures.made.0;
    } in (
      t,
      turn-made c.args.tally.now.served.heard t _ m _ c.hear_datagram.ensures.made.1 refl refl
          c.in-Datagram.ensures.takes c.in-Datagram.ensures.sent_stays
          c.in-Datagram.ensures.sends_stand c.in-Datagram.ensures.called
          c.hear_datagram.ensures.made.2,
      CountsTurn-calls t c.args.tally.now.served _ c.hear_datagram.new.tally.served
          refl refl refl refl refl c.hear_datagram.ensures.made.3,
      (tt, c.hear_datagram.ensures.made.2.received ∙ c.in-Datagram.ensures.cause),
    )

pub returns-in-TooLong-clause-made : goal.returns-in-TooLong-clause-made
returns-in-TooLong-clause-made g c =
    let m : WorkerSeen = worker_seen g.L.Link g.C.Clock c.args.seat.now c.recv.new.self
    c.args.clock.now in
    let t : Turn = record { came = TooLong; calls = c.tick.ensures.made.0 ∷ [] } in (
      t,
      turn-made c.args.tally.now.served.heard t _ m _
          (record { tick = c.tick.ensures.made.0; alone = refl; kind = c.tick.ensures.made.1 })
          refl refl
          (long_comes (g.L.Link.coming c.args.link.now) (g.L.Link.coming c.recv.new.self)
          c.recv.new.into c.in-TooLong.ensures.takes)
          c.in-TooLong.ensures.sent_stays c.in-TooLong.ensures.sends_stand
          c.in-TooLong.ensures.called c.tick.ensures.made.2,
      CountsTurn-calls t c.args.tally.now.served _ c.tick.new.tally.served
          refl refl refl refl refl c.tick.ensures.made.3,
      (tt, c.tick.ensures.made.2.received ∙ c.in-TooLong.ensures.cause),
    )

pub returns-in-Nothing-clause-made : goal.returns-in-Nothing-clause-made
returns-in-Nothing-clause-made g c =
    let m : WorkerSeen = worker_seen g.L.Link g.C.Clock c.args.seat.now c.recv.new.self
    c.args.clock.now in
    let ticked = c.tick-in-Nothing.ensures.made in
    let t : Turn = record { came = Nothing; calls = ticked.0 ∷ [] } in (
      t,
      turn-made c.args.tally.now.served.heard t _ m _
          (record { tick = ticked.0; alone = refl; kind = ticked.1 }) refl refl
          c.in-Nothing.ensures.takes c.in-Nothing.ensures.sent_stays
          c.in-Nothing.ensures.sends_stand c.in-Nothing.ensures.called ticked.2,
      CountsTurn-calls t c.args.tally.now.served _ c.tick-in-Nothing.new.tally.served
          refl refl refl refl refl ticked.3,
      (tt, ticked.2.received ∙ c.in-Nothing.ensures.cause),
    )

pub returns-in-Failed-clause-made : goal.returns-in-Failed-clause-made
returns-in-Failed-clause-made g c =
    let m : WorkerSeen = worker_seen g.L.Link g.C.Clock c.args.seat.now c.recv.new.self
    c.args.clock.now in
    let t : Turn = record { came = Failed; calls = [] } in (
      t,
      turn-made c.args.tally.now.served.heard t _ m m refl refl refl
          c.in-Failed.ensures.takes c.in-Failed.ensures.sent_stays
          c.in-Failed.ensures.sends_stand c.in-Failed.ensures.called (CallsMade-none m),
      record {
        heard_then = refl;
        sent_then = omega arith;
        lost_then = omega arith;
        long_then = refl;
        starved_then = omega arith;
      },
      (refl, c.in-Failed.ensures.cause.0, c.in-Failed.ensures.cause.1),
    )
