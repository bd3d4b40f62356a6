use Rattle.std.proofs.Common.{◌∷◌, ◌+◌, [], refl, arith}
use Rattle.coap_answers.specs.Outboxes.{most_datagrams}
use Rattle.rd_server.proofs.service.SendLaws.{IsBelow-more}
use Rattle.rd_server.proofs.service.CallLaws.{CallsMade-then, CountsCalls-then}
use Rattle.rd_server.proofs.service.TurnLaws.{ticks_at}
use Rattle.rd_server.proofs.serving.turns.hear_datagram.Goals as goal

pub returns-then-tally-eq0-clause-grows : goal.returns-then-tally-eq0-clause-grows
returns-then-tally-eq0-clause-grows g c limit below =
    IsBelow-more (limit + 2306 + (most_datagrams + 1)) (limit + 3459) c.tick.new.tally.served
    (c.tick.ensures.grows (limit + 2306) (c.answer.ensures.grows limit below)) (omega arith)

pub returns-then-tally-eq0-clause-made : goal.returns-then-tally-eq0-clause-made
returns-then-tally-eq0-clause-made g c =
    let answered = c.answer.ensures.made in
    let ticked = c.tick.ensures.made in (
      ticked.0 ∷ answered.0,
      record {
        heard = answered.0;
        ticks = ticked.0 ∷ [];
        whole = refl;
        within = c.requires.within;
        hears = answered.1;
        sixteenth = ticks_at c.args.tally.now.served.heard c.answer.new.tally.served.heard
            (ticked.0 ∷ []) answered.3.heard c.if-tally-eq0.true
            (record { tick = ticked.0; alone = refl; kind = ticked.1 });
      },
      CallsMade-then answered.0 (ticked.0 ∷ []) _ _ _ answered.2 ticked.2,
      CountsCalls-then answered.0 (ticked.0 ∷ []) c.args.tally.now.served
          c.answer.new.tally.served c.tick.new.tally.served answered.3 ticked.3,
    )
