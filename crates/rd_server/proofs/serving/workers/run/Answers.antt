use Rattle.std.proofs.Common.{◌+◌, ◌*◌, Bool, true, false, subst, ◌∙◌, arith}
use Rattle.rd_server.specs.serving.Service.{GoesOn}
use Rattle.rd_server.proofs.service.SendLaws.{IsBelow-more}
use Rattle.rd_server.proofs.service.TurnLaws.{TurnsMade-none, TurnsMade-more, Serves-failed}
use Rattle.rd_server.proofs.serving.workers.run.Goals as goal

pub turns-init : goal.turns-init
turns-init g c =
    let z = c.default.ensures in (
      c.requires.hall,
      omega arith,
      record {
        heard = omega (arith, z.0);
        sent = omega (arith, z.1.0);
        lost = omega (arith, z.1.1.0);
        too_long = omega (arith, z.1.1.1.0);
        starved = omega (arith, z.1.1.1.1);
      },
      TurnsMade-none _ _ (record {
        heard = z.0;
        sent = z.1.0;
        lost = z.1.1.0;
        too_long = z.1.1.1.0;
        starved = z.1.1.1.1;
      }),
    )

pub returns-then-not-turn-clause-serves : goal.returns-then-not-turn-clause-serves
returns-then-not-turn-clause-serves g c =
    let made = c.turn.ensures.made in
    let goes : GoesOn false made.0 (g.L.Link.recv_faults c.turns.link)
    (g.L.Link.recv_faults c.turn.new.link) =
    subst (λ (b : Bool). GoesOn b made.0 (g.L.Link.recv_faults c.turns.link)
    (g.L.Link.recv_faults c.turn.new.link)) c.if-not-turn.true made.3 in
    Serves-failed c.turns.done c.args.turns made.0 _ _ _ _ c.turns-test.true
    c.turns.invariant.3 made.1 goes

pub turns-preserved : goal.turns-preserved
turns-preserved g c =
    let made = c.turn.ensures.made in
    let goes : GoesOn true made.0 (g.L.Link.recv_faults c.turns.link)
    (g.L.Link.recv_faults c.turn.new.link) =
    subst (λ (b : Bool). GoesOn b made.0 (g.L.Link.recv_faults c.turns.link)
    (g.L.Link.recv_faults c.turn.new.link)) c.if-not-turn.false made.3 in (
      c.turn.ensures.hall ∙ c.turns.invariant.0,
      omega (arith, c.turns-test.true),
      IsBelow-more (4000 * c.turns.done + 4000) (4000 * (c.turns.done + 1))
          c.turn.new.tally.served
          (c.turn.ensures.grows (4000 * c.turns.done) c.turns.invariant.2) (omega arith),
      TurnsMade-more c.turns.done made.0 _ _ _ _ _ c.turns.invariant.3 made.1 made.2 goes,
    )
