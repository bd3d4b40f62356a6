use Rattle.std.proofs.Common.{◌≡◌, ℕ, subst, ◌∙◌, arith}
use Rattle.joint_server.specs.Standing.{IsFew}
use Rattle.joint_server.proofs.StandLaws.{
  few_turned,
  stands_all,
  stands_none,
  stands_shut,
  stands_turned,
}
use Rattle.joint_server.proofs.standing.attend_door.Goals as goal

pub turns-init : goal.turns-init
turns-init g c =
    let z = c.default-attended.ensures in
    record {
      hall = c.requires.hall;
      within = omega arith;
      few = record {
        connections = omega (arith, z.0);
        asked = omega (arith, z.1);
      };
      so = stands_none _ _ _ z.0 z.1;
    }

pub returns-in-Err-clause-attends : goal.returns-in-Err-clause-attends
returns-in-Err-clause-attends g c =
    stands_shut _ _ _ _ _ _ c.turns.attended c.in-Err.fault c.turns.invariant.so
    c.in-Err.ensures.made

pub turns-preserved : goal.turns-preserved
turns-preserved g c =
    let made = c.in-Ok.ensures.made in
    record {
      hall = c.take_turn.ensures.hall ∙ c.turns.invariant.hall;
      within = omega (arith, c.turns-test.true);
      few = few_turned c.turns.done c.turns.attended c.take_turn.new.attended made.0
          c.turns.invariant.few made.2 made.3;
      so = stands_turned _ _ _ _ _ _ c.turns.attended c.take_turn.new.attended made.0
          c.turns.invariant.so made.1 made.3;
    }

pub returns-clause-attends : goal.returns-clause-attends
returns-clause-attends g c = stands_all _ _ _ _ c.turns.attended c.turns.invariant.so

pub returns-clause-few : goal.returns-clause-few
returns-clause-few g c =
    let all : c.turns.done ≡ c.args.turns =
    omega (arith, c.turns-test.false, c.turns.invariant.within) in
    subst (λ (n : ℕ). IsFew n c.turns.attended) all c.turns.invariant.few
