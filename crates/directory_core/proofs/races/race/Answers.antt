use Rattle.std.proofs.Common.{length, length-set, get_or, refl, ◌∙◌, arith}
use Rattle.directory_core.proofs.RaceLaws.{fair_start, raced, round, same_wholes, turned}
use Rattle.directory_core.proofs.races.race.Goals as goal

pub turns-init : goal.turns-init
turns-init g c = record {
  within = c.requires;
  same = refl;
  fair = fair_start c.args.steps.now (length c.args.cursors.now) c.args.cursors.now;
}

pub returns-in_err-advance-clause-counted : goal.returns-in_err-advance-clause-counted
returns-in_err-advance-clause-counted g c =
    raced c.args.steps.now c.turns.steps c.advance.new.steps (length c.args.cursors.now) c.turns.at
    c.turns.cursors c.args.cursors.now c.turns.invariant.within c.turns.auto.cursors
    c.advance.ensures.counted c.turns.invariant.same c.turns.invariant.fair

pub turns-preserved-then-at-cursors : goal.turns-preserved-then-at-cursors
turns-preserved-then-at-cursors g c =
    let size = length-set c.turns.cursors c.turns.at c.advance.new.self in
    let given = rw c.if-branch.true at c.in_ok-advance.ensures.turned in
    record {
      within = omega (arith, size, c.turns.invariant.within);
      same =
          same_wholes c.turns.cursors c.turns.at
          (get_or c.turns.cursors c.turns.at c.index-cursors-at.result) c.index-cursors-at.result
          c.advance.new.self c.turns.invariant.within refl given.0
          ∙ c.turns.invariant.same;
      fair =
          round c.args.steps.now c.turns.steps c.advance.new.steps (length c.args.cursors.now)
          c.turns.at c.turns.cursors (get_or c.turns.cursors c.turns.at c.index-cursors-at.result)
          c.index-cursors-at.result c.advance.new.self c.turns.invariant.within
          c.turns.auto.cursors (omega (arith, size, c.turns.auto.cursors, c.if-at-cursors.true))
          c.advance.ensures.counted refl given.1 c.turns.invariant.fair;
    }

pub turns-preserved : goal.turns-preserved
turns-preserved g c =
    let size = length-set c.turns.cursors c.turns.at c.advance.new.self in
    let given = rw c.if-branch.true at c.in_ok-advance.ensures.turned in
    record {
      within = omega (arith, size, c.turns.invariant.within, c.if-at-cursors.false);
      same =
          same_wholes c.turns.cursors c.turns.at
          (get_or c.turns.cursors c.turns.at c.index-cursors-at.result) c.index-cursors-at.result
          c.advance.new.self c.turns.invariant.within refl given.0
          ∙ c.turns.invariant.same;
      fair =
          turned c.args.steps.now c.turns.steps c.advance.new.steps (length c.args.cursors.now)
          c.turns.at c.turns.cursors (get_or c.turns.cursors c.turns.at c.index-cursors-at.result)
          c.index-cursors-at.result c.advance.new.self c.turns.invariant.within
          c.advance.ensures.counted refl given.1 c.turns.invariant.fair;
    }

pub returns-clause-same : goal.returns-clause-same
returns-clause-same g c =
    let given = rw c.if-branch.false at c.in_ok-advance.ensures.turned in
    same_wholes c.turns.cursors c.turns.at
    (get_or c.turns.cursors c.turns.at c.index-cursors-at.result) c.index-cursors-at.result
    c.advance.new.self c.turns.invariant.within refl given.0
    ∙ c.turns.invariant.same

pub returns-clause-counted : goal.returns-clause-counted
returns-clause-counted g c =
    raced c.args.steps.now c.turns.steps c.advance.new.steps (length c.args.cursors.now) c.turns.at
    c.turns.cursors c.args.cursors.now c.turns.invariant.within c.turns.auto.cursors
    c.advance.ensures.counted c.turns.invariant.same c.turns.invariant.fair
