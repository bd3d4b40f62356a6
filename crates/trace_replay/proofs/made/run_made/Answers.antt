use Rattle.std.proofs.Common.{take, subst, ◌∙◌}
use Rattle.trace_replay.specs.Endings.{IsFrontOf}
use Rattle.trace_replay.proofs.Fronts.{front_take}
use Rattle.trace_replay.proofs.made.run_made.Goals as goal

pub returns-then-not-write_all-clause-written : goal.returns-then-not-write_all-clause-written
returns-then-not-write_all-clause-written g c =
    let n = c.write_all.ensures.front.0 in
    let written = c.as_slice.result.now in (
      take n written,
      subst (IsFrontOf (take n written)) (c.as_slice.ensures.value ∙ c.in-Ok.ensures)
          (front_take n written),
      c.write_all.ensures.front.1,
    )
