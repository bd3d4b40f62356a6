use Rattle.std.proofs.Common.{◌≡◌, length}
use Rattle.directory_core.specs.LiveCounts.{without_lapses}
use Rattle.directory_core.proofs.counts.counts_after.Given as goal

abbrev pub invariant-lapsed : goal.invariant-lapsed
invariant-lapsed g l =
    without_lapses l.from.0 l.records l.counts l.lapsed
    ≡ without_lapses l.from.0 l.records l.fn.before l.fn.lapsed

abbrev pub decreases-lapsed : goal.decreases-lapsed
decreases-lapsed g l = length l.lapsed
