use Rattle.std.proofs.Common.{◌≡◌, length}
use Rattle.directory_core.specs.Lapsing.{lapsing_left}
use Rattle.directory_core.proofs.lapsing_iter.next_lapsing.Given as goal

abbrev pub invariant-numbers : goal.invariant-numbers
invariant-numbers g l =
    lapsing_left l.from.0 l.records l.left ≡ lapsing_left l.from.0 l.records l.fn.left

abbrev pub decreases-numbers : goal.decreases-numbers
decreases-numbers g l = length l.left
