use Rattle.std.proofs.Common.{◌≡◌, ◌+◌, ◌≤◌, length}
use Rattle.lease_queue.proofs.lapses.LapsedIter.count.Given as goal

abbrev pub invariant-loop-count : goal.invariant-loop-count
invariant-loop-count g l =
    record {
      count : l.count + length l.self ≡ length l.fn.self;
      bound : length l.fn.self ≤ l.most;
    }

abbrev pub decreases-loop-count : goal.decreases-loop-count
decreases-loop-count g l = length l.self
