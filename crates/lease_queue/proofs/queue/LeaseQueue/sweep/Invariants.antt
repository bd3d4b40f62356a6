use Rattle.std.proofs.Common.{◌≡◌, ◌+◌, ◌++◌, length}
use Rattle.std.specs.Map.{keys_of}
use Rattle.lease_queue.specs.Leases.{IsAscending, lapsed_at, unlapsed_at}
use Rattle.lease_queue.proofs.queue.LeaseQueue.sweep.Given as goal

abbrev pub invariant-loop-lease : goal.invariant-loop-lease
invariant-loop-lease g l =
    record {
      queue : l.queue ≡ keys_of l.all;
      ascends : IsAscending (keys_of l.all);
      numbers : l.numbers.items ++ lapsed_at l.now.0 (keys_of l.all) ≡ lapsed_at l.now.0 l.fn.self;
      unlapsed : unlapsed_at l.now.0 (keys_of l.all) ≡ unlapsed_at l.now.0 l.fn.self;
      counted :
          l.steps + length (lapsed_at l.now.0 (keys_of l.all))
          ≡ l.fn.steps + length (lapsed_at l.now.0 l.fn.self);
    }

abbrev pub decreases-loop-lease : goal.decreases-loop-lease
decreases-loop-lease g l = length l.all
