use Rattle.std.proofs.Common.{sym, ap, subst}
use Rattle.std.specs.Map.{keys_of}
use Rattle.lease_queue.specs.Leases.{IsAscending}
use Rattle.lease_queue.proofs.QueueLaws.{ascends_empty}
use Rattle.lease_queue.proofs.queue.LeaseQueue.empty.Goals as goal

pub invariant_of-result : goal.invariant_of-result
invariant_of-result c = subst IsAscending (sym (ap keys_of c.in_ok-empty.ensures)) ascends_empty
