use Rattle.std.proofs.Common.{sym, subst}
use Rattle.std.specs.Map.{keys_of}
use Rattle.lease_queue.specs.declared.leases.Lease.{Lease}
use Rattle.lease_queue.specs.Leases.{IsAscending}
use Rattle.lease_queue.proofs.QueueLaws.{ascends_with}
use Rattle.lease_queue.proofs.queue.LeaseQueue.with.Goals as goal

pub invariant_of-result : goal.invariant_of-result
invariant_of-result c =
    let lease : Lease = record { lapse = c.args.lapse; number = c.args.number } in
    subst IsAscending (sym c.in_ok-leases.ensures)
    (ascends_with (keys_of c.self.inside.leases) lease c.self.invariant)

pub returns-clause-ascends : goal.returns-clause-ascends
returns-clause-ascends c =
    let lease : Lease = record { lapse = c.args.lapse; number = c.args.number } in
    subst IsAscending (sym c.in_ok-leases.ensures)
    (ascends_with (keys_of c.self.inside.leases) lease c.self.invariant)
