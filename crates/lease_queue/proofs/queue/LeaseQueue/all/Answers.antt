use Rattle.std.proofs.Common.{sym, ap, ◌∙◌, subst}
use Rattle.std.specs.Map.{keys_of}
use Rattle.lease_queue.specs.Leases.{IsAscending}
use Rattle.lease_queue.proofs.queue.LeaseQueue.all.Goals as goal

pub returns-clause-leases : goal.returns-clause-leases
returns-clause-leases c = ap keys_of c.all.ensures.pairs ∙ c.self.view_is

pub returns-clause-ascends : goal.returns-clause-ascends
returns-clause-ascends c =
    subst IsAscending (sym (ap keys_of c.all.ensures.pairs)) c.self.invariant
