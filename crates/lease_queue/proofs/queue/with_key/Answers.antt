use Rattle.std.proofs.Common.{◌≡◌, Option, Some, List, ap, ◌∙◌}
use Rattle.std.specs.Map.{keys_of}
use Rattle.std.specs.Prelude.{Result, Ok, Err, IfOk}
use Rattle.rd_base.specs.declared.out_of_memory.Starved.{Starved}
use Rattle.chunk_map.specs.Changes.{with_value, IsChanged}
use Rattle.lease_queue.specs.declared.leases.Lease.{Lease}
use Rattle.lease_queue.specs.Leases.{with_lease}
use Rattle.lease_queue.proofs.OrderLaws.{lease_cmp}
use Rattle.lease_queue.proofs.QueueLaws.{keys_with}
use Rattle.lease_queue.proofs.queue.with_key.Goals as goal

pub returns : goal.returns
returns c = by c.changed.result c.changed.ensures.pairs
  where
    by : (r : Result (List (Lease × Unit {0})) Starved)
        → IfOk r (IsChanged lease_cmp (λ _ new. new ≡ Some tt) c.args.leases c.args.lease)
        → IfOk r (λ map. keys_of map ≡ with_lease (keys_of c.args.leases) c.args.lease)
    by (Ok map) h =
        ap keys_of h.2
        ∙ (ap (λ (o : Option (Unit {0})).
        keys_of (with_value lease_cmp c.args.leases c.args.lease o)) h.1
        ∙ keys_with tt c.args.leases c.args.lease c.requires)
    by (Err e) h = tt
