use Rattle.std.proofs.Common.{Contains, ap, sym, ◌∙◌, subst}
use Rattle.std.specs.Map.{keys_of}
use Rattle.lease_queue.specs.declared.leases.Lease.{Lease}
use Rattle.lease_queue.specs.Leases.{IsAscending, with_lease}
use Rattle.lease_queue.proofs.QueueLaws.{
  keys_with,
  ascends_with,
  with_same,
  with_there,
  with_others,
  with_kept,
}
use Rattle.lease_queue.proofs.queue.LeaseQueue.put.Goals as goal

pub invariant_of-result : goal.invariant_of-result
invariant_of-result c =
    let lease : Lease = record { lapse = c.args.lapse; number = c.args.number } in
    subst IsAscending (sym (ap keys_of c.in_ok-put.ensures.pairs
    ∙ keys_with tt c.self.inside.leases lease c.self.invariant))
    (ascends_with (keys_of c.self.inside.leases) lease c.self.invariant)

pub returns-clause-queue : goal.returns-clause-queue
returns-clause-queue c =
    let lease : Lease = record { lapse = c.args.lapse; number = c.args.number } in
    ap keys_of c.in_ok-put.ensures.pairs
    ∙ keys_with tt c.self.inside.leases lease c.self.invariant
    ∙ ap (λ queue. with_lease queue lease) c.self.view_is

pub returns-clause-ascends : goal.returns-clause-ascends
returns-clause-ascends c =
    let lease : Lease = record { lapse = c.args.lapse; number = c.args.number } in
    subst IsAscending (sym (ap keys_of c.in_ok-put.ensures.pairs
    ∙ keys_with tt c.self.inside.leases lease c.self.invariant))
    (ascends_with (keys_of c.self.inside.leases) lease c.self.invariant)

pub returns-clause-same : goal.returns-clause-same
returns-clause-same c h =
    let lease : Lease = record { lapse = c.args.lapse; number = c.args.number } in
    let up = subst IsAscending c.self.view_is c.self.invariant in
    ap keys_of c.in_ok-put.ensures.pairs
    ∙ keys_with tt c.self.inside.leases lease c.self.invariant
    ∙ ap (λ queue. with_lease queue lease) c.self.view_is
    ∙ with_same c.args.self.now lease up h

pub returns-clause-there : goal.returns-clause-there
returns-clause-there c =
    let lease : Lease = record { lapse = c.args.lapse; number = c.args.number } in
    let is =
    ap keys_of c.in_ok-put.ensures.pairs
    ∙ keys_with tt c.self.inside.leases lease c.self.invariant in
    subst (λ queue. Contains queue lease) (sym is) (with_there (keys_of c.self.inside.leases) lease)

pub returns-clause-others : goal.returns-clause-others
returns-clause-others c other differs =
    let lease : Lease = record { lapse = c.args.lapse; number = c.args.number } in
    let is =
    ap keys_of c.in_ok-put.ensures.pairs
    ∙ keys_with tt c.self.inside.leases lease c.self.invariant
    ∙ ap (λ queue. with_lease queue lease) c.self.view_is in (
      λ h. with_others c.args.self.now lease other differs
          (subst (λ queue. Contains queue other) is h),
      λ h.
          subst (λ queue. Contains queue other) (sym is)
          (with_kept c.args.self.now lease other differs h),
    )
