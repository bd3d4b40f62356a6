use Rattle.std.proofs.Common.{Contains, ap, sym, ◌∙◌, subst}
use Rattle.std.specs.Map.{keys_of}
use Rattle.lease_queue.specs.declared.leases.Lease.{Lease}
use Rattle.lease_queue.specs.Leases.{IsAscending, without_lease}
use Rattle.lease_queue.proofs.QueueLaws.{
  keys_without,
  ascends_without,
  without_same,
  without_gone,
  without_others,
  without_kept,
}
use Rattle.lease_queue.proofs.queue.LeaseQueue.take.Goals as goal

pub invariant_of-result : goal.invariant_of-result
invariant_of-result c =
    let lease : Lease = record { lapse = c.args.lapse; number = c.args.number } in
    subst IsAscending (sym (ap keys_of c.in_ok-take.ensures.pairs
    ∙ keys_without c.self.inside.leases lease c.self.invariant))
    (ascends_without (keys_of c.self.inside.leases) lease c.self.invariant)

pub returns-clause-queue : goal.returns-clause-queue
returns-clause-queue c =
    let lease : Lease = record { lapse = c.args.lapse; number = c.args.number } in
    ap keys_of c.in_ok-take.ensures.pairs
    ∙ keys_without c.self.inside.leases lease c.self.invariant
    ∙ ap (λ queue. without_lease queue lease) c.self.view_is

pub returns-clause-ascends : goal.returns-clause-ascends
returns-clause-ascends c =
    let lease : Lease = record { lapse = c.args.lapse; number = c.args.number } in
    subst IsAscending (sym (ap keys_of c.in_ok-take.ensures.pairs
    ∙ keys_without c.self.inside.leases lease c.self.invariant))
    (ascends_without (keys_of c.self.inside.leases) lease c.self.invariant)

pub returns-clause-same : goal.returns-clause-same
returns-clause-same c h =
    let lease : Lease = record { lapse = c.args.lapse; number = c.args.number } in
    ap keys_of c.in_ok-take.ensures.pairs
    ∙ keys_without c.self.inside.leases lease c.self.invariant
    ∙ ap (λ queue. without_lease queue lease) c.self.view_is
    ∙ without_same c.args.self.now lease h

pub returns-clause-gone : goal.returns-clause-gone
returns-clause-gone c =
    let lease : Lease = record { lapse = c.args.lapse; number = c.args.number } in
    let is =
    ap keys_of c.in_ok-take.ensures.pairs
    ∙ keys_without c.self.inside.leases lease c.self.invariant in
    λ h.
    without_gone (keys_of c.self.inside.leases) lease
    (subst (λ queue. Contains queue lease) is h)

pub returns-clause-others : goal.returns-clause-others
returns-clause-others c other differs =
    let lease : Lease = record { lapse = c.args.lapse; number = c.args.number } in
    let is =
    ap keys_of c.in_ok-take.ensures.pairs
    ∙ keys_without c.self.inside.leases lease c.self.invariant
    ∙ ap (λ queue. without_lease queue lease) c.self.view_is in (
      λ h. without_others c.args.self.now lease other (subst (λ queue. Contains queue other) is h),
      λ h.
          subst (λ queue. Contains queue other) (sym is)
          (without_kept c.args.self.now lease other differs h),
    )
