use Rattle.std.proofs.Common.{rules, ◌≡◌, false, true, sym, ap, ◌∙◌, subst}
use Rattle.std.specs.Map.{keys_of}
use Rattle.lease_queue.specs.Leases.{IsAscending, has_lapsed, lapsed_at}
use Rattle.lease_queue.proofs.QueueLaws.{
  none_holds,
  lapsed_empty,
  lapsed_end,
  lapsed_first,
  ascends_rest,
}
use Rattle.lease_queue.proofs.lapses.LapsedIter.step.Goals as goal

pub returns-in_err-lease-clause-end : goal.returns-in_err-lease-clause-end
returns-in_err-lease-clause-end g c =
    let now = c.self.inside.now.0 in
    none_holds c.from_residual.result (
      sym c.self.view_is
          ∙ ap (λ left. lapsed_at now (keys_of left)) c.in_err-lease.ensures.end.0
          ∙ lapsed_empty now,
      ap (λ left. lapsed_at now (keys_of left)) c.in_err-lease.ensures.end.1 ∙ lapsed_empty now,
    )

pub invariant_of-self-then-not-has_lapsed : goal.invariant_of-self-then-not-has_lapsed
invariant_of-self-then-not-has_lapsed g c =
    ascends_rest c.in_ok-lease.lease.now (keys_of c.step.new.self)
    (subst (λ left. IsAscending (keys_of left)) c.in_ok-lease.ensures.next c.self.invariant)

pub returns-then-not-has_lapsed-clause-end : goal.returns-then-not-has_lapsed-clause-end
returns-then-not-has_lapsed-clause-end g c =
    let now = c.self.inside.now.0 in
    let not_yet : has_lapsed now c.in_ok-lease.lease.now ≡ false = search rules in
    let up =
    subst (λ left. IsAscending (keys_of left)) c.in_ok-lease.ensures.next c.self.invariant in
    let end = lapsed_end now c.in_ok-lease.lease.now (keys_of c.step.new.self) up not_yet in (
      sym c.self.view_is
          ∙ ap (λ left. lapsed_at now (keys_of left)) c.in_ok-lease.ensures.next
          ∙ end.0,
      end.1,
    )

pub invariant_of-self-2 : goal.invariant_of-self-2
invariant_of-self-2 g c =
    ascends_rest c.in_ok-lease.lease.now (keys_of c.step.new.self)
    (subst (λ left. IsAscending (keys_of left)) c.in_ok-lease.ensures.next c.self.invariant)

pub returns-clause-next : goal.returns-clause-next
returns-clause-next g c =
    let now = c.self.inside.now.0 in
    let yet : has_lapsed now c.in_ok-lease.lease.now ≡ true = search rules in
    sym c.self.view_is
    ∙ ap (λ left. lapsed_at now (keys_of left)) c.in_ok-lease.ensures.next
    ∙ lapsed_first now c.in_ok-lease.lease.now (keys_of c.step.new.self) yet
