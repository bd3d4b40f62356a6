use Rattle.std.proofs.Common.{rules, ◌≡◌, ◌+◌, ◌∷◌, ◌++◌, length, true, sym, ap, ◌∙◌, subst, arith}
use Rattle.std.specs.Map.{keys_of}
use Rattle.lease_queue.specs.Leases.{IsAscending, has_lapsed, lapsed_at, unlapsed_at, without_lease}
use Rattle.lease_queue.proofs.QueueLaws.{
  numbers_end,
  nothing_left,
  none_left,
  numbers_on,
  without_first,
  lapsed_first,
  unlapsed_first,
  ascends_rest,
}
use Rattle.lease_queue.proofs.queue.LeaseQueue.sweep.Goals as goal
use Rattle.lease_queue.proofs.queue.LeaseQueue.sweep.Goals.{in-Some+then-not-has_lapsed, in_default}

pub loop-lease-preserved : goal.loop-lease-preserved
loop-lease-preserved g c =
    let now = c.args.now.0 in
    let x = c.in-Some.lease.now in
    let xs = keys_of c.step.new.self in
    let all : keys_of c.loop-lease.all ≡ x ∷ xs = ap keys_of c.in-Some.ensures.next in
    let up = subst IsAscending all c.loop-lease.invariant.ascends in
    let yet : has_lapsed now x ≡ true = search rules in
    let lapsed : lapsed_at now (keys_of c.loop-lease.all) ≡ x.number ∷ lapsed_at now xs =
    ap (lapsed_at now) all ∙ lapsed_first now x xs yet in
    let count : length (lapsed_at now (keys_of c.loop-lease.all)) ≡ length (lapsed_at now xs) + 1 =
    ap length lapsed ∙ omega arith in
    record {
      queue =
          c.in_ok-queue-2.ensures.queue
          ∙ ap (λ queue. without_lease queue x) (c.loop-lease.invariant.queue ∙ all)
          ∙ without_first x xs up;
      ascends = ascends_rest x xs up;
      numbers =
          ap (λ items. items ++ lapsed_at now xs) c.in_ok-push.ensures.items
          ∙ numbers_on c.loop-lease.numbers.items x.number (lapsed_at now xs)
          ∙ ap (λ more. c.loop-lease.numbers.items ++ more) (sym lapsed)
          ∙ c.loop-lease.invariant.numbers;
      unlapsed =
          sym (ap (unlapsed_at now) all ∙ unlapsed_first now x xs yet)
          ∙ c.loop-lease.invariant.unlapsed;
      counted = omega (arith, count, c.step.ensures.counted, c.loop-lease.invariant.counted);
    }

pub returns-clause-queue : goal.returns-clause-queue
returns-clause-queue g c =
    let now = c.args.now.0 in
    let left = c.loop-lease.invariant in
    elim c.match-step.branch [
      | in-Some+then-not-has_lapsed w ↦
          let all = ap keys_of w.in-Some.ensures.next in
          let end =
          nothing_left now w.in-Some.lease.now (keys_of c.step.new.self)
          (keys_of c.loop-lease.all) all left.ascends
          (sym w.has_lapsed.ensures ∙ w.if-not-has_lapsed.true) in
          left.queue ∙ sym end.1 ∙ left.unlapsed
      | in_default w ↦
          let end =
          none_left now (keys_of c.loop-lease.all) (ap keys_of w.in_default.ensures.end.0) in
          left.queue ∙ sym end.1 ∙ left.unlapsed
    ]

pub returns-clause-numbers : goal.returns-clause-numbers
returns-clause-numbers g c =
    let now = c.args.now.0 in
    let left = c.loop-lease.invariant in
    elim c.match-step.branch [
      | in-Some+then-not-has_lapsed w ↦
          let all = ap keys_of w.in-Some.ensures.next in
          let end =
          nothing_left now w.in-Some.lease.now (keys_of c.step.new.self)
          (keys_of c.loop-lease.all) all left.ascends
          (sym w.has_lapsed.ensures ∙ w.if-not-has_lapsed.true) in
          numbers_end c.loop-lease.numbers.items (lapsed_at now (keys_of c.loop-lease.all)) end.0
          ∙ left.numbers
      | in_default w ↦
          let end =
          none_left now (keys_of c.loop-lease.all) (ap keys_of w.in_default.ensures.end.0) in
          numbers_end c.loop-lease.numbers.items (lapsed_at now (keys_of c.loop-lease.all)) end.0
          ∙ left.numbers
    ]
