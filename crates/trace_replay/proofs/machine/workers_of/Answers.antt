use Rattle.std.proofs.Common.{◌+◌, ap, ◌∙◌, sym, subst, length, [], IfSome, slice_get, arith}
use Rattle.std.proofs.lemmas.List.{length_push}
use Rattle.trace_replay.specs.Machines.{IsWorkerAt}
use Rattle.trace_replay.proofs.EachWorker.{each_push}
use Rattle.trace_replay.proofs.machine.workers_of.Goals as goal

pub numbers-init : goal.numbers-init
numbers-init c =
    let none = c.in_ok-workers.ensures.items in (
      ap length none,
      λ number. subst (λ ws. IfSome (slice_get ws number) (IsWorkerAt [] number)) (sym none) tt,
    )

pub numbers-preserved : goal.numbers-preserved
numbers-preserved c =
    let more = c.in_ok-push.ensures.items in
    let count = c.numbers.invariant.0 in (
      ap length more ∙ (length_push c.numbers.workers.items c.of.result ∙ ap (λ n. n + 1) count),
      λ number. subst (λ ws. IfSome (slice_get ws number) (IsWorkerAt [] number)) (sym more)
          (each_push (IsWorkerAt []) c.numbers.workers.items c.of.result c.numbers.invariant.1
          (subst (λ n. IsWorkerAt [] n c.of.result) (sym count) c.of.ensures) number),
    )

pub returns-clause-number : goal.returns-clause-number
returns-clause-number c =
    omega (arith, c.numbers.invariant.0, c.numbers.auto.worker-end, c.numbers-test.false)

pub returns-clause-each : goal.returns-clause-each
returns-clause-each c = c.numbers.invariant.1
