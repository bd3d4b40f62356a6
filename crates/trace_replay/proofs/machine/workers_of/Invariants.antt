use Rattle.std.proofs.Common.{◌≡◌, ℕ, [], length, IfSome, slice_get}
use Rattle.trace_replay.specs.Machines.{IsWorkerAt}
use Rattle.trace_replay.proofs.machine.workers_of.Given as goal

-- each of those that are made heard nothing
abbrev pub invariant-numbers : goal.invariant-numbers
invariant-numbers l =
    (length l.workers.items ≡ l.worker)
    × ((number : ℕ) → IfSome (slice_get l.workers.items number) (IsWorkerAt [] number))
