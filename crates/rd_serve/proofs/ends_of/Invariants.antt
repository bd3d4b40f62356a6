use Rattle.std.proofs.Common.{◌≡◌, ◌≤◌, vec_len}
use Rattle.std.specs.Vec.{vec_capacity}
use Rattle.rd_serve.proofs.ends_of.Given as goal

-- so many ends were made, and there is room for all
abbrev pub invariant-loop : goal.invariant-loop
invariant-loop l = (vec_len l.ends ≡ l.counter) × (l.fn.plan.workers ≤ vec_capacity l.ends)
