use Rattle.std.proofs.Common.{◌≡◌, ◌≤◌, vec_len}
use Rattle.std.specs.Vec.{vec_capacity}
use Rattle.rd_host.proofs.posts_over.Given as goal

-- so many contexts were made, and there is room for all
abbrev pub invariant-contexts : goal.invariant-contexts
invariant-contexts l = (vec_len l.contexts ≡ l.k) × (l.number ≤ vec_capacity l.contexts)
