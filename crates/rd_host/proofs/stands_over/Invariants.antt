use Rattle.std.proofs.Common.{◌≡◌, ◌≤◌, vec_len}
use Rattle.std.specs.Vec.{vec_capacity}
use Rattle.rd_host.proofs.stands_over.Given as goal

-- So many stands were made, and there is room for all.
abbrev pub invariant-lanes : goal.invariant-lanes
invariant-lanes l = (vec_len l.stands ≡ l.lane)
    × (l.plan.connections ≤ vec_capacity l.stands)
