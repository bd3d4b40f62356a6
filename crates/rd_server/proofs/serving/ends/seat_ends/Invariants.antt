use Rattle.std.proofs.Common.{◌≡◌, ◌≤◌, ◌<◌, ℕ, drop, slice_get, slice_index_or}
use Rattle.rd_server.specs.declared.serving.ends.End.{End}
use Rattle.rd_server.specs.serving.Servers.{seated}
use Rattle.rd_server.proofs.serving.ends.seat_ends.Given as goal

-- the first ends have their seats, and the others are as they were
abbrev pub invariant-ends : goal.invariant-ends
invariant-ends g l = (l.seats ≡ drop l.end-index l.fn.seats)
    × ((i : ℕ) (d : End g.row.L.Denot g.row.C.Denot) → i < l.end-index
    → slice_index_or l.end-items i d
    ≡ seated (slice_index_or l.fn.ends i d) (slice_get l.fn.seats i))
    × ((i : ℕ) (d : End g.row.L.Denot g.row.C.Denot) → l.end-index ≤ i
    → slice_index_or l.end-items i d ≡ slice_index_or l.fn.ends i d)
