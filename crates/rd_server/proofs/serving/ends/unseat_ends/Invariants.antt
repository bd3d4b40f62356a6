use Rattle.std.proofs.Common.{◌≡◌, ◌≤◌, ◌<◌, ℕ, None, slice_index_or}
use Rattle.rd_server.specs.declared.serving.ends.End.{End}
use Rattle.rd_server.specs.serving.Servers.{IsUnserved, seated}
use Rattle.rd_server.proofs.serving.ends.unseat_ends.Given as goal

-- the first ends have no seat, and all have their links and clocks
abbrev pub invariant-ends : goal.invariant-ends
invariant-ends g l = ((i : ℕ) (d : End g.row.L.Denot g.row.C.Denot) → i < l.end-index
    → IsUnserved (slice_index_or l.end-items i d))
    × ((i : ℕ) (d : End g.row.L.Denot g.row.C.Denot) → i < l.end-index
    → slice_index_or l.end-items i d ≡ seated (slice_index_or l.fn.ends i d) None)
    × ((i : ℕ) (d : End g.row.L.Denot g.row.C.Denot) → l.end-index ≤ i
    → slice_index_or l.end-items i d ≡ slice_index_or l.fn.ends i d)
