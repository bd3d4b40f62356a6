use Rattle.std.proofs.Common.{◌≡◌, ◌≤◌, ◌-◌, take, length}
use Rattle.std.specs.Io.KnownBytes.{Appends}
use Rattle.rd_base.proofs.outside.write_all.Given as goal

-- the first octets were written, and no call failed
abbrev pub invariant-pieces : goal.invariant-pieces
invariant-pieces g l =
    (l.at ≤ length l.octets)
    × Appends (g.K.Sink.holds l.fn.out) (g.K.Sink.holds l.out) (take l.at l.octets)
    × (g.K.Sink.faults l.out ≡ g.K.Sink.faults l.fn.out)

abbrev pub decreases-pieces : goal.decreases-pieces
decreases-pieces g l = length l.octets - l.at
