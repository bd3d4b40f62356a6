use Rattle.std.proofs.Common.{◌≡◌, List, ℕ}
use Rattle.std.specs.Io.KnownBytes.{Consumes}
use Rattle.trace_replay.specs.Sessions.{Point, IsAt, Goes}
use Rattle.trace_replay.proofs.replays.read_all.Given as goal

-- no call failed, and what was taken from the source led to where the session is
abbrev pub invariant-pieces : goal.invariant-pieces
invariant-pieces g l =
    (g.S.Source.faults l.source ≡ g.S.Source.faults l.fn.source)
    × (g.K.Sink.faults l.out ≡ g.K.Sink.faults l.fn.out)
    × ((workers : ℕ) (point : Point)
    → IsAt workers point l.fn.session
    → (taken : List ℕ) × Consumes (g.S.Source.left l.fn.source) (g.S.Source.left l.source) taken
    × Goes workers point taken l.session (g.K.Sink.holds l.fn.out) (g.K.Sink.holds l.out))

-- each piece lowers the turns of the source
abbrev pub decreases-pieces : goal.decreases-pieces
decreases-pieces g l = g.S.Source.turns l.source
