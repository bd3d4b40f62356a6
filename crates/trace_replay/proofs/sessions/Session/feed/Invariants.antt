use Rattle.std.proofs.Common.{◌≡◌, List, ℕ, ◌++◌, length}
use Rattle.trace_replay.specs.Sessions.{Point, IsAt, Goes}
use Rattle.trace_replay.proofs.sessions.Session.feed.Given as goal

-- no call failed, and what was fed so far led to where the session is
abbrev pub invariant-lines : goal.invariant-lines
invariant-lines g l =
    (g.K.Sink.faults l.out ≡ g.K.Sink.faults l.fn.out)
    × ((workers : ℕ) (point : Point)
    → IsAt workers point l.fn.self
    → (fed : List ℕ)
    × (l.piece ≡ fed ++ l.rest)
    × Goes workers point fed l.self (g.K.Sink.holds l.fn.out) (g.K.Sink.holds l.out))

abbrev pub decreases-lines : goal.decreases-lines
decreases-lines g l = length l.rest
