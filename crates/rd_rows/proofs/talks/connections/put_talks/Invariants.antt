use Rattle.std.proofs.Common.{◌≡◌}
use Rattle.rd_rows.proofs.talks.connections.put_talks.Given as goal

-- The seat is still one of the hall.
abbrev pub invariant-connections : goal.invariant-connections
invariant-connections g l = (l.seat.hall ≡ l.hall)
    × (goal.iterator-connections g).can_next l.word-iterator
    × (goal.iterator-connections g).is_finite l.word-iterator
