use Rattle.std.proofs.Common.{◌≡◌, [], drop}
use Rattle.version_board.proofs.writers.append.Given as goal

abbrev pub invariant-tries : goal.invariant-tries
invariant-tries g l =
    (goal.iterator-tries g).can_next l.iterator' × (goal.iterator-tries g).is_finite l.iterator'
    × (l.writer.desk ≡ l.fn.writer.desk)
    × (drop l.writer.behind l.writer.log.items ≡ [])
    × (l.next ≡ l.fn.next)
