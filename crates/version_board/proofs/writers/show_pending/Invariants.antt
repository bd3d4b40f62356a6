use Rattle.std.proofs.Common.{◌≡◌, drop}
use Rattle.left_right.specs.Sides.{view}
use Rattle.version_board.proofs.writers.show_pending.Given as goal

abbrev pub invariant-tries : goal.invariant-tries
invariant-tries g l =
    (goal.iterator-tries g).can_next l.iterator' × (goal.iterator-tries g).is_finite l.iterator'
    × (view l.writer.desk.place ≡ view l.fn.writer.desk.place)
    × (l.writer.desk.shown.value ≡ l.fn.writer.desk.shown.value)
    × (drop l.writer.behind l.writer.log.items ≡ drop l.fn.writer.behind l.fn.writer.log.items)
