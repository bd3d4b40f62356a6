use Rattle.std.proofs.Common.{slice_set, sym, ap, ◌∙◌}
use Rattle.std.specs.Arc.{arc_value}
use Rattle.observers.specs.Standing.{notified, seen, timed, due_of}
use Rattle.observers.proofs.WalkLaws.{changed-set, got-at}
use Rattle.observers.proofs.walks.see_at.Goals as goal

pub returns-clause-seen : goal.returns-clause-seen
returns-clause-seen c =
    ap (slice_set c.args.observers.now.items c.args.index) c.see.ensures
    ∙ changed-set seen c.args.observers.now.items c.args.index c.index_mut.result.now c.requires
    c.index_mut.ensures.value
