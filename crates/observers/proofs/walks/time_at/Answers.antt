use Rattle.std.proofs.Common.{slice_set, sym, ap, ◌∙◌}
use Rattle.std.specs.Arc.{arc_value}
use Rattle.observers.specs.Standing.{notified, seen, timed, due_of}
use Rattle.observers.proofs.WalkLaws.{changed-set, got-at}
use Rattle.observers.proofs.walks.time_at.Goals as goal

pub returns-clause-kept : goal.returns-clause-kept
returns-clause-kept c =
    ap (slice_set c.args.observers.now.items c.args.index) c.time.ensures.kept
    ∙ changed-set (timed c.args.now.0) c.args.observers.now.items c.args.index
    c.index_mut.result.now c.requires c.index_mut.ensures.value

pub returns-clause-due : goal.returns-clause-due
returns-clause-due c w there =
    c.time.ensures.due
    ∙ ap (λ x. due_of c.args.now.0 x.flight)
    (sym (got-at c.args.observers.now.items c.args.index c.index_mut.result.now w
    c.index_mut.ensures.value there))
