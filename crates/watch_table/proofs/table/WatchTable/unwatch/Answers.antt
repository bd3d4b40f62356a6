use Rattle.std.proofs.Common.{sym, subst, ◌++◌, ap, ◌∙◌}
use Rattle.watch_table.specs.WatchedQueries.{one_fewer}
use Rattle.watch_table.specs.ObserverCounts.{WatchesStandFor}
use Rattle.watch_table.proofs.ObserverLaws.{fewer-StandsFor}
use Rattle.watch_table.proofs.table.WatchTable.unwatch.Goals as goal

pub returns-clause-stands : goal.returns-clause-stands
returns-clause-stands c front back o is h =
    subst (WatchesStandFor (front ++ back))
    (sym (c.leave.ensures.left ∙ ap (one_fewer c.args.slot) c.self.view_is))
    (fewer-StandsFor front back o c.args.slot c.args.self.now is h)
