use Rattle.std.proofs.Common.{sym, ap, subst, ◌∙◌}
use Rattle.std.specs.Arc.{arc_value}
use Rattle.watch_table.specs.WatchedQueries.{with_body}
use Rattle.watch_table.specs.ObserverCounts.{WatchesStandFor}
use Rattle.watch_table.proofs.TouchedLaws.{with_body-StandsFor}
use Rattle.watch_table.proofs.table.WatchTable.set_body.Goals as goal

pub returns-clause-stands : goal.returns-clause-stands
returns-clause-stands c standing h =
    subst (WatchesStandFor standing) (sym (c.set_body.ensures.set
    ∙ ap (with_body c.args.slot (arc_value c.args.body)) c.self.view_is))
    (with_body-StandsFor c.args.slot (arc_value c.args.body) standing c.args.self.now h)
