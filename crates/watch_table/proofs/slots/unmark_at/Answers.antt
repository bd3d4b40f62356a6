use Rattle.std.proofs.Common.{ap, ◌∙◌}
use Rattle.indexmap.specs.IndexMap.{set_value_at}
use Rattle.indexmap.specs.Layout.{length-set_value_at}
use Rattle.watch_table.specs.WatchedQueries.{unmarked}
use Rattle.watch_table.proofs.SlotLaws.{changed-written, changed-past}
use Rattle.watch_table.proofs.slots.unmark_at.Goals as goal

pub returns-in-Some-clause-len : goal.returns-in-Some-clause-len
returns-in-Some-clause-len c =
    length-set_value_at c.args.watches.now.entries c.args.index c.unmark.new.self

pub returns-in-Some-clause-unmarked : goal.returns-in-Some-clause-unmarked
returns-in-Some-clause-unmarked c =
    ap (set_value_at c.args.watches.now.entries c.args.index) c.unmark.ensures
    ∙ changed-written unmarked c.args.watches.now.entries c.args.index c.in-Some.watch.now
    c.in-Some.ensures.value

pub returns-in_default-clause-unmarked : goal.returns-in_default-clause-unmarked
returns-in_default-clause-unmarked c =
    changed-past unmarked c.args.watches.now.entries c.args.index c.in_default.ensures.value
