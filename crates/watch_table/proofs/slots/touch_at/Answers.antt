use Rattle.std.proofs.Common.{ap, ◌∙◌}
use Rattle.std.specs.Option.{option_copied}
use Rattle.indexmap.specs.IndexMap.{set_value_at}
use Rattle.indexmap.specs.Layout.{length-set_value_at}
use Rattle.watch_table.specs.WatchedQueries.{touched}
use Rattle.watch_table.proofs.SlotLaws.{changed-written, changed-past}
use Rattle.watch_table.proofs.slots.touch_at.Goals as goal

pub returns-in-Some-clause-len : goal.returns-in-Some-clause-len
returns-in-Some-clause-len c =
    length-set_value_at c.args.watches.now.entries c.args.index c.touch.new.self

pub returns-in-Some-clause-touched : goal.returns-in-Some-clause-touched
returns-in-Some-clause-touched c =
    ap (set_value_at c.args.watches.now.entries c.args.index) c.touch.ensures
    ∙ changed-written (touched (option_copied c.args.old) (option_copied c.args.new))
    c.args.watches.now.entries c.args.index c.in-Some.watch.now c.in-Some.ensures.value

pub returns-in_default-clause-touched : goal.returns-in_default-clause-touched
returns-in_default-clause-touched c =
    changed-past (touched (option_copied c.args.old) (option_copied c.args.new))
    c.args.watches.now.entries c.args.index c.in_default.ensures.value
