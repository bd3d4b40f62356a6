use Rattle.std.proofs.Common.{nat_eq, ◌∙◌}
use Rattle.indexmap.proofs.CallerLemmas.{insert_entry-new}
use Rattle.watch_table.proofs.slots.begin.Goals as goal

pub returns-clause-begun : goal.returns-clause-begun
returns-clause-begun c =
    c.in-Ok.ensures.entries
    ∙ insert_entry-new nat_eq c.args.watches.now c.free_slot-slot.result c.args.watch
    c.free_slot-slot.ensures.0
