use Rattle.std.proofs.Common.{sym, ◌∙◌}
use Rattle.watch_table.proofs.EntryLaws.{slot_of-used}
use Rattle.watch_table.proofs.slots.watch_given.Goals as goal

pub join-requires-clause-watched : goal.join-requires-clause-watched
join-requires-clause-watched c =
    slot_of-used c.args.query.now c.in-Some.slot c.args.watches.now.entries
    (sym c.find_slot.ensures ∙ c.in-Some.is)
