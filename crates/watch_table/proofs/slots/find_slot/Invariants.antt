use Rattle.std.proofs.Common.{◌≡◌, drop}
use Rattle.watch_table.specs.WatchedQueries.{slot_of}
use Rattle.watch_table.proofs.slots.find_slot.Given as goal

abbrev pub invariant-watches : goal.invariant-watches
invariant-watches l =
    slot_of l.query (drop l.index l.watches.entries) ≡ slot_of l.query l.watches.entries
