use Rattle.std.proofs.Common.{◌≡◌, ◌&&◌, not, length}
use Rattle.attribute_index.specs.Entries.{Entry, IsAscending, has_entry, entries_of_all}
use Rattle.directory_core.proofs.index.without_pairs.Given as goal

abbrev pub invariant-pairs : goal.invariant-pairs
invariant-pairs l =
    record {
      entries : (e : Entry)
          → (has_entry l.after e && not (has_entry (entries_of_all l.left l.number) e))
          ≡ (has_entry l.fn.index e && not (has_entry (entries_of_all l.fn.pairs l.number) e));
      ascends : IsAscending l.after;
    }

abbrev pub decreases-pairs : goal.decreases-pairs
decreases-pairs l = length l.left
