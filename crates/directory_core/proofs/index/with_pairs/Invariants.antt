use Rattle.std.proofs.Common.{◌≡◌, ◌||◌, length}
use Rattle.attribute_index.specs.Entries.{Entry, IsAscending, has_entry, entries_of_all}
use Rattle.directory_core.proofs.index.with_pairs.Given as goal

abbrev pub invariant-pairs : goal.invariant-pairs
invariant-pairs l =
    record {
      entries : (e : Entry)
          → (has_entry l.after e || has_entry (entries_of_all l.left l.number) e)
          ≡ (has_entry l.fn.index e || has_entry (entries_of_all l.fn.pairs l.number) e);
      ascends : IsAscending l.after;
    }

abbrev pub decreases-pairs : goal.decreases-pairs
decreases-pairs l = length l.left
