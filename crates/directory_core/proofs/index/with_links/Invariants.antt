use Rattle.std.proofs.Common.{◌≡◌, ◌||◌, length}
use Rattle.attribute_index.specs.Entries.{Entry, IsAscending, has_entry, entries_of_all}
use Rattle.directory_core.specs.IndexedPairs.{item_pairs}
use Rattle.directory_core.proofs.index.with_links.Given as goal

abbrev pub invariant-links : goal.invariant-links
invariant-links l =
    record {
      entries : (e : Entry)
          → (has_entry l.after e || has_entry (entries_of_all (item_pairs l.left) l.number) e)
          ≡ (has_entry l.fn.index e
          || has_entry (entries_of_all (item_pairs l.fn.links) l.number) e);
      ascends : IsAscending l.after;
    }

abbrev pub decreases-links : goal.decreases-links
decreases-links l = length l.left
