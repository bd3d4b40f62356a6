use Rattle.std.proofs.Common.{◌≡◌, ◌&&◌, not, length}
use Rattle.attribute_index.specs.Entries.{Entry, IsAscending, has_entry, entries_of_all}
use Rattle.directory_core.specs.IndexedPairs.{item_pairs}
use Rattle.directory_core.proofs.index.without_links.Given as goal

abbrev pub invariant-links : goal.invariant-links
invariant-links l =
    record {
      entries : (e : Entry)
          → (has_entry l.after e
          && not (has_entry (entries_of_all (item_pairs l.left) l.number) e))
          ≡ (has_entry l.fn.index e
          && not (has_entry (entries_of_all (item_pairs l.fn.links) l.number) e));
      ascends : IsAscending l.after;
    }

abbrev pub decreases-links : goal.decreases-links
decreases-links l = length l.left
