use Rattle.std.proofs.Common.{◌≡◌, ◌||◌, map, drop}
use Rattle.rd_base.specs.PairRefs.{pair_seen}
use Rattle.attribute_index.specs.Entries.{Entry, IsAscending, has_entry, entries_of_all}
use Rattle.directory_core.proofs.index.with_refs.Given as goal

-- what is left to do after so many of the attributes
abbrev pub invariant-pairs : goal.invariant-pairs
invariant-pairs l =
    record {
      entries : (e : Entry)
          → (has_entry l.after e
          || has_entry (entries_of_all (map pair_seen (drop l.pair-index l.pairs)) l.number) e)
          ≡ (has_entry l.fn.index e
          || has_entry (entries_of_all (map pair_seen l.pairs) l.number) e);
      ascends : IsAscending l.after;
    }
