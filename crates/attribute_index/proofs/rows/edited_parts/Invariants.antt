use Rattle.std.proofs.Common.{◌≡◌, length}
use denote.Text.{Utf8}
use denote.Shadow.{shadow}
use Rattle.chunk_map.specs.Sorted.{IsAscending}
use Rattle.record_model.specs.Matching.{parts_of}
use Rattle.attribute_index.specs.Entries.{Entry, has_entry}
use Rattle.attribute_index.specs.Rows.{entries_of_rows, entries_under_name, is_after, row_cmp}
use Rattle.attribute_index.proofs.rows.edited_parts.Given as goal

abbrev pub invariant-parts : goal.invariant-parts
invariant-parts l =
    record {
      text : shadow (Utf8 l.rest);
      entries : (e : Entry)
          → is_after l.edit (has_entry (entries_of_rows l.after) e)
          (has_entry (entries_under_name l.name (parts_of l.rest) l.number) e)
          ≡ is_after l.edit (has_entry (entries_of_rows l.fn.rows) e)
          (has_entry (entries_under_name l.name (parts_of l.value) l.number) e);
      ascends : IsAscending row_cmp l.after;
    }

abbrev pub decreases-parts : goal.decreases-parts
decreases-parts l = length l.rest
