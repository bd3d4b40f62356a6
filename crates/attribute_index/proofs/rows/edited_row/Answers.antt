use Rattle.std.proofs.Common.{◌≡◌, List}
use Rattle.std.specs.Prelude.{Result, Ok, Err, IfOk}
use Rattle.rd_base.specs.declared.out_of_memory.Starved.{Starved}
use Rattle.chunk_map.specs.Changes.{IsChanged}
use Rattle.attribute_index.specs.declared.rows.Row.{Row}
use Rattle.attribute_index.specs.Entries.{Entry, has_entry, is_same}
use Rattle.attribute_index.specs.Rows.{after_edit, entries_of_rows, entry_of, is_after, row_cmp}
use Rattle.attribute_index.proofs.RowLaws.{has_edited}
use Rattle.attribute_index.proofs.rows.edited_row.Goals as goal

pub returns-clause-entries : goal.returns-clause-entries
returns-clause-entries c = by c.changed.result c.changed.ensures.pairs
  where
    by : (r : Result (List (Row × Unit {0})) Starved)
        → IfOk r (IsChanged row_cmp (λ _ new. new ≡ after_edit c.args.edit) c.args.rows
        c.args.row.now)
        → IfOk r (λ after. (e : Entry) → has_entry (entries_of_rows after) e
        ≡ is_after c.args.edit (has_entry (entries_of_rows c.args.rows) e)
        (is_same e (entry_of c.args.row.now)))
    by (Ok after) h = has_edited c.args.edit c.args.rows after c.args.row.now c.requires h
    by (Err e) h = tt
