use Rattle.std.proofs.Common.{◌&&◌, not, ◌≡◌}
use Rattle.std.specs.Prelude.{List}
use Rattle.attribute_index.specs.Entries.{Entry, IsAscending, has_entry}
use Rattle.directory_core.specs.Bounds.{record_entries}
use Rattle.directory_core.proofs.IndexLaws.{ok_same}
use Rattle.directory_core.proofs.index.index_without.Goals as goal

pub returns-clause-entries : goal.returns-clause-entries
returns-clause-entries c =
    ok_same c.of.result c.in_ok-after.after c.of.ensures (λ (after : List Entry). (e : Entry)
    → has_entry after e
    ≡ (has_entry c.args.index.now e && not (has_entry (record_entries c.args.record_of.now) e)))
    c.in_ok-after.ensures.entries

pub returns-clause-ascends : goal.returns-clause-ascends
returns-clause-ascends c =
    ok_same c.of.result c.in_ok-after.after c.of.ensures (λ (after : List Entry). IsAscending after)
    c.in_ok-after.ensures.ascends
