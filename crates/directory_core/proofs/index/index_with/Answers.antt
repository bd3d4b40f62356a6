use Rattle.std.proofs.Common.{◌||◌, ap, ◌∙◌, ◌≡◌}
use Rattle.std.specs.Prelude.{List}
use Rattle.attribute_index.specs.Entries.{Entry, IsAscending, has_entry}
use Rattle.directory_core.specs.Bounds.{record_entries}
use Rattle.directory_core.proofs.IndexLaws.{ok_same}
use Rattle.directory_core.proofs.index.index_with.Goals as goal

pub returns-clause-entries : goal.returns-clause-entries
returns-clause-entries c =
    ok_same c.of.result c.in_ok-after.after c.of.ensures (λ (after : List Entry). (e : Entry)
    → has_entry after e
    ≡ (has_entry c.args.index.now e || has_entry (record_entries c.args.record_of.now) e))
    (λ e. c.in_ok-after.ensures.entries e
    ∙ ap (λ index. has_entry index e || has_entry (record_entries c.args.record_of.now) e)
    (c.in_ok-shared.ensures.same ∙ c.as_index.ensures))

pub returns-clause-ascends : goal.returns-clause-ascends
returns-clause-ascends c =
    ok_same c.of.result c.in_ok-after.after c.of.ensures (λ (after : List Entry). IsAscending after)
    c.in_ok-after.ensures.ascends
