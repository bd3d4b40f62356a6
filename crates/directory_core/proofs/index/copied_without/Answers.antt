use Rattle.std.proofs.Common.{◌&&◌, not, ap, ◌∙◌}
use Rattle.attribute_index.specs.Entries.{has_entry}
use Rattle.directory_core.specs.Bounds.{record_entries}
use Rattle.directory_core.proofs.index.copied_without.Goals as goal

pub returns-clause-entries : goal.returns-clause-entries
returns-clause-entries c e =
    c.in_ok-after.ensures.entries e
    ∙ ap (λ index. has_entry index e && not (has_entry (record_entries c.args.record_of.now) e))
    (c.in_ok-shared.ensures.same ∙ c.as_index.ensures)
