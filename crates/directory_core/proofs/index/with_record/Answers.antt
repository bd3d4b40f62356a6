use Rattle.std.proofs.Common.{◌||◌, ap, map, ◌∙◌}
use Rattle.rd_base.specs.PairRefs.{pair_seen}
use Rattle.attribute_index.specs.Entries.{has_entry, entries_of_all}
use Rattle.record_model.specs.ListingLines.{own_pairs}
use Rattle.directory_core.specs.Bounds.{record_entries}
use Rattle.directory_core.specs.IndexedPairs.{item_pairs}
use Rattle.directory_core.proofs.IndexLaws.{entries_split, with_parts}
use Rattle.directory_core.proofs.index.with_record.Goals as goal

pub returns-clause-entries : goal.returns-clause-entries
returns-clause-entries c e =
    let r = c.args.record_of.now in
    let own = has_entry (entries_of_all (own_pairs r) r.number) e in
    let attrs = has_entry (entries_of_all r.attrs r.number) e in
    let links = has_entry (entries_of_all (item_pairs r.items) r.number) e in
    with_parts (has_entry c.args.index e) (has_entry c.in_ok-index.index e)
    (has_entry c.in_ok-index-2.index e) (has_entry c.in_ok-index-3.index e) own attrs links
    (has_entry (record_entries r) e)
    (c.in_ok-index.ensures.entries e
    ∙ ap (λ ps. has_entry c.args.index e || (has_entry (entries_of_all ps r.number) e))
    (ap (λ ps. map pair_seen ps) c.as_slice.ensures.value ∙ c.in_ok-own.ensures))
    (c.in_ok-index-2.ensures.entries e
    ∙ ap (λ ps. has_entry c.in_ok-index.index e || (has_entry (entries_of_all ps r.number) e))
    c.as_slice-2.ensures)
    (c.in_ok-index-3.ensures.entries e
    ∙ ap (λ is. has_entry c.in_ok-index-2.index e
    || (has_entry (entries_of_all (item_pairs is) r.number) e)) c.links.ensures)
    (entries_split r e)
