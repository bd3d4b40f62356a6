use Rattle.std.proofs.Common.{◌≡◌, append_assoc, ap, sym, ◌∙◌}
use Rattle.std.specs.List.{flat_map}
use Rattle.std.specs.BTreeMap.Range.{entries_from}
use Rattle.chunk_map.specs.Groups.{chunk_pairs, group_pairs}
use Rattle.chunk_map.specs.Sorted.{first_value}
use Rattle.chunk_map.proofs.SeekLaws.{lookup_first}
use Rattle.chunk_map.proofs.range.RangeIter.seek.Goals as goal

pub returns-clause-found : goal.returns-clause-found
returns-clause-found g c =
    let inside = c.self.inside in
    let key = c.args.key.now in
    let whole =
    append_assoc inside.pairs.now (flat_map chunk_pairs inside.chunks.now)
    (flat_map group_pairs inside.groups.now)
    ∙ c.self.view_is in
    c.next_value.ensures.found
    ∙ ap (λ es. first_value g.K.Ord.cmp key es)
    (c.from_groups.ensures.pairs ∙ ap (λ es. entries_from (g.K.Ord.cmp key) es) whole)
    ∙ sym (lookup_first g.met.K.Ord.total key c.args.self.now c.requires)
