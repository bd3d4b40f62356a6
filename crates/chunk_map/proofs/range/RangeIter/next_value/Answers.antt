use Rattle.std.proofs.Common.{rules, ◌≡◌, [], ◌++◌, length, ap, sym, ◌∙◌}
use Rattle.std.proofs.lemmas.List.{nil_from_length}
use Rattle.std.specs.List.{flat_map}
use Rattle.chunk_map.specs.Groups.{chunk_pairs, group_pairs}
use Rattle.chunk_map.specs.Sorted.{first_value}
use Rattle.chunk_map.proofs.SeekLaws.{first_front}
use Rattle.chunk_map.proofs.range.RangeIter.next_value.Goals as goal

pub returns-clause-found : goal.returns-clause-found
returns-clause-found g c =
    let inside = c.self.inside in
    let next = c.in_ok-pairs in
    let old = flat_map chunk_pairs inside.chunks.now ++ flat_map group_pairs inside.groups.now in
    let new = flat_map chunk_pairs next.chunks.now ++ flat_map group_pairs next.groups.now in
    let short : length inside.pairs.now ≡ 0 = search rules in
    let none : inside.pairs.now ≡ [] = nil_from_length _ short in
    let whole : next.pairs.now ++ new ≡ c.args.self.now =
    next.ensures.pairs ∙ ap (λ es. es ++ old) (sym none) ∙ c.self.view_is in
    c.value_at-2.ensures
    ∙ sym (first_front g.K.Ord.cmp c.args.key.now next.pairs.now new next.ensures.any)
    ∙ ap (λ es. first_value g.K.Ord.cmp c.args.key.now es) whole
