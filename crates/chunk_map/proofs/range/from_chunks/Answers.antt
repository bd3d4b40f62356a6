use Rattle.std.proofs.Common.{◌≡◌, ◌++◌, true, false, ap, sym, ◌∙◌}
use Rattle.std.specs.List.{flat_map}
use Rattle.chunk_map.specs.Groups.{chunk_pairs}
use Rattle.chunk_map.specs.Sorted.{begins_by}
use Rattle.chunk_map.proofs.SortedLaws.{ascends_back, ascends_front}
use Rattle.chunk_map.proofs.SeekLaws.{seek_behind, seek_front}
use Rattle.chunk_map.proofs.range.from_chunks.Goals as goal

pub in_chunks-requires-clause-ascends : goal.in_chunks-requires-clause-ascends
in_chunks-requires-clause-ascends g c =
    let front = c.args.pairs.now in
    let behind = flat_map chunk_pairs c.args.chunks.now in
    ascends_back g.K.Ord.cmp front behind c.requires.ascends

pub returns-then-begin_by-clause-pairs : goal.returns-then-begin_by-clause-pairs
returns-then-begin_by-clause-pairs g c =
    let front = c.args.pairs.now in
    let behind = flat_map chunk_pairs c.args.chunks.now in
    let begins : begins_by g.K.Ord.cmp behind c.args.from.now ≡ true =
    sym c.begin_by.ensures ∙ c.if-begin_by.true in
    c.in_chunks.ensures.pairs
    ∙ sym (seek_behind g.met.K.Ord.total c.args.from.now front behind c.requires.ascends begins)

pub pairs_from-requires : goal.pairs_from-requires
pairs_from-requires g c =
    let front = c.args.pairs.now in
    let behind = flat_map chunk_pairs c.args.chunks.now in
    record { ascends = ascends_front g.K.Ord.cmp front behind c.requires.ascends }

pub returns-clause-pairs : goal.returns-clause-pairs
returns-clause-pairs g c =
    let front = c.args.pairs.now in
    let behind = flat_map chunk_pairs c.args.chunks.now in
    let begins : begins_by g.K.Ord.cmp behind c.args.from.now ≡ false =
    sym c.begin_by.ensures ∙ c.if-begin_by.false in
    ap (λ es. es ++ behind) c.pairs_from.ensures
    ∙ sym (seek_front g.met.K.Ord.total c.args.from.now front behind c.requires.ascends begins)
