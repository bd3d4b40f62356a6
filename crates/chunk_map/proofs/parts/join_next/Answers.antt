use Rattle.std.proofs.Common.{rules, ◌≡◌, ◌+◌, ◌<◌, ◌++◌, length, slice_index_or, ap, ◌∙◌}
use Rattle.chunk_map.proofs.OutcomeLaws.{joined_next}
use Rattle.chunk_map.proofs.parts.join_next.Goals as goal

pub returns-in-Some-clause-pairs : goal.returns-in-Some-clause-pairs
returns-in-Some-clause-pairs g c =
    let pairs = g.P.Part.pairs in
    let parts = c.args.parts.now.items in
    let at = c.args.at in
    let this = c.index.result.now in
    let next = c.index-2.result.now in
    let bound : at + 1 < length parts = search rules in
    let both : pairs c.in-Some.joined ≡ pairs this ++ pairs next =
    rw c.in-Some.is at c.in_ok-joined.ensures.pairs in
    let is =
    both
    ∙ ap (λ p. pairs p ++ pairs next) c.index.ensures
    ∙ ap (λ p. pairs (slice_index_or parts at this) ++ pairs p) c.index-2.ensures in
    rw c.remove.ensures.items (joined_next pairs parts at this next c.in-Some.joined bound is)
