use Rattle.std.proofs.Common.{◌≡◌, ◌+◌, ◌++◌, take, drop, slice_index_or, ap, sym, ◌∙◌, subst}
use Rattle.std.specs.List.{flat_map}
use Rattle.std.proofs.lemmas.Result.{on_ok_weaker}
use Rattle.chunk_map.specs.declared.part.Outcome.TheVariants.{Split}
use Rattle.chunk_map.specs.Outcomes.{StandWhole, standing}
use Rattle.chunk_map.proofs.PartLaws.{cut_or}
use Rattle.chunk_map.proofs.OutcomeLaws.{all_around, all_inserted, all_removed}
use Rattle.chunk_map.proofs.parts.settle.Goals as goal

pub join_around-requires : goal.join_around-requires
join_around-requires g c =
    let parts = c.args.parts.now.items in
    record {
      whole =
          all_around g.P.Part.is_whole parts c.args.at c.requires.bound c.requires.front
          (λ d.
          subst (λ o. StandWhole g.P.Part.is_whole (slice_index_or parts c.args.at d) o)
          c.in-Kept.is (c.requires.part d)) c.requires.behind;
    }

pub join_halves-requires-clause-whole : goal.join_halves-requires-clause-whole
join_halves-requires-clause-whole g c =
    let parts = c.args.parts.now.items in
    let stand : (d : g.row.P.Denot)
    → StandWhole g.P.Part.is_whole (slice_index_or parts c.args.at d)
    (Split c.in-Split.behind) =
    λ d.
    subst (λ o. StandWhole g.P.Part.is_whole (slice_index_or parts c.args.at d) o)
    c.in-Split.is (c.requires.part d) in
    let all =
    all_around g.P.Part.is_whole parts c.args.at c.requires.bound c.requires.front
    (λ d. (stand d).0) c.requires.behind in
    rw c.in_ok-insert-in-Split.ensures.items
    (all_inserted g.P.Part.is_whole parts (c.args.at + 1) c.in-Split.behind
    (stand c.in-Split.behind).1 all)

pub returns-in-Gone-clause-whole : goal.returns-in-Gone-clause-whole
returns-in-Gone-clause-whole g c =
    rw c.remove.ensures.items
    (all_removed g.P.Part.is_whole c.args.parts.now.items c.args.at c.requires.front
    c.requires.behind)

pub returns-in-Kept-clause-pairs : goal.returns-in-Kept-clause-pairs
returns-in-Kept-clause-pairs g c =
    let pairs = g.P.Part.pairs in
    let parts = c.args.parts.now.items in
    let at = c.args.at in
    on_ok_weaker c.join_around.result
    (λ same d. same
    ∙ cut_or pairs parts at d c.requires.bound
    ∙ ap (λ o.
    flat_map pairs (take at parts)
    ++ (standing pairs (slice_index_or parts at d) o
    ++ flat_map pairs (drop (at + 1) parts))) (sym c.in-Kept.is))
    c.join_around.ensures.pairs
