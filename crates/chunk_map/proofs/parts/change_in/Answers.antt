use Rattle.std.proofs.Common.{◌≡◌, ◌<◌, ◌+◌, ◌++◌, length, take, drop, ap, sym, ◌∙◌, subst}
use Rattle.std.specs.List.{flat_map}
use Rattle.std.proofs.lemmas.List.Elements.{All-drop}
use Rattle.chunk_map.specs.Changes.{IsChanged, IsCounted}
use Rattle.chunk_map.specs.Sorted.{AllGreater, AllLess}
use Rattle.chunk_map.specs.Outcomes.{standing}
use Rattle.chunk_map.proofs.PartLaws.{ascends_at}
use Rattle.chunk_map.proofs.ChangeLaws.{changed_within, counted_within}
use Rattle.chunk_map.proofs.OutcomeLaws.{all_set, stands_at}
use Rattle.chunk_map.proofs.parts.change_in.Goals as goal

pub change-requires-clause-ascends : goal.change-requires-clause-ascends
change-requires-clause-ascends g c =
    let parts = c.args.parts.now.items in
    let bound : c.find-at.result < length parts =
    subst (λ ps. c.find-at.result < length ps) c.as_slice.ensures.value
    c.find-at.ensures.bound in
    ascends_at g.P.Part.pairs g.K.Ord.cmp parts c.find-at.result c.index_mut.result.now bound
    c.index_mut.ensures.value c.requires.ascends

pub settle-requires-clause-behind : goal.settle-requires-clause-behind
settle-requires-clause-behind g c =
    let parts = c.args.parts.now.items in
    let place = c.find-at.result in
    all_set g.P.Part.is_whole parts place c.change.new.self
    (All-drop g.P.Part.is_whole (place + 1) parts c.requires.whole)

pub returns-clause-pairs : goal.returns-clause-pairs
returns-clause-pairs g c =
    let pairs = g.P.Part.pairs in
    let parts = c.args.parts.now.items in
    let place = c.find-at.result in
    let gives = g.C.Change.gives c.args.change in
    let middle = standing pairs c.change.new.self c.in_ok-outcome.outcome in
    let is = c.as_slice.ensures.value in
    let bound : place < length parts = subst (λ ps. place < length ps) is c.find-at.ensures.bound in
    let front : AllGreater g.K.Ord.cmp c.args.key.now (flat_map pairs (take place parts)) =
    subst (λ ps. AllGreater g.K.Ord.cmp c.args.key.now (flat_map pairs (take place ps))) is
    c.find-at.ensures.front in
    let behind : AllLess g.K.Ord.cmp c.args.key.now (flat_map pairs (drop (place + 1) parts)) =
    subst (λ ps. AllLess g.K.Ord.cmp c.args.key.now (flat_map pairs (drop (place + 1) ps))) is
    c.find-at.ensures.behind in
    let within : IsChanged g.K.Ord.cmp gives (pairs c.index_mut.result.now) c.args.key.now middle =
    c.in_ok-outcome.ensures.pairs in
    let all =
    stands_at pairs parts place c.change.new.self c.change.new.self c.in_ok-outcome.outcome
    (flat_map pairs c.settle.new.parts.items) bound
    (c.in_ok-settle.ensures.pairs c.change.new.self) in
    subst (λ es. IsChanged g.K.Ord.cmp gives (flat_map pairs parts) c.args.key.now es) (sym all)
    (changed_within pairs g.K.Ord.cmp parts place c.index_mut.result.now bound
    c.index_mut.ensures.value c.args.key.now front behind gives middle within)

pub returns-clause-counted : goal.returns-clause-counted
returns-clause-counted g c =
    let pairs = g.P.Part.pairs in
    let parts = c.args.parts.now.items in
    let place = c.find-at.result in
    let tally = c.in_ok-outcome.tally in
    let middle = standing pairs c.change.new.self c.in_ok-outcome.outcome in
    let is = c.as_slice.ensures.value in
    let bound : place < length parts = subst (λ ps. place < length ps) is c.find-at.ensures.bound in
    let front : AllGreater g.K.Ord.cmp c.args.key.now (flat_map pairs (take place parts)) =
    subst (λ ps. AllGreater g.K.Ord.cmp c.args.key.now (flat_map pairs (take place ps))) is
    c.find-at.ensures.front in
    let behind : AllLess g.K.Ord.cmp c.args.key.now (flat_map pairs (drop (place + 1) parts)) =
    subst (λ ps. AllLess g.K.Ord.cmp c.args.key.now (flat_map pairs (drop (place + 1) ps))) is
    c.find-at.ensures.behind in
    let within : IsCounted tally (length (pairs c.index_mut.result.now)) (length middle) =
    c.in_ok-outcome.ensures.counted in
    let all =
    stands_at pairs parts place c.change.new.self c.change.new.self c.in_ok-outcome.outcome
    (flat_map pairs c.settle.new.parts.items) bound
    (c.in_ok-settle.ensures.pairs c.change.new.self) in
    subst (λ es. IsCounted tally (length (flat_map pairs parts)) (length es)) (sym all)
    (counted_within pairs g.K.Ord.cmp parts place c.index_mut.result.now bound
    c.index_mut.ensures.value c.args.key.now front behind tally middle within)
