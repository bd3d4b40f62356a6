use Rattle.std.proofs.Common.{◌<◌, length, slice_set, ap, ◌∙◌, arith}
use Rattle.std.proofs.lemmas.List.{get_or_default}
use Rattle.std.proofs.lemmas.List.Edits.{map_over_more}
use Rattle.observers.specs.Standing.{marked}
use Rattle.observers.proofs.walks.mark_all.Goals as goal

pub items-preserved : goal.items-preserved
items-preserved c =
    let ys = c.items.item-items in
    let i = c.items.item-index in
    let same = c.items.auto.item-items in
    let inside = c.items-test.true in
    let within : i < length ys = omega (arith, same, inside) in
    ap (λ w. slice_set ys i w) c.mark.ensures
    ∙ map_over_more (marked c.args.slot) c.deref_mut-item-items.result.now ys i _ inside
    c.items.invariant (get_or_default ys i _ _ within)
