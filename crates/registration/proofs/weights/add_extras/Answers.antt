use Rattle.std.proofs.Common.{List, length, flat_map, ap, arith}
use Rattle.std.proofs.lemmas.List.{drop_all}
use Rattle.rd_base.specs.declared.attributes.Pair.{Pair}
use Rattle.record_model.specs.ListingLines.{extra_attribute}
use Rattle.registration.proofs.weights.add_extras.Goals as goal

pub returns : goal.returns
returns c =
    let rest =
    ap (λ (ps : List Pair). length (flat_map extra_attribute ps))
    (drop_all c.pairs.pair-index c.args.pairs.now c.pairs-test.false) in
    let same = c.pairs.invariant.same in
    let fits = c.pairs.invariant.fits in
    omega (arith, rest, same, fits)
