use Rattle.std.proofs.Common.{arith}
use Rattle.registration.proofs.WeightLaws.{weight_parts}
use Rattle.registration.proofs.weights.weight.Goals as goal

pub returns : goal.returns
returns c now =
    let parts = weight_parts c.args.number now c.args.draft.now in
    let own = c.add_endpoint.ensures now in
    let links = c.add_links.ensures in
    omega (arith, parts, own, links)
