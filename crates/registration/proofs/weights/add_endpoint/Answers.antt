use Rattle.std.proofs.Common.{arith}
use Rattle.registration.proofs.WeightLaws.{endpoint_size, typed_size}
use Rattle.registration.proofs.weights.add_endpoint.Goals as goal

pub returns : goal.returns
returns c now =
    let size = endpoint_size c.args.number now c.args.draft.now in
    let base = rw c.as_str.ensures at c.add_attribute-sum.ensures in
    let ep = rw c.as_str-2.ensures at c.add_attribute-sum-2.ensures in
    let extras = rw c.as_slice.ensures at c.add_extras.ensures in
    omega (arith, size, base, ep, typed_size, extras)
