use Rattle.std.proofs.Common.{ℕ, List, length, ap, arith}
use Rattle.registration.proofs.WeightLaws.{links_size}
use Rattle.registration.proofs.weights.add_links.Goals as goal

pub returns : goal.returns
returns c =
    let size =
    links_size c.args.items.now c.is_empty.result c.is_empty.ensures c.if-is_empty.false in
    let said = ap (λ (t : List ℕ). length t) c.listed.ensures in
    omega (arith, size, said)
