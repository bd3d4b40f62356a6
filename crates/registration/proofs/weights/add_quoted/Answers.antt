use Rattle.std.proofs.Common.{ℕ, List, length, ap, arith}
use Rattle.registration.proofs.WeightLaws.{quoted_size, marks_size}
use Rattle.registration.proofs.weights.add_quoted.Goals as goal

pub returns : goal.returns
returns c =
    let size = quoted_size c.args.text.now in
    let marked = marks_size c.args.text.now in
    let counted = rw c.as_bytes-octets.ensures.value at c.marks.ensures in
    let whole = ap (λ (t : List ℕ). length t) c.as_bytes-octets.ensures.value in
    omega (arith, size, marked, counted, whole)
