use Rattle.std.proofs.Common.{List, ℕ, length, ap, ◌∙◌, arith}
use Rattle.trace_text.proofs.GeneratedRequests.{links_short}
use Rattle.trace_text.proofs.generator.registration_line.Goals as goal

pub come_line-requires-clause-payload : goal.come_line-requires-clause-payload
come_line-requires-clause-payload c =
    let same =
    ap (λ (text : List ℕ). length text) (c.as_bytes-3.ensures.value ∙ c.in_ok-links.ensures) in
    omega (arith, same, links_short c.args.i)
