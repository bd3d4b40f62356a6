use Rattle.std.proofs.Common.{List, ℕ, length, ap, arith}
use Rattle.trace_text.proofs.GeneratedRequests.{kind_short}
use Rattle.trace_text.proofs.generator.begin_observation.Goals as goal

pub put-requires-4-clause-value : goal.put-requires-4-clause-value
put-requires-4-clause-value c =
    let same = ap (λ (text : List ℕ). length text) c.requires.kind in
    omega (arith, same, kind_short c.args.i)
