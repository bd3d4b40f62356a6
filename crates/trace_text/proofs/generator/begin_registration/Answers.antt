use Rattle.std.proofs.Common.{List, ℕ, length, ap, arith}
use Rattle.trace_text.proofs.GeneratedRequests.{name_short, lifetime_short}
use Rattle.trace_text.proofs.generator.begin_registration.Goals as goal

pub put-requires-2-clause-value : goal.put-requires-2-clause-value
put-requires-2-clause-value c =
    let same = ap (λ (text : List ℕ). length text) c.requires.name in
    omega (arith, same, name_short c.args.i (omega arith))

pub put-requires-3-clause-value : goal.put-requires-3-clause-value
put-requires-3-clause-value c =
    let same = ap (λ (text : List ℕ). length text) c.requires.lifetime in
    omega (arith, same, lifetime_short c.args.i)
