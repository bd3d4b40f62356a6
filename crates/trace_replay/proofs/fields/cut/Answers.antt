use Rattle.std.proofs.Common.{ap, ◌∙◌, ◌+◌, Some, take, ℕ, List, arith}
use Rattle.std.proofs.lemmas.List.{length-drop, take_all}
use Rattle.trace_replay.proofs.Cuts.{cut_none, cut_some}
use Rattle.trace_replay.proofs.fields.cut.Goals as goal

pub returns-in-None-clause-value : goal.returns-in-None-clause-value
returns-in-None-clause-value c = cut_none c.args.separator c.args.text.now c.in-None.ensures.value

pub returns-in-Some-clause-value : goal.returns-in-Some-clause-value
returns-in-Some-clause-value c =
    ap (λ (l : List ℕ). Some (take c.in-Some.at c.args.text.now, l))
    (take_all _ _ (omega (arith, length-drop (c.in-Some.at + 1) c.args.text.now)))
    ∙ cut_some c.args.separator c.in-Some.at c.args.text.now c.in-Some.ensures.value
