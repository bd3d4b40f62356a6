use Rattle.std.proofs.Common.{ℕ, List, ◌++◌, vec_items, ap, ◌∙◌}
use Rattle.trace_replay.proofs.MadeCounts.{summary_is}
use Rattle.trace_replay.proofs.made.Count.text.Goals as goal

pub returns : goal.returns
returns c = λ workers rows lines at.
    summary_is workers rows lines c.args.self.now at c.of-text.result c.as_bytes.result.now
    c.as_slice.result.now c.append-2.new.self
    (c.of-text.ensures ∙ (ap vec_items c.into_bytes.ensures.value ∙ c.in_ok-made.ensures.ok))
    (c.as_bytes.ensures.value ∙ c.in_ok-sent.ensures.ok)
    (c.as_slice.ensures.value ∙ c.in_ok-end.ensures workers rows at.machine)
    (c.in_ok-append-2.ensures.ok
    ∙ ap (λ (l : List ℕ). l ++ c.as_slice.result.now) c.in_ok-append.ensures.ok)
