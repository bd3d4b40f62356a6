use Rattle.std.proofs.Common.{[], ◌∙◌}
use Rattle.std.proofs.lemmas.Result.{IfOk-weaker}
use Rattle.trace_replay.proofs.MadeTexts.{made_is, none_bad}
use Rattle.trace_replay.proofs.made.made_text.Goals as goal

pub returns-in-Ok : goal.returns-in-Ok
returns-in-Ok c =
    let trace = c.as_slice.result.now in
    let counted = c.in-Ok.ensures c.args.workers [] 0 c.in_ok-count.ensures in
    IfOk-weaker c.text.result _ _ (λ text summary.
    made_is c.args.devices c.args.workers trace text c.requires.workers c.requires.devices
    (c.as_slice.ensures.value ∙ c.in_ok-trace.ensures)
    (summary c.args.workers _ _ counted.1)) c.text.ensures

pub unreachable-requires : goal.unreachable-requires
unreachable-requires c =
    let counted =
    rw c.in-Err-Bad.field-0-is at
    (c.in-Err-Bad.ensures c.args.workers [] 0 c.in_ok-count.ensures) in
    counted (none_bad c.args.devices c.args.workers c.as_slice.result.now c.requires.workers
    c.requires.devices (c.as_slice.ensures.value ∙ c.in_ok-trace.ensures))
