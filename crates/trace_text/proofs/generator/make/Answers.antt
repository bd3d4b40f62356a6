use Rattle.std.proofs.Common.{◌∙◌, arith}
use Rattle.trace_text.proofs.GeneratedTexts.{whole_text}
use Rattle.trace_text.proofs.generator.make.Goals as goal

pub returns : goal.returns
returns c =
    whole_text c.args.devices c.args.workers c.devices.i _ c.devices.text c.as_str.result.now
    c.put_line.new.text
    c.devices.invariant (omega arith) (c.as_str.ensures.value ∙ c.in_ok-last.ensures)
    (omega (arith, c.from.ensures)) c.in_ok-put_line.ensures
