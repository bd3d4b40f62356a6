use Rattle.std.proofs.Common.{◌≡◌}
use Rattle.line_model.specs.Generator.{text_of, lines_up_to}
use Rattle.trace_text.proofs.generator.make.Given as goal

abbrev pub invariant-devices : goal.invariant-devices
invariant-devices l = l.text ≡ text_of (lines_up_to l.workers l.i)
