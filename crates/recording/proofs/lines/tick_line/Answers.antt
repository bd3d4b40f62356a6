-- The line is one that a trace may have.
use Rattle.std.proofs.Common.{arith}
use Rattle.line_model.specs.Lines.{tick}
use Rattle.recording.proofs.lines.tick_line.Goals as goal

pub returns : goal.returns
returns c = tick (omega arith) (omega arith) (omega arith)
