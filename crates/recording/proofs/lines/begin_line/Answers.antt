-- The line is one that a trace may have.
use Rattle.std.proofs.Common.{arith}
use Rattle.line_model.specs.Lines.{begin}
use Rattle.recording.proofs.lines.begin_line.Goals as goal

pub returns : goal.returns
returns c = begin (omega arith) (omega arith) (omega arith)
