-- The line is one that a trace may have.
use Rattle.std.proofs.Common.{arith}
use Rattle.line_model.specs.Lines.{go}
use Rattle.recording.proofs.lines.go_line.Goals as goal

pub returns : goal.returns
returns c = go (omega arith) (omega arith)
