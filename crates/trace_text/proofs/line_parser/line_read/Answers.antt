-- What was read answers by the grammar of a line.
use Rattle.trace_text.proofs.ReadLines.{answered, answers_line}
use Rattle.trace_text.proofs.line_parser.line_read.Goals as goal

pub returns-clause-answered : goal.returns-clause-answered
returns-clause-answered c = answered c.args.line.now c.read.result c.read.ensures

pub returns-clause-line : goal.returns-clause-line
returns-clause-line c = answers_line c.args.line.now c.read.result c.read.ensures
