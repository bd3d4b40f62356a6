-- What an example unfolds, so that a whole trace computes.
use Rattle.std.specs.Prelude.{⊤}
use Rattle.line_model.proofs.OnLiterals.{trace_on_literals}
use Rattle.journal_model.proofs.OnLiterals.{machine_on_literals}
use Rattle.trace_model.specs.Steps.{trace_from}
use Rattle.trace_model.specs.Output.{text, last_line, output}
use Rattle.trace_model.specs.Made.{made_output}

-- the definitions of traces and of the machine
unfoldable pub output_on_literals : ⊤
unfolding trace_on_literals machine_on_literals trace_from text last_line output made_output
output_on_literals = tt
