-- What is written of a trace is the text of the journal that its steps make, and the last line
-- where no line is bad.
use Rattle.std.proofs.Common.{◌≡◌, ℕ, List, ◌++◌, Option, Some, None, refl, ap}
use Rattle.line_model.specs.declared.lines.LineBad.{LineBad}
use Rattle.journal_model.specs.Machine.{run, unstarved}
use Rattle.trace_model.specs.Steps.{steps, first_bad, journal}
use Rattle.trace_model.specs.Output.{text, last_line, written, output}

-- where no line is bad
pub output-whole : (workers : ℕ) (bytes : List ℕ) → first_bad workers bytes ≡ None
    → (output workers bytes).text
    ≡ text (run (unstarved (steps workers bytes)))
    ++ last_line (run (unstarved (steps workers bytes)))
unfolding output
output-whole workers bytes none =
    ap (λ (bad : Option LineBad). (written (journal workers bytes) bad).text) none

-- where one is
pub output-bad : (workers : ℕ) (bytes : List ℕ) (bad : LineBad) → first_bad workers bytes ≡ Some bad
    → (output workers bytes).text ≡ text (run (unstarved (steps workers bytes)))
unfolding output
output-bad workers bytes bad one =
    ap (λ (found : Option LineBad). (written (journal workers bytes) found).text) one

-- and it is said which
pub output-says : (workers : ℕ) (bytes : List ℕ)
    → (output workers bytes).bad ≡ first_bad workers bytes
unfolding output
output-says workers bytes = by (first_bad workers bytes)
  where
    by : (bad : Option LineBad) → (written (journal workers bytes) bad).bad ≡ bad
    by None = refl
    by (Some bad) = refl
