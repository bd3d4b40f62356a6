-- The journal of lines, one after the other, is the one that the steps of the trace run.
use Rattle.std.proofs.Common.{
  ◌≡◌,
  ℕ,
  ◌+◌,
  false,
  List,
  [],
  ◌∷◌,
  Option,
  Some,
  None,
  Result,
  Ok,
  Err,
  refl,
  ap,
}
use Rattle.std.specs.Prelude.{fold}
use Rattle.line_model.specs.declared.lines.Reason.{Reason}
use Rattle.line_model.specs.Lines.{line_of}
use Rattle.line_model.specs.Texts.{lines_of}
use Rattle.journal_model.specs.declared.rows.Row.{Row}
use Rattle.journal_model.specs.declared.steps.Step.{Step}
use Rattle.journal_model.specs.Rows.{row}
use Rattle.journal_model.specs.Machine.{run, unstarved}
use Rattle.trace_model.specs.Output.{output}
use Rattle.trace_model.specs.Steps.{
  Trace,
  trace_line,
  trace_from,
  step_of_line,
  first_bad,
  journal as journal_of,
}
use Rattle.trace_replay.specs.Journal.{Journal, journal, goes_on, rows_after, whole_output}

-- the journal that goes on with steps after rows, and a bad line
abbrev goes_by : List Row → Trace → Journal
goes_by rows trace = record {
  rows = fold (λ rows next. row rows next.0 next.1 ∷ rows) rows (unstarved trace.steps);
  bad = trace.bad;
}

-- from any line on
runs_from : (workers number : ℕ) (rows : List Row) (texts : List (List ℕ))
    → journal workers rows number texts ≡ goes_by rows (trace_from workers number rows texts)
unfolding trace_from
runs_from workers number rows [] = refl
runs_from workers number rows (text ∷ texts) =
    by (step_of_line workers rows (line_of text))
    (λ more. runs_from workers (number + 1) more texts)
  where
    by : (said : Result (Option Step) Reason)
        → ((more : List Row)
        → journal workers more (number + 1) texts
        ≡ goes_by more (trace_from workers (number + 1) more texts))
        → goes_on (rows_after rows said) rows number
        (λ more. journal workers more (number + 1) texts)
        ≡ goes_by rows
        (trace_line number rows (λ more. trace_from workers (number + 1) more texts) said)
    by (Err why) later = refl
    by (Ok None) later = later rows
    by (Ok (Some s)) later = later (row rows s false ∷ rows)

-- of a whole trace: what is written of its journal is its output
pub output_is : (workers : ℕ) (bytes : List ℕ)
    → whole_output (journal workers [] 1 (lines_of bytes)) ≡ output workers bytes
unfolding output run
output_is workers bytes = ap whole_output (runs_from workers 1 [] (lines_of bytes))

-- its rows are those of the journal of the trace
pub rows_are : (workers : ℕ) (bytes : List ℕ)
    → (journal workers [] 1 (lines_of bytes)).rows ≡ journal_of workers bytes
unfolding run
rows_are workers bytes = ap (λ (j : Journal). j.rows) (runs_from workers 1 [] (lines_of bytes))

-- its bad line is the first of the trace
pub bad_is_first : (workers : ℕ) (bytes : List ℕ)
    → (journal workers [] 1 (lines_of bytes)).bad ≡ first_bad workers bytes
bad_is_first workers bytes = ap (λ (j : Journal). j.bad) (runs_from workers 1 [] (lines_of bytes))
