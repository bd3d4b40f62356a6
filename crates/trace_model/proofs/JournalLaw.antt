-- The steps of a trace may be made one after the other, so what they make is a journal of the
-- machine.
use Rattle.std.proofs.Common.{
  ◌≡◌,
  ℕ,
  ◌+◌,
  Bool,
  true,
  false,
  nat_lt,
  List,
  [],
  ◌∷◌,
  Option,
  Some,
  None,
  Result,
  Ok,
  Err,
  refl,
}
use Rattle.line_model.specs.declared.lines.Line.{Line}
use Rattle.line_model.specs.declared.lines.Line.TheVariants as line
use Rattle.line_model.specs.declared.lines.Reason.{Reason}
use Rattle.line_model.specs.Lines.{line_of}
use Rattle.line_model.specs.Texts.{lines_of}
use Rattle.journal_model.specs.declared.steps.Step.{Step}
use Rattle.journal_model.specs.declared.rows.Row.{Row}
use Rattle.journal_model.specs.Rows.{row}
use Rattle.journal_model.specs.Machine.{
  Job,
  job_of,
  hears,
  goes,
  ticks,
  begins,
  unstarved,
  MayMake,
  MayRun,
  IsJournal,
}
use Rattle.journal_model.proofs.RowEquations.{run-IsJournal}
use Rattle.trace_model.specs.Steps.{
  come_step,
  go_step,
  step_of_worker,
  worker_of,
  if_worker,
  step_of_line,
  trace_line,
  trace_from,
  steps,
  journal,
}

-- what a line gives: a step that might be made, or none
data MayGive (rows : List Row) : Result (Option Step) Reason → Type 0 where
  bad : {why : Reason} → MayGive rows (Err why)
  no_step : MayGive rows (Ok None)
  gives : {s : Step} → MayMake rows s → MayGive rows (Ok (Some s))

-- the step of a line of a worker
step_of_worker-MayGive : (rows : List Row) (l : Line) → MayGive rows (step_of_worker rows l)
step_of_worker-MayGive rows (line.Come worker moment peer datagram word) =
    by (job_of worker rows) refl
  where
    by : (job : Option Job)
        → job_of worker rows ≡ job
        → MayGive rows (come_step job rows worker moment.0 peer datagram word)
    by (Some job) e = bad
    by None e = gives (record { begin = hears e refl; drawn = refl })
step_of_worker-MayGive rows (line.Go worker moment) = by (job_of worker rows) refl
  where
    by : (job : Option Job)
        → job_of worker rows ≡ job
        → MayGive rows (go_step job rows worker moment.0)
    by (Some job) e = gives (record { begin = goes e; drawn = refl })
    by None e = no_step
step_of_worker-MayGive rows (line.Tick worker moment word) =
    gives (record { begin = ticks refl; drawn = refl })
step_of_worker-MayGive rows (line.Begin worker moment first) =
    gives (record { begin = begins refl; drawn = refl })

-- the step of a line
step_of_line-MayGive : (workers : ℕ) (rows : List Row) (said : Result Line Reason)
    → MayGive rows (step_of_line workers rows said)
step_of_line-MayGive workers rows (Err why) = bad
step_of_line-MayGive workers rows (Ok l) = by (nat_lt (worker_of l) workers)
  where
    by : (b : Bool) → MayGive rows (if_worker b rows l)
    by true = step_of_worker-MayGive rows l
    by false = bad

-- the steps of lines may be made after the journal that stands before them
pub trace_from-MayRun : (workers number : ℕ) (rows : List Row) (texts : List (List ℕ))
    → MayRun (unstarved (trace_from workers number rows texts).steps) rows
unfolding trace_from
trace_from-MayRun workers number rows [] = tt
trace_from-MayRun workers number rows (text ∷ texts) =
    by (step_of_line workers rows (line_of text)) (step_of_line-MayGive workers rows (line_of text))
    (λ more. trace_from-MayRun workers (number + 1) more texts)
  where
    by : (said : Result (Option Step) Reason)
        → MayGive rows said
        → ((more : List Row)
        → MayRun (unstarved (trace_from workers (number + 1) more texts).steps) more)
        → MayRun
        (unstarved (trace_line number rows (λ more. trace_from workers (number + 1) more texts)
        said).steps) rows
    by (Err why) bad later = tt
    by (Ok None) no_step later = later rows
    by (Ok (Some s)) (gives may) later = (may, later (row rows s false ∷ rows))

-- the steps of a trace may be made one after the other
pub steps-MayRun : (workers : ℕ) (bytes : List ℕ) → MayRun (unstarved (steps workers bytes)) []
steps-MayRun workers bytes = trace_from-MayRun workers 1 [] (lines_of bytes)

-- so what a trace makes is a journal of the machine
pub journal-IsJournal : (workers : ℕ) (bytes : List ℕ) → IsJournal (journal workers bytes)
journal-IsJournal workers bytes =
    run-IsJournal (unstarved (steps workers bytes)) (steps-MayRun workers bytes)
