-- The journal of a trace is one of a desk.
use Rattle.std.proofs.Common.{
  ◌≡◌,
  ℕ,
  ◌<◌,
  ◌≤◌,
  ◌+◌,
  max,
  Bool,
  true,
  false,
  cond,
  List,
  [],
  ◌∷◌,
  Option,
  Some,
  None,
  Result,
  Ok,
  Err,
  fold,
  refl,
  sym,
  subst,
  ◌∙◌,
  arith,
}
use Rattle.std.specs.Prelude.{nat_lt}
use Rattle.std.proofs.lemmas.Bool.{false≢true}
use Rattle.line_model.specs.declared.lines.Line.{Line}
use Rattle.line_model.specs.declared.lines.Line.TheVariants as line
use Rattle.line_model.specs.declared.lines.Reason.{Reason}
use Rattle.line_model.specs.Lines.{line_of}
use Rattle.line_model.specs.Texts.{lines_of}
use Rattle.journal_model.specs.declared.steps.Step.{Step}
use Rattle.journal_model.specs.declared.steps.StepKind.TheVariants as step
use Rattle.journal_model.specs.declared.rows.Row.{Row}
use Rattle.journal_model.specs.Journal.{latest}
use Rattle.journal_model.specs.Rows.{row}
use Rattle.journal_model.specs.Machine.{Job, job_of, is_look_datagram, hearing, run, unstarved}
use Rattle.journal_model.specs.DeskJournal.{ends_job, NoLaterLook, IsHanded, IsDeskJournal}
use Rattle.journal_model.proofs.EventRows.{AllRows}
use Rattle.journal_model.proofs.RowEquations.{row-step}
use Rattle.trace_model.specs.Steps.{
  come_step,
  go_step,
  step_of_worker,
  worker_of,
  if_worker,
  step_of_line,
  trace_line,
  trace_from,
  journal,
}
use Rattle.trace_model.proofs.JournalLaw.{journal-IsJournal}
use Rattle.journal_model.proofs.desks.MachineJournals.{journal-IsDeskJournal}

-- each row's step was handed what a desk wants
abbrev AllHanded : List Row → Type 0
AllHanded rows = AllRows (λ before r. IsHanded before r.step) rows

-- what a line gives: no step, or one that is handed what a desk wants
abbrev GivesHanded : List Row → Result (Option Step) Reason → Type 0
GivesHanded rows (Ok (Some s)) = IsHanded rows s
GivesHanded rows _ = Unit {0}

-- the moment of a step is the greatest of that of its line and of those before
step_in_time : (rows : List Row) (moment : ℕ) → NoLaterLook (max moment (latest rows)) rows
step_in_time rows moment = omega arith

-- what is heard ends no job
hearing_ends_none : (datagram : List ℕ) → ends_job (hearing datagram) ≡ false
hearing_ends_none datagram = by (is_look_datagram datagram)
  where
    by : (b : Bool) → ends_job (cond b step.Look step.Admit) ≡ false
    by true = refl
    by false = refl

-- the step of a worker that there is
step_of_worker-handed : (rows : List Row) (l : Line)
    → worker_of l < 16
    → GivesHanded rows (step_of_worker rows l)
step_of_worker-handed rows (line.Come worker moment peer datagram word) within =
    by (job_of worker rows)
  where
    by : (job : Option Job)
        → GivesHanded rows (come_step job rows worker moment.0 peer datagram word)
    by (Some job) = tt
    by None = record {
      in_time = step_in_time rows moment.0;
      worker = within;
      word = λ ending. absurd (false≢true (sym (hearing_ends_none datagram) ∙ ending));
    }
step_of_worker-handed rows (line.Go worker moment) within = by (job_of worker rows)
  where
    by : (job : Option Job) → GivesHanded rows (go_step job rows worker moment.0)
    by (Some job) = record {
      in_time = step_in_time rows moment.0;
      worker = within;
      word = λ ending. refl;
    }
    by None = tt
step_of_worker-handed rows (line.Tick worker moment word) within = record {
  in_time = step_in_time rows moment.0;
  worker = within;
  word = λ ending. absurd (false≢true ending);
}
step_of_worker-handed rows (line.Begin worker moment first) within = record {
  in_time = step_in_time rows moment.0;
  worker = within;
  word = λ ending. absurd (false≢true ending);
}

-- the step of a line
step_of_line-handed : (workers : ℕ) (rows : List Row) (said : Result Line Reason)
    → workers ≤ 16
    → GivesHanded rows (step_of_line workers rows said)
step_of_line-handed workers rows (Err why) few = tt
step_of_line-handed workers rows (Ok l) few = by (nat_lt (worker_of l) workers) refl
  where
    by : (b : Bool) → nat_lt (worker_of l) workers ≡ b → GivesHanded rows (if_worker b rows l)
    by true e = step_of_worker-handed rows l (grind (arith, e, few))
    by false e = tt

-- rows with those of more steps
abbrev run_from : List Row → List (Step × Bool) → List Row
run_from rows made = fold (λ rows next. row rows next.0 next.1 ∷ rows) rows made

-- the steps of lines, after a journal whose rows were handed what a desk wants
trace_from-handed : (workers number : ℕ) (rows : List Row) (texts : List (List ℕ))
    → workers ≤ 16
    → AllHanded rows
    → AllHanded (run_from rows (unstarved (trace_from workers number rows texts).steps))
unfolding trace_from
trace_from-handed workers number rows [] few all = all
trace_from-handed workers number rows (text ∷ texts) few all =
    by (step_of_line workers rows (line_of text))
    (step_of_line-handed workers rows (line_of text) few)
    (λ more h. trace_from-handed workers (number + 1) more texts few h)
  where
    by : (said : Result (Option Step) Reason) → GivesHanded rows said
        → ((more : List Row)
        → AllHanded more
        → AllHanded
        (run_from more (unstarved (trace_from workers (number + 1) more texts).steps)))
        → AllHanded (run_from rows (unstarved
        (trace_line number rows (λ more. trace_from workers (number + 1) more texts)
        said).steps))
    by (Err why) it later = all
    by (Ok None) it later = later rows all
    by (Ok (Some s)) it later =
        later (row rows s false ∷ rows)
        (subst (IsHanded rows) (sym (row-step rows s false)) it, all)

journal-handed : (workers : ℕ) (bytes : List ℕ) → workers ≤ 16 → AllHanded (journal workers bytes)
unfolding run
journal-handed workers bytes few = trace_from-handed workers 1 [] (lines_of bytes) few tt

-- the journal of a trace of at most 16 workers is one of a desk
-- An end theorem: nothing here cites it.
pub trace-IsDeskJournal : (workers : ℕ) (bytes : List ℕ)
    → workers ≤ 16
    → IsDeskJournal (journal workers bytes)
trace-IsDeskJournal workers bytes few =
    journal-IsDeskJournal (journal workers bytes) (journal-IsJournal workers bytes)
    (journal-handed workers bytes few)
