-- The steps of a trace: what each line makes a worker do, up to the first bad line, and the journal
-- of these steps.
use Rattle.std.specs.Prelude.{
  ℕ,
  ◌+◌,
  Bool,
  true,
  false,
  max,
  nat_lt,
  List,
  [],
  ◌∷◌,
  Option,
  Some,
  None,
  Result,
  Ok,
  Err,
}
use Rattle.rd_base.specs.declared.peers.Host.TheVariants as host
use Rattle.rd_base.specs.declared.peers.Peer.{Peer}
use Rattle.line_model.specs.declared.lines.Line.{Line}
use Rattle.line_model.specs.declared.lines.Line.TheVariants as line
use Rattle.line_model.specs.declared.lines.LineBad.{LineBad}
use Rattle.line_model.specs.declared.lines.Reason.{Reason}
use Rattle.line_model.specs.declared.lines.Reason.TheVariants as reason
use Rattle.line_model.specs.Lines.{line_of}
use Rattle.line_model.specs.Texts.{lines_of}
use Rattle.journal_model.specs.declared.steps.Step.{Step}
use Rattle.journal_model.specs.declared.steps.StepKind.{StepKind}
use Rattle.journal_model.specs.declared.steps.StepKind.TheVariants as step
use Rattle.journal_model.specs.declared.rows.Row.{Row}
use Rattle.journal_model.specs.Journal.{latest}
use Rattle.journal_model.specs.Rows.{row}
use Rattle.journal_model.specs.Machine.{Job, hearing, job_of, mids_drawn, run, unstarved}

-- The peer of a tick and of a beginning, which have none.
abbrev pub nobody : Peer
nobody = record { host = host.V4 (0 ∷ 0 ∷ 0 ∷ 0 ∷ []); port = 0 }

-- Returns a step of a worker after a journal. The moment passed in is the greatest of that of its
-- line and of those passed in before.
abbrev pub step_after : List Row → StepKind → ℕ → ℕ → ℕ → Peer → List ℕ → Step
step_after rows kind worker moment word peer datagram = record {
  kind = kind;
  worker = worker;
  handed = record { 0 = max moment (latest rows) };
  word = word;
  peer = peer;
  datagram = datagram;
  drawn = mids_drawn worker rows;
}

-- Returns the step of a worker that receives a datagram. A worker that holds a job can receive
-- none.
abbrev pub come_step : Option Job
    → List Row
    → ℕ
    → ℕ
    → Peer
    → List ℕ
    → ℕ
    → Result (Option Step) Reason
come_step (Some job) rows worker moment peer datagram word = Err reason.Busy
come_step None rows worker moment peer datagram word =
    Ok (Some (step_after rows (hearing datagram) worker moment word peer datagram))

-- Returns the step of a worker that does the job that it holds. If it holds none, it makes no step.
abbrev pub go_step : Option Job → List Row → ℕ → ℕ → Result (Option Step) Reason
go_step (Some job) rows worker moment =
    Ok (Some (step_after rows job.kind worker moment 0 job.peer job.datagram))
go_step None rows worker moment = Ok None

-- Returns the step of a line whose worker exists.
abbrev pub step_of_worker : List Row → Line → Result (Option Step) Reason
step_of_worker rows (line.Come worker moment peer datagram word) =
    come_step (job_of worker rows) rows worker moment.0 peer datagram word
step_of_worker rows (line.Go worker moment) = go_step (job_of worker rows) rows worker moment.0
step_of_worker rows (line.Tick worker moment word) =
    Ok (Some (step_after rows step.Tick worker moment.0 word nobody []))
step_of_worker rows (line.Begin worker moment first) =
    Ok (Some (step_after rows (step.Begin first) worker moment.0 0 nobody []))

-- Returns the worker of a line.
abbrev pub worker_of : Line → ℕ
worker_of (line.Come worker moment peer datagram word) = worker
worker_of (line.Go worker moment) = worker
worker_of (line.Tick worker moment word) = worker
worker_of (line.Begin worker moment first) = worker

-- Returns the step of a line, if its worker exists.
abbrev pub if_worker : Bool → List Row → Line → Result (Option Step) Reason
if_worker true rows l = step_of_worker rows l
if_worker false rows l = Err reason.Worker

-- Returns the step of what was read of a line, or why the line is bad.
abbrev pub step_of_line : ℕ → List Row → Result Line Reason → Result (Option Step) Reason
step_of_line workers rows (Err why) = Err why
step_of_line workers rows (Ok l) = if_worker (nat_lt (worker_of l) workers) rows l

-- What lines contain: the steps that they make, up to the first bad line, and that line.
pub record Trace : Type 0 where
  pub steps : List Step
  pub bad : Option LineBad

-- The trace of no lines.
abbrev pub no_line : Trace
no_line = record { steps = []; bad = None }

-- Returns the trace that stops at a bad line.
abbrev pub stopped : ℕ → Reason → Trace
stopped number why = record { steps = []; bad = Some (record { line = number; why = why }) }

-- Returns the trace of a step, and of what comes after it.
abbrev pub onto_step : Step → Trace → Trace
onto_step s later = record { steps = s ∷ later.steps; bad = later.bad }

-- Returns the trace of a line with its number and its step. Later lines come after the journal that
-- has its row.
abbrev pub trace_line : ℕ → List Row → (List Row → Trace) → Result (Option Step) Reason → Trace
trace_line number rows later (Err why) = stopped number why
trace_line number rows later (Ok None) = later rows
trace_line number rows later (Ok (Some s)) = onto_step s (later (row rows s false ∷ rows))

-- Returns the trace of lines from the one with a number on, if those before it made a journal. That
-- journal determines who holds which job, how many Message IDs each worker drew, and the greatest
-- moment.
unfoldable pub trace_from : ℕ → ℕ → List Row → List (List ℕ) → Trace
trace_from workers number rows [] = no_line
trace_from workers number rows (text ∷ texts) =
    trace_line number rows (λ more. trace_from workers (number + 1) more texts)
    (step_of_line workers rows (line_of text))

-- Returns what a trace contains for a number of workers.
abbrev pub trace_of : ℕ → List ℕ → Trace
trace_of workers bytes = trace_from workers 1 [] (lines_of bytes)

-- Returns the steps of a trace for a number of workers, up to its first bad line.
abbrev pub steps : ℕ → List ℕ → List Step
steps workers bytes = (trace_of workers bytes).steps

-- Returns the first bad line of a trace, if there is one.
abbrev pub first_bad : ℕ → List ℕ → Option LineBad
first_bad workers bytes = (trace_of workers bytes).bad

-- Returns the journal of a trace. Its steps are run, and memory runs out in none.
abbrev pub journal : ℕ → List ℕ → List Row
journal workers bytes = run (unstarved (steps workers bytes))
