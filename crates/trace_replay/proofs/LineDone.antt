-- What a whole line leads to.
use Rattle.std.proofs.Common.{
  ◌≡◌,
  ℕ,
  ◌+◌,
  Bool,
  true,
  false,
  List,
  ◌∷◌,
  ◌++◌,
  Option,
  Some,
  None,
  Result,
  Ok,
  Err,
  refl,
  sym,
  ap,
  ◌∙◌,
  subst,
  append-nil,
}
use Rattle.std.specs.Prelude.{IsOkAnd, IsErrAnd, nat_lt, ⊤}
use Rattle.line_model.specs.declared.lines.Line.{Line}
use Rattle.line_model.specs.declared.lines.Line.TheVariants as line
use Rattle.line_model.specs.declared.lines.LineBad.{LineBad}
use Rattle.line_model.specs.declared.lines.Reason.{Reason}
use Rattle.line_model.specs.Lines.{line_of}
use Rattle.journal_model.specs.declared.rows.Row.{Row}
use Rattle.journal_model.specs.declared.steps.Step.{Step}
use Rattle.journal_model.specs.Rows.{row}
use Rattle.journal_model.specs.Machine.{job_of}
use Rattle.journal_model.specs.Machine as machine_of
use Rattle.trace_model.specs.Output.{text}
use Rattle.trace_model.specs.Steps.{
  step_of_line,
  step_of_worker,
  come_step,
  go_step,
  worker_of,
  if_worker,
}
use Rattle.trace_replay.specs.declared.endings.Stop.{Stop}
use Rattle.trace_replay.specs.declared.endings.Stop.TheVariants as stop
use Rattle.trace_replay.specs.declared.machine.Machine.{Machine}
use Rattle.trace_replay.specs.declared.sessions.Session.{Session}
use Rattle.trace_replay.specs.declared.troubles.Trouble.{Trouble}
use Rattle.trace_replay.specs.declared.troubles.Trouble.TheVariants as trouble
use Rattle.trace_replay.specs.Journal.{rows_after}
use Rattle.trace_replay.specs.Machines.{IsMachineAt, IsBy, Performs, PerformsFor, lines_sent}
use Rattle.trace_replay.specs.Sessions.{DoesLine, Writes, WritesMore}

-- the step of a line, where it makes one, is of this worker
abbrev pub Names : ℕ → Result (Option Step) Reason → Type 0
Names worker (Err why) = ⊤
Names worker (Ok made) = IsBy made worker

worker_names : (rows : List Row) (l : Line) → Names (worker_of l) (step_of_worker rows l)
worker_names rows (line.Come worker moment peer datagram word) = by (job_of worker rows)
  where
    by : (held : Option machine_of.Job)
        → Names worker (come_step held rows worker moment.0 peer datagram word)
    by (Some job) = tt
    by None = refl
worker_names rows (line.Go worker moment) = by (job_of worker rows)
  where
    by : (held : Option machine_of.Job) → Names worker (go_step held rows worker moment.0)
    by (Some job) = refl
    by None = tt
worker_names rows (line.Tick worker moment word) = refl
worker_names rows (line.Begin worker moment first) = refl

-- the step of a line is of the worker that it names
pub line_names : (workers : ℕ) (rows : List Row) (l : Line)
    → Names (worker_of l) (step_of_line workers rows (Ok l))
line_names workers rows l = by (nat_lt (worker_of l) workers)
  where
    by : (b : Bool) → Names (worker_of l) (if_worker b rows l)
    by true = worker_names rows l
    by false = tt

-- what was done is of that worker
pub performs_for : (workers : ℕ) (rows : List Row) (said : Result (Option Step) Reason)
    (machine : Machine) (worker : ℕ) (done : Unit)
    → Performs workers rows said machine (Ok done)
    → Names worker said
    → PerformsFor workers rows said machine (Ok worker)
performs_for workers rows (Ok made) machine worker done h names = (h.0, h.1, names)
performs_for workers rows (Err why) machine worker done h names = absurd h

-- what was not done was not done of any worker
pub not_performed : (workers : ℕ) (rows : List Row) (said : Result (Option Step) Reason)
    (machine : Machine) (why : Trouble)
    → Performs workers rows said machine (Err why)
    → PerformsFor workers rows said machine (Err why)
not_performed workers rows (Ok made) machine (trouble.Bad why) h = h
not_performed workers rows (Ok made) machine trouble.Starved h = tt
not_performed workers rows (Err said) machine (trouble.Bad why) h = h.0
not_performed workers rows (Err said) machine trouble.Starved h = tt

-- the rows that a line that was done led to
performed : (workers : ℕ) (rows : List Row) (said : Result (Option Step) Reason) (machine : Machine)
    (worker : ℕ)
    → PerformsFor workers rows said machine (Ok worker)
    → (more : List Row)
    × (rows_after rows said ≡ Ok more)
    × IsMachineAt workers more machine
    × (text more ≡ text rows ++ lines_sent worker machine.sent)
unfolding text row
performed workers rows (Err why) machine worker h = absurd h
performed workers rows (Ok None) machine worker h = (
  rows,
  refl,
  h.0,
  sym (append-nil (text rows))
      ∙ ap (λ sent. text rows ++ lines_sent worker sent) (sym h.1),
)
performed workers rows (Ok (Some s)) machine worker h = (
  row rows s false ∷ rows,
  refl,
  h.0,
  ap (λ w. text rows ++ lines_sent w (row rows s false).sent) h.2
      ∙ ap (λ sent. text rows ++ lines_sent worker sent) (sym h.1),
)

-- a line was done, and what it sent written as far as the output took it
pub line_done : (workers : ℕ) (rows : List Row) (number : ℕ) (line : List ℕ) (session : Session)
    (old new : Option (List ℕ)) (worker : ℕ) (result : Option Stop)
    →
    session.line ≡ number + 1
    → PerformsFor workers rows (step_of_line workers rows (line_of line)) session.machine
    (Ok worker)
    → Writes old new (lines_sent worker session.machine.sent) result
    → DoesLine workers rows number line session old new result
line_done workers rows number line session old new worker None next done written =
    let p =
    performed workers rows (step_of_line workers rows (line_of line)) session.machine worker
    done in
    let P : List Row → Type 0 =
    λ more.
    IsMachineAt workers more session.machine
    × (session.line ≡ number + 1)
    × WritesMore rows more old new None in
    let here : IsOkAnd {E = Reason} (Ok p.0) P =
    (p.2, next, (lines_sent worker session.machine.sent, p.3, written)) in
    subst (λ (r : Result (List Row) Reason). IsOkAnd r P) (sym p.1) here
line_done workers rows number line session old new worker (Some (stop.Bad bad)) next done written =
    absurd written
line_done workers rows number line session old new worker (Some stop.Unwritten) next done written =
    let p =
    performed workers rows (step_of_line workers rows (line_of line)) session.machine worker
    done in
    let P : List Row → Type 0 = λ more. WritesMore rows more old new (Some stop.Unwritten) in
    let here : IsOkAnd {E = Reason} (Ok p.0) P =
    (lines_sent worker session.machine.sent, p.3, written) in
    subst (λ (r : Result (List Row) Reason). IsOkAnd r P) (sym p.1) here
line_done workers rows number line session old new worker (Some stop.Starved) next done written =
    written

-- why a line is bad is why the journal ends at it
pub line_bad : (workers : ℕ) (rows : List Row) (said : Result (Option Step) Reason)
    (machine : Machine) (number : ℕ) (why : Reason)
    → PerformsFor workers rows said machine (Err (trouble.Bad why))
    → IsErrAnd (rows_after rows said) (λ (other : Reason).
    ◌≡◌ {A = LineBad} (record { line = number; why = why }) (record { line = number; why = other }))
line_bad workers rows (Ok made) machine number why h = absurd h
line_bad workers rows (Err other) machine number why h =
    ap (λ (w : Reason). record { line = number; why = w }) h
