-- The machine after a step of one of its workers.
use Rattle.std.proofs.Common.{
  ◌≡◌,
  ℕ,
  ◌<◌,
  ◌≤◌,
  ◌^◌,
  max,
  Bool,
  true,
  false,
  List,
  [],
  ◌∷◌,
  ◌++◌,
  codes,
  decimal,
  append_assoc,
  set,
  get_or,
  length,
  vec_len,
  Option,
  Some,
  None,
  Result,
  Ok,
  Err,
  refl,
  sym,
  ap,
  subst,
  ◌∙◌,
  is_some,
  IfSome,
  slice_get,
  nat_lt,
  arith,
}
use Rattle.std.specs.Prelude.{if◌then◌else◌}
use Rattle.std.proofs.lemmas.Bool.{false≢true, ne_eqb, lt-ltb}
use Rattle.std.proofs.lemmas.List.{length-set}
use Rattle.std.proofs.lemmas.Option.{slice_get_within, slice_get_read}
use Rattle.rd_base.specs.declared.moments.Moment.{Moment}
use Rattle.rd_base.specs.declared.peers.Peer.{Peer}
use Rattle.line_model.specs.declared.lines.Line.TheVariants as line
use Rattle.history_model.specs.declared.entries.Entry.{Entry}
use Rattle.history_model.specs.Live.{live}
use Rattle.history_model.specs.Replay.{counted}
use Rattle.history_model.specs.Versions.{VersionStandsFor}
use Rattle.event_model.specs.Observers.{observers}
use Rattle.line_model.specs.declared.lines.Reason.{Reason}
use Rattle.journal_model.specs.declared.rows.Row.{Row}
use Rattle.journal_model.specs.declared.steps.Step.{Step}
use Rattle.journal_model.specs.declared.steps.StepKind.TheVariants as step
use Rattle.journal_model.specs.Journal.{latest, entries, events}
use Rattle.journal_model.specs.Rows.{row}
use Rattle.journal_model.specs.DeskJournal.{IsHanded, ends_job, max_workers}
use Rattle.journal_model.specs.DeskJournal as desk_of
use Rattle.journal_model.specs.Machine.{
  hearing,
  hears,
  goes,
  ticks,
  begins,
  MayMake,
  is_look_datagram,
  job_of,
}
use Rattle.journal_model.specs.Machine as machine_of
use Rattle.journal_model.proofs.UnfinishedRowLaws.{now_latest}
use Rattle.trace_model.specs.Steps.{step_after, step_of_line, come_step, go_step, if_worker, nobody}
use Rattle.trace_model.specs.Output.{ended, last_line}
use Rattle.observation.proofs.TickLaws.{length-StandsFor}
use Rattle.rd_desk.specs.calls.Desks.{StandsFor}
use Rattle.trace_replay.specs.declared.workers.Worker.{Worker}
use Rattle.trace_replay.specs.declared.machine.Machine.{Machine}
use Rattle.trace_replay.specs.declared.troubles.Trouble.TheVariants as trouble
use Rattle.trace_replay.specs.Machines.{
  HoldsJob,
  IsWorkerAt,
  IsMachineAt,
  IsMachine,
  MayStep,
  Steps,
  Performs,
  rows_with,
}
use Rattle.trace_replay.proofs.DeskSteps.{row-IsDeskJournal}
use Rattle.trace_replay.proofs.JobRows.{held-more}
use Rattle.trace_replay.proofs.OtherWorkers.{job_of-other, mids_drawn-other, latest-after}
use Rattle.trace_replay.proofs.EachWorker.{each_set}

-- a worker is as it was after a row of another
other-IsWorkerAt : (rows : List Row) (s : Step) (number : ℕ) (worker : Worker)
    → (s.worker ≡ number → ⊥)
    → IsWorkerAt rows number worker
    → IsWorkerAt (row rows s false ∷ rows) number worker
other-IsWorkerAt rows s number worker other at = record {
  worker_is = at.worker_is;
  drawn = at.drawn ∙ sym (mids_drawn-other number rows s false (ne_eqb s.worker number other));
  holds =
      subst (λ held. HoldsJob (row rows s false ∷ rows) held worker.job)
      (sym (job_of-other number rows s false (ne_eqb s.worker number other)))
      (held-more rows (row rows s false) (job_of number rows) worker.job at.holds);
}

-- ---- a step

-- a worker of a machine is one of its journal
worker_at : (workers : ℕ) (rows : List Row) (machine : Machine) (number : ℕ) (worker : Worker)
    → IsMachineAt workers rows machine
    → slice_get machine.workers.items number ≡ Some worker
    → IsWorkerAt rows number worker
worker_at workers rows machine number worker at found =
    subst (λ o. IfSome o (IsWorkerAt rows number)) found (at.each number)

-- there is such a worker
there_is : (workers : ℕ) (rows : List Row) (machine : Machine) (number : ℕ) (worker : Worker)
    → IsMachineAt workers rows machine
    → slice_get machine.workers.items number ≡ Some worker
    → number < workers
there_is workers rows machine number worker at found =
    subst (λ n. number < n) at.number (slice_get_within machine.workers.items number worker found)

-- what the worker of a step wants to make it
may_step : (workers : ℕ) (rows : List Row) (s : Step) (now : Moment) (machine : Machine)
    (worker : Worker)
    → IsMachineAt workers rows machine
    → slice_get machine.workers.items s.worker ≡ Some worker
    → MayMake rows s
    → s.handed.0 ≡ now.0
    → latest rows ≤ now.0
    → MayStep rows s now machine.desk.tables worker
may_step workers rows s now machine worker at found may handed in_time = record {
  journal = at.journal;
  desk_journal = at.desk_journal;
  may = may;
  handed = handed;
  in_time = in_time;
  stands = at.desk;
  worker_at = worker_at workers rows machine s.worker worker at found;
}

-- the machine after its row
machine_after : (workers : ℕ) (rows : List Row) (s : Step) (old new : Machine) (worker : Worker)
    → IsMachineAt workers rows old
    → MayMake rows s
    → IsHanded rows s
    → s.handed.0 ≤ 10 ^ 15
    → latest rows ≤ s.handed.0
    → new.workers.items ≡ set old.workers.items s.worker worker
    → new.latest.0 ≡ s.handed.0
    → Steps rows s new.desk.tables worker new.sent
    → IsMachineAt workers (row rows s false ∷ rows) new
machine_after workers rows s old new worker at may handed bound in_time items moment steps =
    record {
      journal = machine_of.made false at.journal may;
      desk_journal = row-IsDeskJournal rows s false at.journal at.desk_journal may handed;
      desk = steps.stands;
      moment = moment ∙ sym (latest-after rows s false in_time);
      in_time = subst (λ n. n ≤ 10 ^ 15) (sym (latest-after rows s false in_time)) bound;
      number = ap length items ∙ length-set old.workers.items s.worker worker ∙ at.number;
      each =
          λ number.
          subst (λ ws. IfSome (slice_get ws number) (IsWorkerAt (row rows s false ∷ rows) number))
          (sym items)
          (each_set (IsWorkerAt rows) (IsWorkerAt (row rows s false ∷ rows)) old.workers.items
          s.worker
          worker at.each (other-IsWorkerAt rows s) steps.worker_at number);
    }

-- ---- a machine without rows

pub made_machine : (workers : ℕ) (machine : Machine)
    → StandsFor [] machine.desk.tables
    → machine.latest.0 ≡ 0
    → length machine.workers.items ≡ workers
    → ((number : ℕ) → IfSome (slice_get machine.workers.items number) (IsWorkerAt [] number))
    → IsMachineAt workers [] machine
unfolding latest
made_machine workers machine stands moment number each = record {
  journal = machine_of.begun;
  desk_journal = desk_of.begun;
  desk = stands;
  moment = moment;
  in_time = omega arith;
  number = number;
  each = each;
}

-- ---- the lines

-- its version is of no later moment than the greatest that was passed in
pub version_in_time : (machine : Machine) (moment : ℕ)
    → IsMachine machine
    → machine.latest.0 ≤ moment
    → (machine.desk.tables.version.at ≤ moment) × (machine.desk.tables.version.swept ≤ moment)
version_in_time machine moment is later =
    let at = is.2 in
    let last = now_latest is.1 in
    let made = at.desk.directory.at in
    let swept = at.desk.directory.swept in
    let greatest = at.moment in
    (omega (arith, later, greatest, last, made), omega (arith, later, greatest, last, swept))

-- a worker was lent to a step, at the later of the moment of a line and the greatest before, and
-- put back after it
pub record Lent (number : ℕ) (moment : ℕ) (now : Moment) (old new : Machine)
    (before after : Worker) : Type 0 where
  pub found : slice_get old.workers.items number ≡ Some before
  pub later : now.0 ≡ max moment old.latest.0
  pub bound : moment ≤ 10 ^ 15
  pub greatest : new.latest.0 ≡ now.0
  pub items : new.workers.items ≡ set old.workers.items number after

-- so it is of the one that is lent by its index
pub lent_at : (number index moment : ℕ) (now : Moment) (old new : Machine) (before after : Worker)
    → index ≡ number
    → index < vec_len old.workers
    → before ≡ get_or old.workers.items index before
    → now.0 ≡ max moment old.latest.0
    → moment ≤ 10 ^ 15
    → new.latest.0 ≡ now.0
    → new.workers.items ≡ set old.workers.items index after
    → Lent number moment now old new before after
lent_at number index moment now old new before after same within value later bound greatest items =
    record {
      found =
          subst (λ i. slice_get old.workers.items i ≡ Some before) same
          (slice_get_read old.workers.items (vec_len old.workers) index before old.workers.ok.0
          within value);
      later = later;
      bound = bound;
      greatest = greatest;
      items = subst (λ i. new.workers.items ≡ set old.workers.items i after) same items;
    }

-- a step of it that it may make was made
made_step : (workers : ℕ) (rows : List Row) (s : Step) (moment : ℕ) (now : Moment)
    (old new : Machine) (before after : Worker)
    → IsMachineAt workers rows old
    → Lent s.worker moment now old new before after
    → MayMake rows s
    → s.handed.0 ≡ max moment (latest rows)
    → (ends_job s.kind ≡ true → s.word ≡ 0)
    → (MayStep rows s now old.desk.tables before → Steps rows s new.desk.tables after new.sent)
    → Performs workers rows (Ok (Some s)) new (Ok tt)
made_step workers rows s moment now old new before after at lent may handed word does =
    let is : IsWorkerAt rows s.worker before =
    worker_at workers rows old s.worker before at lent.found in
    let same : s.handed.0 ≡ now.0 = handed ∙ ap (max moment) (sym at.moment) ∙ sym lent.later in
    let in_time : latest rows ≤ s.handed.0 = omega (arith, handed) in
    let made : Steps rows s new.desk.tables after new.sent =
    does (may_step workers rows s now old before at lent.found may same (subst (λ n. latest rows
    ≤ n) same in_time)) in (
      machine_after workers rows s old new after at may
          (record {
            in_time = omega (arith, in_time);
            worker = subst (λ n. n < max_workers) is.worker_is
                before.mids.few;
            word = word;
          })
          (let bound = lent.bound in
          let before = at.in_time in omega (arith, handed, bound, before)) in_time lent.items
          (lent.greatest ∙ sym same) made,
      made.sent_is,
    )

-- a step that hears a datagram ends no job
hearing-goes_on : (looks : Bool)
    → ends_job (if looks then step.Look else step.Admit) ≡ true
    → ⊥
hearing-goes_on true ending = false≢true ending
hearing-goes_on false ending = false≢true ending

-- a datagram came to a worker that holds no job
pub came : (workers : ℕ) (rows : List Row) (number : ℕ) (moment : Moment) (peer : Peer)
    (datagram heard : List ℕ) (word : ℕ) (now : Moment) (old new : Machine)
    (before after : Worker)
    → IsMachineAt workers rows old
    → Lent number moment.0 now old new before after
    → heard ≡ datagram
    → ((rows : List Row) (number : ℕ)
    → IsWorkerAt rows number before
    → false ≡ is_some (job_of number rows))
    → ((rows : List Row) (s : Step)
    → s.kind ≡ hearing heard
    → s.peer ≡ peer
    → s.datagram ≡ heard
    → s.word ≡ word
    → MayStep rows s now old.desk.tables before
    → Steps rows s new.desk.tables after new.sent)
    → Performs workers rows
    (step_of_line workers rows (Ok (line.Come number moment peer datagram word))) new (Ok tt)
came workers rows number moment peer datagram heard word now old new before after at lent same idle
    does =
    by (job_of number rows) refl
    (idle rows number (worker_at workers rows old number before at lent.found))
  where
    s : Step
    s = step_after rows (hearing datagram) number moment.0 word peer datagram

    done : job_of number rows ≡ None → Performs workers rows (Ok (Some s)) new (Ok tt)
    done none =
        made_step workers rows s moment.0 now old new before after at lent
        (record { begin = hears none refl; drawn = refl }) refl
        (λ ending. absurd (hearing-goes_on (is_look_datagram datagram) ending))
        (does rows s (ap hearing (sym same)) refl (sym same) refl)

    by : (held : Option machine_of.Job)
        → job_of number rows ≡ held
        → false ≡ is_some held
        → Performs workers rows
        (if_worker (nat_lt number workers) rows (line.Come number moment peer datagram word)) new
        (Ok tt)
    by (Some job) holds free = absurd (false≢true free)
    by None none free =
        subst (λ b.
        Performs workers rows (if_worker b rows (line.Come number moment peer datagram word)) new
        (Ok tt))
        (sym (lt-ltb number workers (there_is workers rows old number before at lent.found)))
        (subst (λ held.
        Performs workers rows (come_step held rows number moment.0 peer datagram word) new
        (Ok tt)) (sym none) (done none))

-- a worker did the job that it held
pub went : (workers : ℕ) (rows : List Row) (number : ℕ) (moment : Moment) (now : Moment)
    (old new : Machine) (before after : Worker)
    → IsMachineAt workers rows old
    → Lent number moment.0 now old new before after
    → ((rows : List Row) (number : ℕ)
    → IsWorkerAt rows number before
    → true ≡ is_some (job_of number rows))
    → ((rows : List Row) (s : Step)
    → job_of s.worker rows
    ≡ Some (record { kind = s.kind; peer = s.peer; datagram = s.datagram })
    → s.word ≡ 0
    → MayStep rows s now old.desk.tables before
    → Steps rows s new.desk.tables after new.sent)
    → Performs workers rows (step_of_line workers rows (Ok (line.Go number moment))) new (Ok tt)
went workers rows number moment now old new before after at lent busy does =
    by (job_of number rows) refl
    (busy rows number (worker_at workers rows old number before at lent.found))
  where
    done : (job : machine_of.Job)
        → job_of number rows ≡ Some job
        → Performs workers rows
        (Ok (Some (step_after rows job.kind number moment.0 0 job.peer job.datagram))) new
        (Ok tt)
    done job holds =
        made_step workers rows (step_after rows job.kind number moment.0 0 job.peer job.datagram)
        moment.0 now old new before after at lent (record { begin = goes holds; drawn = refl })
        refl (λ ending. refl)
        (does rows (step_after rows job.kind number moment.0 0 job.peer job.datagram) holds refl)

    by : (held : Option machine_of.Job)
        → job_of number rows ≡ held
        → true ≡ is_some held
        → Performs workers rows (if_worker (nat_lt number workers) rows (line.Go number moment)) new
        (Ok tt)
    by None none held = absurd (false≢true (sym held))
    by (Some job) holds held =
        subst (λ b. Performs workers rows (if_worker b rows (line.Go number moment)) new (Ok tt))
        (sym (lt-ltb number workers (there_is workers rows old number before at lent.found)))
        (subst (λ o. Performs workers rows (go_step o rows number moment.0) new (Ok tt)) (sym holds)
        (done job holds))

-- time passed at a worker
pub ticked : (workers : ℕ) (rows : List Row) (number : ℕ) (moment : Moment) (word : ℕ)
    (now : Moment) (old new : Machine) (before after : Worker)
    → IsMachineAt workers rows old
    → Lent number moment.0 now old new before after
    → ((rows : List Row) (s : Step)
    → s.kind ≡ step.Tick
    → s.word ≡ word
    → MayStep rows s now old.desk.tables before
    → Steps rows s new.desk.tables after new.sent)
    → Performs workers rows (step_of_line workers rows (Ok (line.Tick number moment word))) new
    (Ok tt)
ticked workers rows number moment word now old new before after at lent does =
    subst (λ b. Performs workers rows (if_worker b rows (line.Tick number moment word)) new (Ok tt))
    (sym (lt-ltb number workers (there_is workers rows old number before at lent.found)))
    (made_step workers rows s moment.0 now old new before after at lent
    (record { begin = ticks refl; drawn = refl }) refl (λ ending. absurd (false≢true ending))
    (does rows s refl refl))
  where
    s : Step
    s = step_after rows step.Tick number moment.0 word nobody []

-- a run began at a worker, which is as it was
pub began : (workers : ℕ) (rows : List Row) (number : ℕ) (moment : Moment) (first : ℕ)
    (now : Moment) (old new : Machine) (worker : Worker)
    → IsMachineAt workers rows old
    → Lent number moment.0 now old new worker worker
    → new.sent ≡ []
    → ((rows : List Row) (s : Step)
    → s.kind ≡ step.Begin first
    → MayStep rows s now old.desk.tables worker
    → Steps rows s new.desk.tables worker [])
    → Performs workers rows (step_of_line workers rows (Ok (line.Begin number moment first))) new
    (Ok tt)
began workers rows number moment first now old new worker at lent silent does =
    subst (λ b. Performs workers rows (if_worker b rows (line.Begin number moment first)) new
    (Ok tt)) (sym (lt-ltb number workers (there_is workers rows old number worker at lent.found)))
    (made_step workers rows s moment.0 now old new worker worker at lent
    (record { begin = begins refl; drawn = refl }) refl (λ ending. absurd (false≢true ending))
    (λ may. subst (Steps rows s new.desk.tables worker) (sym silent) (does rows s refl may)))
  where
    s : Step
    s = step_after rows (step.Begin first) number moment.0 0 nobody []

-- ---- the last line

-- its text, with a line feed
end_text : (entries lives observing : List ℕ)
    → codes "end "
    ++ (entries ++ (codes " " ++ (lives ++ (codes " " ++ (observing ++ codes "\n")))))
    ≡ ended (codes "end " ++ (entries ++ (codes " " ++ (lives ++ (codes " " ++ observing)))))
end_text entries lives observing =
    sym (ap (λ (l : List ℕ). codes "end " ++ l)
    (append_assoc entries (codes " " ++ (lives ++ (codes " " ++ observing))) (10 ∷ [])
    ∙ ap (λ (l : List ℕ). entries ++ (codes " " ++ l))
    (append_assoc lives (codes " " ++ observing) (10 ∷ []))))

-- what ends the output of a machine, by the count of its version's entries, how many registrations
-- are live in it and how many watch
pub end_is : (workers : ℕ) (rows : List Row) (machine : Machine) (entered lives observing : ℕ)
    → IsMachineAt workers rows machine
    → entered ≡ machine.desk.tables.version.entries
    → ((first : ℕ) (history : List Entry)
    → VersionStandsFor first history machine.desk.tables.version
    → lives ≡ length (live history machine.latest.0))
    → observing ≡ length machine.desk.tables.watching.observers
    → codes "end "
    ++ (decimal entered
    ++ (codes " " ++ (decimal lives ++ (codes " " ++ (decimal observing ++ codes "\n")))))
    ≡ last_line rows
unfolding last_line
end_is workers rows machine entered lives observing at enters lives_are watch =
    let count = at.desk.directory.history.entries in
    let entries_are : entered ≡ counted 0 (entries rows) = enters ∙ count in
    let live_are : lives ≡ length (live (entries rows) (latest rows)) =
    lives_are 0 (entries rows) at.desk.directory.history
    ∙ ap (λ n. length (live (entries rows) n)) at.moment in
    let observers_are : observing ≡ length (observers (events rows)) =
    watch ∙ sym (length-StandsFor rows machine.desk.tables.watching at.desk.watching) in
    end_text (decimal entered) (decimal lives) (decimal observing)
    ∙ (ap (λ n.
    ended (codes "end "
    ++ (decimal n
    ++ (codes " " ++ (decimal lives ++ (codes " " ++ decimal observing))))))
    entries_are
    ∙ (ap (λ n.
    ended (codes "end "
    ++ (decimal (counted 0 (entries rows))
    ++ (codes " " ++ (decimal n ++ (codes " " ++ decimal observing)))))) live_are
    ∙ ap (λ n.
    ended (codes "end "
    ++ (decimal (counted 0 (entries rows))
    ++ (codes " "
    ++ (decimal (length (live (entries rows) (latest rows)))
    ++ (codes " " ++ decimal n)))))) observers_are))

-- after a line the machine is after some journal again
-- This and the next are for programs that go on after a bad line: nothing here cites them.
pub done-IsMachine : (workers : ℕ) (rows : List Row) (made : Result (Option Step) Reason)
    (machine : Machine) (done : Unit)
    → Performs workers rows made machine (Ok done)
    → IsMachine machine
done-IsMachine workers rows (Ok made) machine done h = (workers, rows_with rows made, h.0)
done-IsMachine workers rows (Err why) machine done h = absurd h

-- a line that is bad leaves it as it was
pub bad-IsMachine : (workers : ℕ) (rows : List Row) (made : Result (Option Step) Reason)
    (machine : Machine) (why : Reason)
    → Performs workers rows made machine (Err (trouble.Bad why))
    → IsMachine machine
bad-IsMachine workers rows (Ok made) machine why h = absurd h
bad-IsMachine workers rows (Err said) machine why h = (workers, rows, h.1)
