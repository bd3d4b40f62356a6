-- The steps of a worker at a desk: what the desk's call wants of a step that may be made, and that
-- what the desk made of it is the step.
use Rattle.std.proofs.Common.{
  ◌≡◌,
  ℕ,
  ◌<◌,
  max,
  Bool,
  true,
  false,
  List,
  [],
  ◌∷◌,
  ◌++◌,
  length,
  Option,
  Some,
  None,
  Result,
  Ok,
  Err,
  IfOk,
  refl,
  sym,
  ap,
  ap₂,
  subst,
  ◌∙◌,
  arith,
}
use Rattle.std.specs.List.{list_any}
use Rattle.std.proofs.lemmas.Bool.{false≢true}
use Rattle.rd_base.specs.declared.moments.Moment.{Moment}
use Rattle.rd_base.specs.declared.peers.Peer.{Peer}
use Rattle.message_model.specs.Message.{Message}
use Rattle.message_model.specs.Reading.{reading}
use Rattle.history_model.specs.declared.entries.Entry.{Entry}
use Rattle.history_model.specs.Versions.{Version, VersionStandsFor}
use Rattle.event_model.specs.declared.notes.Note.{Note}
use Rattle.event_model.specs.declared.notes.Note.TheVariants as note
use Rattle.event_model.specs.AdmissionOrder.{IsOpen}
use Rattle.event_model.specs.KeptAnswers.{Answer}
use Rattle.event_model.specs.Repeats.{is_admitting}
use Rattle.journal_model.specs.declared.steps.Step.{Step}
use Rattle.journal_model.specs.declared.steps.StepKind.{StepKind}
use Rattle.journal_model.specs.declared.steps.StepKind.TheVariants as step
use Rattle.journal_model.specs.declared.rows.Row.{Row}
use Rattle.journal_model.specs.DeskJournal.{IsHanded, IsOpenFor, MayFollow, CommitsOpen}
use Rattle.journal_model.specs.Effects.{Effects}
use Rattle.journal_model.specs.Journal.{is_look, is_heard, entries, events, latest, row_at}
use Rattle.journal_model.specs.Looks.{looked, held_after}
use Rattle.journal_model.specs.Machine.{write_job, keep_job, job_after, job_of, mids_drawn}
use Rattle.journal_model.specs.Machine as machine
use Rattle.journal_model.specs.Rows.{effects, row_moment, row}
use Rattle.journal_model.specs.UnfinishedRow.{drawing}
use Rattle.journal_model.proofs.RowEquations.{
  row-step,
  row-starved,
  row-moment,
  row-sent,
  row-notes,
  row-drew,
  effects-Look,
}
use Rattle.journal_model.proofs.desks.OpenAdmissions.{OwnAdmission}
use Rattle.journal_model.proofs.entries.CommitPlaces.{AtPlace, at_place, own_of}
use Rattle.journal_model.proofs.entries.JournalLaws.{desk-AreRows}
use Rattle.journal_model.proofs.notes.SilentSteps.{looked_notes}
use Rattle.coap_answers.specs.declared.mids.Mids.{Mids}
use Rattle.coap_answers.specs.Sendings.{IsStepOf, Sends}
use Rattle.rd_look.specs.declared.looks.Looked.TheVariants as looked_as
use Rattle.rd_look.specs.KeepJobs.{Keep}
use Rattle.rd_look.specs.Looking.{IsHeld}
use Rattle.rd_desk.specs.declared.jobs.Job.{Job}
use Rattle.rd_desk.specs.declared.jobs.Job.TheVariants as job
use Rattle.rd_desk.specs.calls.Desks.{Seen}
use Rattle.rd_desk.specs.calls.Steps.{IsCalled, Made}
use Rattle.rd_desk.specs.calls.WriteJobs.{Write}
use Rattle.rd_desk.proofs.changes.OpenJobs.{job-IsOpen}
use Rattle.trace_replay.specs.declared.workers.Worker.{Worker}
use Rattle.trace_replay.specs.Machines.{IsJobOf, HoldsJob, IsWorkerAt, MayStep, Steps}
use Rattle.trace_replay.proofs.DeskSteps.{may_follow}
use Rattle.trace_replay.proofs.JobRows.{
  drawn-more,
  job-after,
  row_at-own,
  held-more,
  held-none,
  hearer-idle,
}
use Rattle.rd_desk.proofs.parts.LookRows.{StandsFor-looked}

-- ---- any step

-- the call of a desk for a step that may be made
pub called : (rows : List Row) (s : Step) (moment : Moment) (desk : Seen) (worker : Worker)
    → is_look s.kind ≡ false
    → MayStep rows s moment desk worker
    → IsCalled rows s moment worker.mids desk
called rows s moment desk worker no_look it = record {
  journal = it.desk_journal;
  no_later_look = (let in_time = it.in_time in omega (arith, in_time));
  no_look = no_look;
  stands = it.stands;
  handed = it.handed;
  worker = sym it.worker_at.worker_is;
  drawn = it.may.drawn ∙ sym it.worker_at.drawn;
}

-- what is passed in with it is as a desk wants it
pub handed : (rows : List Row) (s : Step) (moment : Moment) (desk : Seen) (worker : Worker)
    → s.word ≡ 0
    → MayStep rows s moment desk worker
    → IsHanded rows s
handed rows s moment desk worker word it = record {
  in_time = (let in_time = it.in_time in let at = it.handed in omega (arith, in_time, at));
  worker = subst (λ n. n < 16) it.worker_at.worker_is worker.mids.few;
  word = λ ending. word;
}

-- its row has the moment that is passed in
moment-is : (rows : List Row) (s : Step) (moment : Moment) (desk : Seen) (worker : Worker)
    → MayStep rows s moment desk worker
    → row_moment rows s ≡ moment.0
unfolding row_moment
moment-is rows s moment desk worker it =
    let in_time = it.in_time in let at = it.handed in omega (arith, in_time, at)

-- what a desk made of it is the step, where the worker has the job that its row leaves it with
made-Steps : (rows : List Row) (s : Step) (moment : Moment) (desk after : Seen)
    (worker later : Worker) (out : List (Peer × List ℕ))
    → MayStep rows s moment desk worker
    → Made rows (row rows s false) after out worker.mids later.mids
    → HoldsJob (row rows s false ∷ rows)
    (job_after s.kind (row rows s false) rows (job_of s.worker rows)) later.job
    → Steps rows s after later out
made-Steps rows s moment desk after worker later out it made holds = record {
  stands = made.stands;
  worker_at = record {
    worker_is = made.worker ∙ it.worker_at.worker_is;
    drawn =
        made.drawn
        ∙ (ap (drawing (row rows s false).drew) it.worker_at.drawn
        ∙ drawn-more rows (row rows s false) s (row-step rows s false));
    holds =
        subst (λ (held : Option machine.Job). HoldsJob (row rows s false ∷ rows) held later.job)
        (sym (job-after rows (row rows s false) s (row-step rows s false))) holds;
  };
  sent_is = made.sent;
}

-- ---- ticks

-- the worker keeps its job
pub ticked : (rows : List Row) (s : Step) (moment : Moment) (desk after : Seen)
    (worker later : Worker) (out : List (Peer × List ℕ)) (starved : Bool)
    → starved ≡ false
    → later.job ≡ worker.job
    → s.kind ≡ step.Tick
    → MayStep rows s moment desk worker
    → (IsCalled rows s moment worker.mids desk
    → Made rows (row rows s starved) after out worker.mids later.mids)
    → Steps rows s after later out
ticked rows s moment desk after worker later out starved fed same kind it made =
    made-Steps rows s moment desk after worker later out it
    (subst (λ (b : Bool). Made rows (row rows s b) after out worker.mids later.mids) fed
    (made (called rows s moment desk worker (ap is_look kind) it)))
    (subst (λ (k : StepKind).
    HoldsJob (row rows s false ∷ rows)
    (job_after k (row rows s false) rows (job_of s.worker rows)) later.job) (sym kind)
    (subst (λ (mine : Option Job). HoldsJob (row rows s false ∷ rows) (job_of s.worker rows) mine)
    (sym same)
    (held-more rows (row rows s false) (job_of s.worker rows) worker.job it.worker_at.holds)))

-- ---- beginnings

-- the worker keeps its job, and draws nothing
pub begun : (rows : List Row) (s : Step) (moment : Moment) (desk after : Seen) (worker : Worker)
    (first : ℕ) (starved : Bool)
    → starved ≡ false
    → s.kind ≡ step.Begin first
    → MayStep rows s moment desk worker
    → (IsCalled rows s moment worker.mids desk
    → Made rows (row rows s starved) after [] worker.mids worker.mids)
    → Steps rows s after worker []
begun rows s moment desk after worker first starved fed kind it made =
    made-Steps rows s moment desk after worker worker [] it
    (subst (λ (b : Bool). Made rows (row rows s b) after [] worker.mids worker.mids) fed
    (made (called rows s moment desk worker (ap is_look kind) it)))
    (subst (λ (k : StepKind).
    HoldsJob (row rows s false ∷ rows)
    (job_after k (row rows s false) rows (job_of s.worker rows)) worker.job) (sym kind)
    (held-more rows (row rows s false) (job_of s.worker rows) worker.job it.worker_at.holds))

-- ---- jobs that are done

-- a commit or a keep leaves no job
pub ended : (rows : List Row) (s : Step) (moment : Moment) (desk after : Seen)
    (worker later : Worker) (out : List (Peer × List ℕ))
    → ((r : Row) (held : Option machine.Job) → job_after s.kind r rows held ≡ None)
    → later.job ≡ None
    → MayStep rows s moment desk worker
    → Made rows (row rows s false) after out worker.mids later.mids
    → Steps rows s after later out
ended rows s moment desk after worker later out leaves none it made =
    made-Steps rows s moment desk after worker later out it made
    (subst (λ (held : Option machine.Job). HoldsJob (row rows s false ∷ rows) held later.job)
    (sym (leaves (row rows s false) (job_of s.worker rows)))
    (subst (λ (mine : Option Job). HoldsJob (row rows s false ∷ rows) None mine) (sym none) tt))

-- the job of a worker who goes is that of the step
goes-holds : (rows : List Row) (s : Step) (worker : Worker) (mine : Job)
    → IsWorkerAt rows s.worker worker
    → worker.job ≡ Some mine
    → job_of s.worker rows ≡ Some (record { kind = s.kind; peer = s.peer; datagram = s.datagram })
    → IsJobOf rows (record { kind = s.kind; peer = s.peer; datagram = s.datagram }) mine
goes-holds rows s worker mine at has holds =
    subst (λ (own : Option Job).
    HoldsJob rows (Some (record { kind = s.kind; peer = s.peer; datagram = s.datagram }))
    own) has
    (subst (λ (held : Option machine.Job). HoldsJob rows held worker.job) holds at.holds)

-- a write that is done is of an admission that is open
record OpenWrite (rows : List Row) (s : Step) (write : Write) : Type 0 where
  place : ℕ
  kind : s.kind ≡ step.Commit place
  peer : s.peer ≡ write.peer
  datagram : s.datagram ≡ write.datagram
  message : Message
  read : reading write.datagram ≡ Ok message
  stands : IsOpen place s.peer message.mid write.admitted (events rows)

open_write : (rows : List Row) (s : Step) (moment : Moment) (desk : Seen) (worker : Worker)
    (write : Write)
    → worker.job ≡ Some (job.Write write)
    → job_of s.worker rows ≡ Some (record { kind = s.kind; peer = s.peer; datagram = s.datagram })
    → s.word ≡ 0
    → MayStep rows s moment desk worker
    → OpenWrite rows s write
open_write rows s moment desk worker write has holds word it =
    let mine = goes-holds rows s worker (job.Write write) it.worker_at has holds in
    let kind : s.kind ≡ step.Commit mine.0 = ap (λ (j : machine.Job). j.kind) mine.2 in
    let from : s.peer ≡ write.peer = ap (λ (j : machine.Job). j.peer) mine.2 in
    let datagram : s.datagram ≡ write.datagram = ap (λ (j : machine.Job). j.datagram) mine.2 in
    let may : MayFollow rows s =
    may_follow rows s it.journal it.desk_journal it.may
    (handed rows s moment desk worker word it) in
    let opens : IsOpenFor s mine.0 rows = subst (CommitsOpen rows s) kind may.commits in
    let at : AtPlace rows mine.0 opens.admission =
    at_place mine.0 rows opens.admission opens.found in
    let own : OwnAdmission opens.admission =
    own_of rows at.before opens.admission (desk-AreRows rows it.desk_journal) at.within
    opens.admits in
    let read : reading s.datagram ≡ Ok own.message =
    subst (λ (octets : List ℕ). reading octets ≡ Ok own.message) opens.datagram own.read in
    let same : opens.admission ≡ mine.1 =
    same_row (row_at mine.0 rows) opens.admission mine.1 opens.found mine.3 in
    let since : opens.admission.moment.0 ≡ write.admitted =
    ap (λ (r : Row). r.moment.0) same ∙ mine.4 in
    record {
      place = mine.0;
      kind = kind;
      peer = from;
      datagram = datagram;
      message = own.message;
      read = subst (λ (octets : List ℕ). reading octets ≡ Ok own.message) datagram read;
      stands = job-IsOpen rows s mine.0 own.message write.admitted it.desk_journal opens since read;
    }
  where
    same_row : (found : Option Row) (one other : Row)
        → found ≡ Some one
        → found ≡ Some other
        → one ≡ other
    same_row found one other is was = let both : Some one ≡ Some other = sym is ∙ was in cc

pub committed : (rows : List Row) (s : Step) (moment : Moment) (desk after : Seen)
    (worker later : Worker) (write : Write) (out : List (Peer × List ℕ)) (starved : Bool)
    → starved ≡ false
    → worker.job ≡ Some (job.Write write)
    → later.job ≡ None
    → job_of s.worker rows ≡ Some (record { kind = s.kind; peer = s.peer; datagram = s.datagram })
    → s.word ≡ 0
    → MayStep rows s moment desk worker
    → ((place : ℕ) (m : Message)
    → s.kind ≡ step.Commit place
    → s.peer ≡ write.peer
    → s.datagram ≡ write.datagram
    → s.word ≡ 0
    → reading write.datagram ≡ Ok m
    → IsOpen place s.peer m.mid write.admitted (events rows)
    → IsCalled rows s moment worker.mids desk
    → Made rows (row rows s starved) after out worker.mids later.mids)
    → Steps rows s after later out
committed rows s moment desk after worker later write out starved fed has none holds word it made =
    let opened : OpenWrite rows s write =
    open_write rows s moment desk worker write has holds word it in
    ended rows s moment desk after worker later out
    (subst
    (λ (k : StepKind). (r : Row) (held : Option machine.Job) → job_after k r rows held ≡ None)
    (sym opened.kind) (λ r held. refl)) none it
    (subst (λ (b : Bool). Made rows (row rows s b) after out worker.mids later.mids) fed
    (made opened.place opened.message opened.kind opened.peer opened.datagram word opened.read
    opened.stands
    (called rows s moment desk worker (ap is_look opened.kind) it)))

pub kept : (rows : List Row) (s : Step) (moment : Moment) (desk after : Seen)
    (worker later : Worker) (keep : Keep) (out : List (Peer × List ℕ)) (starved : Bool)
    → starved ≡ false
    → worker.job ≡ Some (job.Keep keep)
    → later.job ≡ None
    → job_of s.worker rows ≡ Some (record { kind = s.kind; peer = s.peer; datagram = s.datagram })
    → MayStep rows s moment desk worker
    → (s.kind ≡ step.Keep keep.answer.body keep.answer.tag
    → s.peer ≡ keep.peer
    → s.datagram ≡ keep.datagram
    → IsCalled rows s moment worker.mids desk
    → Made rows (row rows s starved) after out worker.mids later.mids)
    → Steps rows s after later out
kept rows s moment desk after worker later keep out starved fed has none holds it made =
    let mine = goes-holds rows s worker (job.Keep keep) it.worker_at has holds in
    let kind : s.kind ≡ step.Keep keep.answer.body keep.answer.tag =
    ap (λ (j : machine.Job). j.kind) mine in
    let from : s.peer ≡ keep.peer = ap (λ (j : machine.Job). j.peer) mine in
    let datagram : s.datagram ≡ keep.datagram = ap (λ (j : machine.Job). j.datagram) mine in
    ended rows s moment desk after worker later out
    (subst
    (λ (k : StepKind). (r : Row) (held : Option machine.Job) → job_after k r rows held ≡ None)
    (sym kind) (λ r held. refl)) none it
    (subst (λ (b : Bool). Made rows (row rows s b) after out worker.mids later.mids) fed
    (made kind from datagram (called rows s moment desk worker (ap is_look kind) it)))

-- a worker who goes has a job
pub goes-none : (rows : List Row) (s : Step) (worker : Worker)
    → IsWorkerAt rows s.worker worker
    → worker.job ≡ None
    → job_of s.worker rows ≡ Some (record { kind = s.kind; peer = s.peer; datagram = s.datagram })
    → ⊥
goes-none rows s worker at none holds =
    subst (λ (own : Option Job).
    HoldsJob rows (Some (record { kind = s.kind; peer = s.peer; datagram = s.datagram }))
    own) none
    (subst (λ (held : Option machine.Job). HoldsJob rows held worker.job) holds at.holds)

-- ---- datagrams

-- who hears has no job
idle : (rows : List Row) (s : Step) (moment : Moment) (desk : Seen) (worker : Worker)
    → is_heard s.kind ≡ true
    → MayStep rows s moment desk worker
    → worker.job ≡ None
idle rows s moment desk worker heard it =
    held-none rows (job_of s.worker rows) worker.job (hearer-idle rows s it.may.begin heard)
    it.worker_at.holds

-- the row of an admission leaves the job of the write that it admits
held_write : (rows : List Row) (r : Row) (notes : List Note) (from : Peer) (mid : ℕ) (write : Write)
    → r.notes ≡ notes
    → notes ≡ note.Admitted from mid ∷ []
    → write ≡ record { peer = r.step.peer; datagram = r.step.datagram; admitted = r.moment.0 }
    → HoldsJob (r ∷ rows) (write_job r.notes r rows) (Some (job.Write write))
held_write rows r notes from mid write noted admits is =
    subst (λ (ns : List Note). HoldsJob (r ∷ rows) (write_job ns r rows) (Some (job.Write write)))
    (sym (noted ∙ admits))
    (subst (λ (w : Write).
    HoldsJob (r ∷ rows)
    (Some (record {
      kind = step.Commit (length rows);
      peer = r.step.peer;
      datagram =
          r.step.datagram;
    })) (Some (job.Write w))) (sym is)
    (length rows, r, refl, row_at-own rows r, refl))

-- where it admits none, it leaves none
held_nothing : (rows : List Row) (r : Row) (notes : List Note)
    → list_any is_admitting notes ≡ false
    → write_job notes r rows ≡ None
held_nothing rows r (note.Admitted from mid ∷ notes) none = absurd (false≢true (sym none))
held_nothing rows r _ none = refl

-- a write of a step is one of its row
own_write : (rows : List Row) (s : Step)
    → ◌≡◌ {A = Write}
    (record { peer = s.peer; datagram = s.datagram; admitted = row_moment rows s })
    (record {
      peer = (row rows s false).step.peer;
      datagram = (row rows s false).step.datagram;
      admitted = (row rows s false).moment.0;
    })
unfolding row
own_write rows s = refl

pub admitted_write : (rows : List Row) (s : Step) (moment : Moment) (desk after : Seen)
    (worker later : Worker) (write : Write) (out : List (Peer × List ℕ))
    → s.kind ≡ step.Admit
    → later.job ≡ Some (job.Write write)
    → MayStep rows s moment desk worker
    → (mid : ℕ)
    × ((row rows s false).notes ≡ note.Admitted s.peer mid ∷ [])
    × (write ≡ record { peer = s.peer; datagram = s.datagram; admitted = row_moment rows s })
    → Made rows (row rows s false) after out worker.mids later.mids → Steps rows s after later out
admitted_write rows s moment desk after worker later write out kind has it holds made =
    made-Steps rows s moment desk after worker later out it made
    (subst (λ (k : StepKind).
    HoldsJob (row rows s false ∷ rows)
    (job_after k (row rows s false) rows (job_of s.worker rows)) later.job) (sym kind)
    (subst (λ (mine : Option Job).
    HoldsJob (row rows s false ∷ rows)
    (write_job (row rows s false).notes (row rows s false) rows) mine) (sym has)
    (held_write rows (row rows s false) (note.Admitted s.peer holds.0 ∷ []) s.peer holds.0 write
    holds.1 refl (holds.2 ∙ own_write rows s))))

pub admitted_nothing : (rows : List Row) (s : Step) (moment : Moment) (desk after : Seen)
    (worker later : Worker) (out : List (Peer × List ℕ))
    → s.kind ≡ step.Admit
    → later.job ≡ worker.job
    → MayStep rows s moment desk worker
    → list_any is_admitting (row rows s false).notes ≡ false
    → Made rows (row rows s false) after out worker.mids later.mids
    → Steps rows s after later out
admitted_nothing rows s moment desk after worker later out kind same it none made =
    made-Steps rows s moment desk after worker later out it made
    (subst (λ (k : StepKind).
    HoldsJob (row rows s false ∷ rows)
    (job_after k (row rows s false) rows (job_of s.worker rows)) later.job) (sym kind)
    (subst (λ (held : Option machine.Job). HoldsJob (row rows s false ∷ rows) held later.job)
    (sym (held_nothing rows (row rows s false) (row rows s false).notes none))
    (subst (λ (mine : Option Job). HoldsJob (row rows s false ∷ rows) None mine)
    (sym (same ∙ idle rows s moment desk worker (ap is_heard kind) it)) tt)))

-- ---- looks

-- what the row of a look does
look-effects : (rows : List Row) (s : Step) (moment : ℕ) (datagram : List ℕ)
    → s.kind ≡ step.Look
    → row_moment rows s ≡ moment
    → s.datagram ≡ datagram
    → effects s.kind false rows (row_moment rows s) s
    ≡ looked false (entries rows) moment s (reading datagram)
look-effects rows s moment datagram kind at of =
    ap (λ (k : StepKind). effects k false rows (row_moment rows s) s) kind
    ∙ (effects-Look false rows (row_moment rows s) s
    ∙ ap₂ (λ (n : ℕ) (octets : List ℕ). looked false (entries rows) n s (reading octets)) at of)

-- what was sent and drawn of it is what its row says
look-Made : (rows : List Row) (s : Step) (moment : Moment) (desk : Seen) (worker : Worker)
    (later : Mids) (datagram : List ℕ) (before out : List (Peer × List ℕ))
    → s.kind ≡ step.Look
    → s.datagram ≡ datagram
    → before ≡ []
    → MayStep rows s moment desk worker
    → Sends (looked false (entries rows) moment.0 s (reading datagram)) before out worker.mids later
    → Made rows (row rows s false) desk out worker.mids later
look-Made rows s moment desk worker later datagram before out kind of empty it sends =
    let does =
    look-effects rows s moment.0 datagram kind (moment-is rows s moment desk worker it) of in
    record {
      stands =
          StandsFor-looked rows (row rows s false) desk
          (ap (λ (t : Step). is_look t.kind) (row-step rows s false) ∙ ap is_look kind)
          (row-notes rows s false
          ∙ (ap (λ (e : Effects). e.notes) does
          ∙ looked_notes false (entries rows) moment.0 s (reading datagram))) it.stands;
      sent =
          sends.sent
          ∙ (ap (λ (ds : List (Peer × List ℕ)).
          ds ++ (looked false (entries rows) moment.0 s (reading datagram)).sent) empty
          ∙ sym (row-sent rows s false ∙ ap (λ (e : Effects). e.sent) does));
      worker = sends.worker;
      drawn =
          sends.drawn
          ∙ ap (λ (n : ℕ). drawing n worker.mids.drawn)
          (sym (row-drew rows s false ∙ ap (λ (e : Effects). e.drew) does));
    }

-- the row of a look leaves the job to keep what it holds
look_leaves : (rows : List Row) (s : Step) (moment : Moment) (desk : Seen) (worker : Worker)
    (datagram : List ℕ)
    → s.kind ≡ step.Look
    → s.datagram ≡ datagram
    → MayStep rows s moment desk worker
    → job_after s.kind (row rows s false) rows (job_of s.worker rows)
    ≡ keep_job (held_after false (entries rows) moment.0 (reading datagram)) (row rows s false)
look_leaves rows s moment desk worker datagram kind of it =
    ap (λ (k : StepKind). job_after k (row rows s false) rows (job_of s.worker rows)) kind
    ∙ ap (λ (held : Option Answer). keep_job held (row rows s false))
    (ap (λ (b : Bool).
    held_after b (entries rows) (row rows s false).moment.0
    (reading (row rows s false).step.datagram)) (row-starved rows s false)
    ∙ ap₂ (λ (n : ℕ) (octets : List ℕ). held_after false (entries rows) n (reading octets))
    (row-moment rows s false ∙ max_is) (ap (λ (t : Step). t.datagram) (row-step rows s false) ∙ of))
  where
    max_is : max s.handed.0 (latest rows) ≡ moment.0
    max_is = let in_time = it.in_time in let at = it.handed in omega (arith, in_time, at)

-- how a look ended says what it left
done_left : (from : Peer) (datagram : List ℕ) (left : Option Answer)
    → IsHeld from datagram left looked_as.Done
    → left ≡ None
done_left from datagram None h = refl
done_left from datagram (Some answer) h = absurd h

held_left : (from : Peer) (datagram : List ℕ) (left : Option Answer) (keep : Keep)
    → IsHeld from datagram left (looked_as.Held keep)
    → (answer : Answer)
    × (left ≡ Some answer)
    × (keep ≡ record { peer = from; datagram = datagram; answer = answer })
held_left from datagram None keep h = absurd h
held_left from datagram (Some answer) keep h = (answer, refl, h)

-- what a look tells of whatever history the version stands for, it tells of the entries of the
-- journal
record Look (rows : List Row) (s : Step) (moment : Moment) (version : Version) (mids : Mids)
    (from : Peer) : Type 0 where
  history : VersionStandsFor 0 (entries rows) version
  step_of : IsStepOf s from mids

look_of : (rows : List Row) (s : Step) (moment : Moment) (desk : Seen) (worker : Worker)
    (version : Version) (from : Peer)
    → version ≡ desk.version
    → s.peer ≡ from
    → MayStep rows s moment desk worker
    → Look rows s moment version worker.mids from
look_of rows s moment desk worker version from seen by it = record {
  history =
      subst (λ (v : Version). VersionStandsFor 0 (entries rows) v) (sym seen)
      it.stands.directory.history;
  step_of = record {
    peer_is = by;
    worker = sym it.worker_at.worker_is;
    drawn = it.may.drawn ∙ sym it.worker_at.drawn;
  };
}

-- what an Ok says it says in weaker words
pub ok_as : {T E : Type 0} {P Q : T → Type 0} (r : Result T E)
    → ((value : T) → P value → Q value)
    → IfOk r P
    → IfOk r Q
ok_as (Ok value) weaker says = weaker value says
ok_as (Err fault) weaker says = tt

-- where nothing is held, the worker has no job
pub looked_done : (rows : List Row) (s : Step) (moment : Moment) (desk : Seen)
    (worker later : Worker) (version : Version) (from : Peer) (datagram : List ℕ)
    (before out : List (Peer × List ℕ))
    → version ≡ desk.version
    → s.kind ≡ step.Look
    → s.peer ≡ from
    → s.datagram ≡ datagram
    → before ≡ []
    → later.job ≡ worker.job
    → MayStep rows s moment desk worker
    → ((history : List Entry)
    → VersionStandsFor 0 history version
    → IsStepOf s from worker.mids
    → Sends (looked false history moment.0 s (reading datagram)) before out worker.mids
    later.mids)
    → ((history : List Entry)
    → VersionStandsFor 0 history version
    → IsHeld from datagram (held_after false history moment.0 (reading datagram))
    looked_as.Done)
    → Steps rows s desk later out
looked_done rows s moment desk worker later version from datagram before out seen kind by of empty
    same it sends holds =
    let look = look_of rows s moment desk worker version from seen by it in
    let none =
    done_left from datagram (held_after false (entries rows) moment.0 (reading datagram))
    (holds (entries rows) look.history) in
    made-Steps rows s moment desk desk worker later out it
    (look-Made rows s moment desk worker later.mids datagram before out kind of empty it
    (sends (entries rows) look.history look.step_of))
    (subst (λ (held : Option machine.Job). HoldsJob (row rows s false ∷ rows) held later.job)
    (sym (look_leaves rows s moment desk worker datagram kind of it
    ∙ ap (λ (held : Option Answer). keep_job held (row rows s false)) none))
    (subst (λ (mine : Option Job). HoldsJob (row rows s false ∷ rows) None mine)
    (sym (same ∙ idle rows s moment desk worker (ap is_heard kind) it)) tt))

-- an answer that a peer asked for by a datagram is to be kept
abbrev kept_by : Answer → Peer → List ℕ → Option machine.Job
kept_by answer from datagram =
    Some (record { kind = step.Keep answer.body answer.tag; peer = from; datagram = datagram })

-- so is what is held
pub looked_held : (rows : List Row) (s : Step) (moment : Moment) (desk : Seen)
    (worker later : Worker) (version : Version) (from : Peer) (datagram : List ℕ) (keep : Keep)
    (before out : List (Peer × List ℕ))
    → version ≡ desk.version
    → s.kind ≡ step.Look
    → s.peer ≡ from
    → s.datagram ≡ datagram
    → before ≡ []
    → later.job ≡ Some (job.Keep keep)
    → MayStep rows s moment desk worker
    → ((history : List Entry)
    → VersionStandsFor 0 history version
    → IsStepOf s from worker.mids
    → Sends (looked false history moment.0 s (reading datagram)) before out worker.mids
    later.mids)
    → ((history : List Entry)
    → VersionStandsFor 0 history version
    → IsHeld from datagram (held_after false history moment.0 (reading datagram))
    (looked_as.Held keep))
    → Steps rows s desk later out
looked_held rows s moment desk worker later version from datagram keep before out seen kind by of
    empty has it sends holds =
    let look = look_of rows s moment desk worker version from seen by it in
    let left =
    held_left from datagram (held_after false (entries rows) moment.0 (reading datagram)) keep
    (holds (entries rows) look.history) in
    made-Steps rows s moment desk desk worker later out it
    (look-Made rows s moment desk worker later.mids datagram before out kind of empty it
    (sends (entries rows) look.history look.step_of))
    (subst (λ (held : Option machine.Job). HoldsJob (row rows s false ∷ rows) held later.job)
    (sym (look_leaves rows s moment desk worker datagram kind of it
    ∙ (ap (λ (held : Option Answer). keep_job held (row rows s false)) left.1
    ∙ mine left.0 left.2)))
    (subst (λ (own : Option Job).
    HoldsJob (row rows s false ∷ rows) (kept_by keep.answer keep.peer keep.datagram) own)
    (sym has) refl))
  where
    mine : (answer : Answer)
        → keep ≡ record { peer = from; datagram = datagram; answer = answer }
        → keep_job (Some answer) (row rows s false) ≡ kept_by keep.answer keep.peer keep.datagram
    mine answer is =
        rw is (ap₂ (kept_by answer) (ap (λ (t : Step). t.peer) (row-step rows s false) ∙ by)
        (ap (λ (t : Step). t.datagram) (row-step rows s false) ∙ of))
