-- A journal of the machine is one of a desk, where what is passed in with each step is as a desk
-- wants it.
use Rattle.std.proofs.Common.{
  ◌≡◌,
  ℕ,
  ◌==◌,
  Bool,
  true,
  false,
  cond,
  List,
  [],
  ◌∷◌,
  length,
  Option,
  Some,
  None,
  refl,
  sym,
  ap,
  subst,
  ◌∙◌,
  eqb-true,
  arith,
}
use Rattle.std.specs.List.{list_any}
use Rattle.std.proofs.lemmas.Bool.{false≢true, ne_eqb}
use Rattle.rd_base.proofs.lemmas.Numbers.{eqb-refl}
use Rattle.message_model.specs.Reading.{reading}
use Rattle.event_model.specs.declared.notes.Note.{Note}
use Rattle.event_model.specs.declared.notes.Note.TheVariants as note
use Rattle.event_model.specs.Events.{has_event}
use Rattle.event_model.specs.Repeats.{is_admitting, is_ending_of}
use Rattle.event_model.specs.AdmissionOrder.{is_aside}
use Rattle.event_model.proofs.AsideLaws.{none_noted-from}
use Rattle.journal_model.specs.declared.steps.Step.{Step}
use Rattle.journal_model.specs.declared.steps.StepKind.{StepKind}
use Rattle.journal_model.specs.declared.steps.StepKind.TheVariants as step
use Rattle.journal_model.specs.declared.rows.Row.{Row}
use Rattle.journal_model.specs.Journal.{events, row_at, entries}
use Rattle.journal_model.specs.Rows.{row}
use Rattle.journal_model.specs.Machine.{
  Job,
  is_look_datagram,
  write_job,
  keep_job,
  job_after,
  job_of,
  MayBegin,
  hears,
  goes,
  ticks,
  IsJournal,
  begins,
}
use Rattle.journal_model.specs.Machine as machine
use Rattle.journal_model.specs.DeskJournal.{
  IsOpenFor,
  CommitsOpen,
  IsHanded,
  IsDeskJournal,
  begun,
  made,
}
use Rattle.journal_model.proofs.EventRows.{AllRows}
use Rattle.journal_model.proofs.RowEquations.{events-row, row-step}
use Rattle.journal_model.proofs.NoteKinds.{none_of}
use Rattle.journal_model.proofs.desks.TouchedExchanges.{
  Touches,
  aside,
  admits,
  ends,
  ends_at,
  row-Touches,
}
use Rattle.journal_model.proofs.desks.AdmissionsInOrder.{row_at-below, journal-not_ended}
use Rattle.journal_model.proofs.desks.OpenAdmissions.{admission_notes}
use Rattle.journal_model.specs.Looks.{held_after}
use Rattle.event_model.specs.KeptAnswers.{Answer}

-- each commit that a worker holds is of an open admission of its own
abbrev JobsOpen : List Row → Type 0
JobsOpen rows =
    (t : Step) (place : ℕ)
    → job_of t.worker rows
    ≡ Some (record { kind = step.Commit place; peer = t.peer; datagram = t.datagram })
    → IsOpenFor t place rows

-- so a commit that may be made is of one
begun_open : (rows : List Row) (s : Step)
    → JobsOpen rows
    → MayBegin rows s
    → CommitsOpen rows s s.kind
begun_open rows s jobs (hears none heard) =
    subst (CommitsOpen rows s) (sym heard) (by (is_look_datagram s.datagram))
  where
    by : (b : Bool) → CommitsOpen rows s (cond b step.Look step.Admit)
    by true = tt
    by false = tt
begun_open rows s jobs (goes holds) = by s.kind holds
  where
    by : (kind : StepKind)
        → job_of s.worker rows ≡ Some (record { kind = kind; peer = s.peer; datagram = s.datagram })
        → CommitsOpen rows s kind
    by (step.Commit place) held = jobs s place held
    by step.Admit held = tt
    by step.Look held = tt
    by (step.Keep body tag) held = tt
    by step.Tick held = tt
    by (step.Begin first) held = tt
begun_open rows s jobs (ticks tick) = subst (CommitsOpen rows s) (sym tick) tt
begun_open rows s jobs (begins begin) = subst (CommitsOpen rows s) (sym begin) tt

-- a row that does not end it leaves it open
still_open : (rows : List Row) (r : Row) (t : Step) (place : ℕ)
    → list_any (is_ending_of place) r.notes ≡ false
    → IsOpenFor t place rows
    → IsOpenFor t place (r ∷ rows)
unfolding row_at
still_open rows r t place none it = record {
  admission = it.admission;
  found =
      rw (ne_eqb place (length rows)
      (λ same. let low = row_at-below place rows it.admission it.found in absurd
      (omega (arith, same, low)))) it.found;
  admits = it.admits;
  worker = it.worker;
  peer = it.peer;
  datagram = it.datagram;
  not_ended =
      ap (has_event (is_ending_of place)) (events-row rows r)
      ∙ none_noted-from (is_ending_of place) (length rows) r.moment.0 r.step.word r.notes
      (events rows) none it.not_ended;
}

-- a row that ends nothing of a place: what it commits, if it commits, is of another place
ends_none : (kind : StepKind) (rows : List Row) (moment : ℕ) (s : Step) (notes : List Note)
    (place : ℕ)
    → ((q : ℕ) → kind ≡ step.Commit q → (q == place) ≡ false)
    → Touches kind rows moment s notes
    → list_any (is_ending_of place) notes ≡ false
ends_none kind rows moment s notes place other (aside all) =
    none_of is_aside (is_ending_of place) never notes all
  where
    never : (n : Note) → is_aside n ≡ true → is_ending_of place n ≡ false
    never (note.Settled p reply) h = absurd (false≢true h)
    never (note.Failed p) h = absurd (false≢true h)
    never _ h = refl
ends_none kind rows moment s notes place other (admits m here read asks is none) =
    ap (list_any (is_ending_of place)) is
ends_none kind rows moment s notes place other (ends q here all) =
    none_of (ends_at q) (is_ending_of place) never notes all
  where
    never : (n : Note) → ends_at q n ≡ true → is_ending_of place n ≡ false
    never (note.Settled p reply) h =
        subst (λ x. (x == place) ≡ false) (sym (eqb-true p q h)) (other q here)
    never (note.Failed p) h =
        subst (λ x. (x == place) ≡ false) (sym (eqb-true p q h)) (other q here)
    never _ h = refl

-- the workers of one admission are one
same_worker : (rows : List Row) (s t : Step) (place : ℕ)
    → IsOpenFor s place rows
    → IsOpenFor t place rows
    → s.worker ≡ t.worker
same_worker rows s t place it other =
    let both : Some it.admission ≡ Some other.admission = sym it.found ∙ other.found in
    let same : it.admission ≡ other.admission = cc in
    sym it.worker ∙ (ap (λ (r : Row). r.step.worker) same ∙ other.worker)

-- the kind of a job
kind_of : Option Job → StepKind
kind_of None = step.Tick
kind_of (Some j) = j.kind

-- a look leaves no commit
look_leaves : (held : Option Answer) (r : Row) (job : Job) (place : ℕ)
    → keep_job held r ≡ Some job
    → job.kind ≡ step.Commit place
    → ⊥
unfolding kind_of
look_leaves None r job place e commits = absurd (let h : None ≡ Some job = e in cc)
look_leaves (Some found) r job place e commits =
    absurd
    (let h : step.Keep found.body found.tag ≡ step.Commit place = ap kind_of e ∙ commits in cc)

-- a row that admits a write leaves the commit of its own place
record Admits (r : Row) (rows : List Row) (t : Step) (place : ℕ) : Type 0 where
  place_is : length rows ≡ place
  peer : r.step.peer ≡ t.peer
  datagram : r.step.datagram ≡ t.datagram
  some : list_any is_admitting r.notes ≡ true

admission_leaves : (notes : List Note) (r : Row) (rows : List Row) (t : Step) (place : ℕ)
    → r.notes ≡ notes
    → write_job notes r rows
    ≡ Some (record { kind = step.Commit place; peer = t.peer; datagram = t.datagram })
    → Admits r rows t place
admission_leaves (note.Admitted peer mid ∷ notes) r rows t place is e =
    let left : Job = record {
      kind = step.Commit (length rows);
      peer = r.step.peer;
      datagram = r.step.datagram;
    } in
    let held : Job = record { kind = step.Commit place; peer = t.peer; datagram = t.datagram } in
    let both : Some left ≡ Some held = e in
    let job : left ≡ held = cc in
    let kinds : step.Commit (length rows) ≡ step.Commit place = ap (λ (j : Job). j.kind) job in
    let same : length rows ≡ place = cc in
    record {
      place_is = same;
      peer = ap (λ (j : Job). j.peer) job;
      datagram = ap (λ (j : Job). j.datagram) job;
      some = ap (list_any is_admitting) is;
    }
admission_leaves _ r rows t place is e =
    absurd (let h :
    None
    ≡ Some
    (record { kind = step.Commit place; peer = t.peer; datagram = t.datagram }) =
    e in
    cc)

-- the admission of that row is open
opened : (rows : List Row) (s : Step) (starved : Bool) (t : Step) (place : ℕ)
    → IsDeskJournal rows
    → s.worker ≡ t.worker
    → Admits (row rows s starved) rows t place
    → IsOpenFor t place (row rows s starved ∷ rows)
unfolding row_at row
opened rows s starved t place journal same it =
    let its =
    admission_notes s.kind rows (row rows s starved).moment.0 s (row rows s starved).notes
    (row-Touches rows s starved) it.some in
    subst (λ n. IsOpenFor t n (row rows s starved ∷ rows)) it.place_is (record {
      admission = row rows s starved;
      found = rw (eqb-refl (length rows)) refl;
      admits = it.some;
      worker = same;
      peer = it.peer;
      datagram = it.datagram;
      not_ended =
          ap (has_event (is_ending_of (length rows))) (events-row rows (row rows s starved))
          ∙ none_noted-from (is_ending_of (length rows)) (length rows) (row rows s starved).moment.0
          (row rows s starved).step.word (row rows s starved).notes (events rows)
          (ap (list_any (is_ending_of (length rows))) its.1) (journal-not_ended rows journal);
    })

-- the jobs with one row more
jobs_step : (rows : List Row) (s : Step) (starved : Bool)
    → IsDeskJournal rows
    → JobsOpen rows
    → CommitsOpen rows s s.kind
    → JobsOpen (row rows s starved ∷ rows)
unfolding job_of row
jobs_step rows s starved journal jobs commits t place held = by (s.worker == t.worker) refl held
  where
    own : (kind : StepKind) → s.kind ≡ kind → s.worker ≡ t.worker
        → job_after kind (row rows s starved) rows (job_of t.worker rows)
        ≡ Some (record { kind = step.Commit place; peer = t.peer; datagram = t.datagram })
        → IsOpenFor t place (row rows s starved ∷ rows)
    own step.Admit is same e =
        opened rows s starved t place journal same
        (admission_leaves (row rows s starved).notes (row rows s starved) rows t place refl e)
    own step.Look is same e =
        absurd (look_leaves (held_after (row rows s starved).starved (entries rows)
        (row rows s starved).moment.0 (reading (row rows s starved).step.datagram))
        (row rows s starved)
        (record { kind = step.Commit place; peer = t.peer; datagram = t.datagram }) place e
        refl)
    own (step.Commit q) is same e =
        absurd (let h :
        None
        ≡ Some
        (record { kind = step.Commit place; peer = t.peer; datagram = t.datagram })
        =
        e in
        cc)
    own (step.Keep body tag) is same e =
        absurd (let h :
        None
        ≡ Some
        (record { kind = step.Commit place; peer = t.peer; datagram = t.datagram })
        =
        e in
        cc)
    own step.Tick is same e =
        still_open rows (row rows s starved) t place
        (ends_none s.kind rows (row rows s starved).moment.0 s (row rows s starved).notes place
        (λ q commit. absurd (let h : step.Tick ≡ step.Commit q = sym is ∙ commit in cc))
        (row-Touches rows s starved)) (jobs t place e)
    own (step.Begin first) is same e =
        still_open rows (row rows s starved) t place
        (ends_none s.kind rows (row rows s starved).moment.0 s (row rows s starved).notes place
        (λ q commit. absurd (let h : step.Begin first ≡ step.Commit q = sym is ∙ commit in cc))
        (row-Touches rows s starved)) (jobs t place e)

    differs : (s.worker == t.worker) ≡ false
        → IsOpenFor t place rows
        → (q : ℕ)
        → s.kind ≡ step.Commit q
        → (q == place) ≡ false
    differs other mine q commit = it (q == place) refl
      where
        its : IsOpenFor s q rows
        its = subst (CommitsOpen rows s) commit commits

        it : (b : Bool) → (q == place) ≡ b → (q == place) ≡ false
        it false e = e
        it true e =
            let same : s.worker ≡ t.worker =
            same_worker rows s t place
            (subst (λ n. IsOpenFor s n rows) (eqb-true q place e) its) mine in
            absurd (false≢true
            (sym other ∙ subst (λ w. (s.worker == w) ≡ true) same (eqb-refl s.worker)))

    by : (b : Bool)
        → (s.worker == t.worker) ≡ b
        → cond b (job_after s.kind (row rows s starved) rows (job_of t.worker rows))
        (job_of t.worker rows)
        ≡ Some (record { kind = step.Commit place; peer = t.peer; datagram = t.datagram })
        → IsOpenFor t place (row rows s starved ∷ rows)
    by true same e = own s.kind refl (eqb-true s.worker t.worker same) e
    by false other e =
        let mine : IsOpenFor t place rows = jobs t place e in
        still_open rows (row rows s starved) t place
        (ends_none s.kind rows (row rows s starved).moment.0 s (row rows s starved).notes place
        (differs other mine) (row-Touches rows s starved)) mine

-- with the jobs that are held
record WithJobs (rows : List Row) : Type 0 where
  journal : IsDeskJournal rows
  jobs : JobsOpen rows

with_jobs : (rows : List Row)
    → IsJournal rows
    → AllRows (λ before r. IsHanded before r.step) rows
    → WithJobs rows
unfolding job_of
with_jobs [] machine.begun all = record {
  journal = begun;
  jobs =
      λ t place held.
      absurd (let h :
      None
      ≡ Some
      (record {
        kind = step.Commit place;
        peer = t.peer;
        datagram = t.datagram;
      }) =
      held in
      cc);
}
with_jobs (r ∷ before) (machine.made {rows} {s} starved journal may) all =
    let h : WithJobs before = with_jobs before journal all.1 in
    let commits : CommitsOpen before s s.kind = begun_open before s h.jobs may.begin in
    record {
      journal =
          made s starved h.journal (record {
            commits = commits;
            handed = subst (IsHanded before) (row-step before s starved)
                all.0;
          });
      jobs = jobs_step before s starved h.journal h.jobs commits;
    }

-- so it is a journal of a desk
pub journal-IsDeskJournal : (rows : List Row)
    → IsJournal rows
    → AllRows (λ before r. IsHanded before r.step) rows
    → IsDeskJournal rows
journal-IsDeskJournal rows journal all = (with_jobs rows journal all).journal
