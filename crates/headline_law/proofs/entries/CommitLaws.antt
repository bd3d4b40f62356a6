-- Each admission is committed at most once.
use Rattle.std.proofs.Common.{
  ◌≡◌,
  ℕ,
  ◌<◌,
  ◌≤◌,
  ◌==◌,
  Bool,
  true,
  false,
  cond,
  List,
  [],
  ◌∷◌,
  ◌++◌,
  length,
  Option,
  Some,
  None,
  option_map,
  refl,
  sym,
  ap,
  subst,
  ◌∙◌,
  eqb-true,
  arith,
}
use Rattle.std.specs.Prelude.{⊤}
use Rattle.std.proofs.lemmas.Bool.{false≢true}
use Rattle.message_model.specs.Reading.{reading}
use Rattle.event_model.specs.declared.notes.Note.{Note}
use Rattle.event_model.specs.declared.notes.Note.TheVariants as note
use Rattle.journal_model.specs.declared.steps.Step.{Step}
use Rattle.journal_model.specs.declared.steps.StepKind.{StepKind}
use Rattle.journal_model.specs.declared.steps.StepKind.TheVariants as step
use Rattle.journal_model.specs.declared.rows.Row.{Row}
use Rattle.journal_model.specs.Journal.{entries, row_at}
use Rattle.journal_model.specs.Rows.{row_moment, row}
use Rattle.event_model.specs.KeptAnswers.{Answer}
use Rattle.journal_model.specs.Looks.{held_after}
use Rattle.journal_model.specs.Machine.{
  is_look_datagram,
  Job,
  write_job,
  keep_job,
  job_after,
  job_of,
  MayBegin,
  hears,
  goes,
  ticks,
  IsJournal,
  begun,
  made,
  begins,
}
use Rattle.journal_model.specs.PlacedRows.{Within, Commits}
use Rattle.journal_model.proofs.entries.JournalLaws.{Made, each_row}
use Rattle.rd_base.proofs.lemmas.Numbers.{eqb-refl}

-- no row commits the write of a place
abbrev pub NoCommit : ℕ → List Row → Type 0
NoCommit place [] = ⊤
NoCommit place (r ∷ before) = (Commits r place → ⊥) × NoCommit place before

-- each commit is of an earlier place
abbrev CommitsBelow : List Row → Type 0
CommitsBelow [] = ⊤
CommitsBelow (r ∷ before) =
    ((place : ℕ) → Commits r place → place < length before) × CommitsBelow before

-- so a place that is yet to come was not committed
not_yet : (rows : List Row) (n : ℕ) → CommitsBelow rows → length rows ≤ n → NoCommit n rows
not_yet [] n below long = tt
not_yet (r ∷ before) n below long = (
  λ commits. let early : n < length before = below.0 n commits in absurd
      (omega (arith, early, long)),
  not_yet before n below.1 (omega (arith, long)),
)

-- the worker of the row at a place
abbrev worker_at : ℕ → List Row → Option ℕ
worker_at place rows = option_map (λ (r : Row). r.step.worker) (row_at place rows)

-- a worker may commit the write of a place: its own row admitted it, and nobody committed it since
pub record MayCommit (rows : List Row) (worker place : ℕ) : Type 0 where
  pub below : place < length rows
  pub admitted_by : worker_at place rows ≡ Some worker
  pub fresh : NoCommit place rows

-- each worker that holds such a job may commit it
abbrev pub JobsMayCommit : List Row → Type 0
JobsMayCommit rows =
    (worker place : ℕ) (job : Job)
    → job_of worker rows ≡ Some job
    → job.kind ≡ step.Commit place
    → MayCommit rows worker place

-- a datagram that is heard is no commit
hearing_no_commit : (b : Bool) (place : ℕ) → cond b step.Look step.Admit ≡ step.Commit place → ⊥
hearing_no_commit true place e = let h : step.Look ≡ step.Commit place = e in absurd cc
hearing_no_commit false place e = let h : step.Admit ≡ step.Commit place = e in absurd cc

-- a commit that may be made is of a job that is held
begun_may_commit : (rows : List Row) (s : Step) (place : ℕ)
    → JobsMayCommit rows
    → MayBegin rows s
    → s.kind ≡ step.Commit place
    → MayCommit rows s.worker place
begun_may_commit rows s place jobs (hears none heard) e =
    absurd (hearing_no_commit (is_look_datagram s.datagram) place (sym heard ∙ e))
begun_may_commit rows s place jobs (goes holds) e =
    jobs s.worker place (record { kind = s.kind; peer = s.peer; datagram = s.datagram }) holds e
begun_may_commit rows s place jobs (ticks tick) e =
    absurd (let h : step.Tick ≡ step.Commit place = sym tick ∙ e in cc)
begun_may_commit rows s place jobs (begins {first = first} begin) e =
    absurd (let h : step.Begin first ≡ step.Commit place = sym begin ∙ e in cc)

-- what a worker may commit, it may after a row that does not commit it
MayCommit-row : (rows : List Row) (r : Row) (worker place : ℕ)
    → MayCommit rows worker place
    → (Commits r place → ⊥)
    → MayCommit (r ∷ rows) worker place
unfolding row_at
MayCommit-row rows r worker place held not_here = record {
  below = omega (arith, held.below);
  admitted_by =
      subst (λ b.
      option_map (λ (x : Row). x.step.worker) (cond b (Some r) (row_at place rows))
      ≡ Some worker) (sym (other (place == length rows) refl)) held.admitted_by;
  fresh = (not_here, held.fresh);
}
  where
    other : (b : Bool) → (place == length rows) ≡ b → (place == length rows) ≡ false
    other true e =
        absurd (let same : place ≡ length rows = eqb-true place (length rows) e in
        let low = held.below in omega (arith, same, low))
    other false e = e

-- an admission leaves its worker with the job of its own place
after_admission : (rows : List Row) (r : Row) (place : ℕ) (notes : List Note) (job : Job)
    → CommitsBelow rows
    → r.step.kind ≡ step.Admit
    → write_job notes r rows ≡ Some job
    → job.kind ≡ step.Commit place
    → MayCommit (r ∷ rows) r.step.worker place
unfolding row_at
after_admission rows r place (note.Admitted peer mid ∷ notes) job below kind e commits =
    let kinds : step.Commit (length rows) ≡ step.Commit place =
    ap (λ (j : Option Job). kind_of j) e ∙ commits in
    let here : length rows ≡ place = cc in
    subst (λ n. MayCommit (r ∷ rows) r.step.worker n) here (record {
      below = omega arith;
      admitted_by = rw (eqb-refl (length rows)) refl;
      fresh = (
        λ commit. absurd
            (let h : step.Admit ≡ step.Commit (length rows) = sym kind ∙ commit in cc),
        not_yet
            rows (length rows) below (omega arith),
      );
    })
  where
    kind_of : Option Job → StepKind
    kind_of None = step.Tick
    kind_of (Some j) = j.kind
after_admission rows r place _ job below kind e commits = absurd (let h : None ≡ Some job = e in cc)

-- a look leaves no such job
after_look : (r : Row) (place : ℕ) (held : Option Answer) (job : Job)
    → keep_job held r ≡ Some job
    → job.kind ≡ step.Commit place
    → ⊥
after_look r place (Some found) job e commits =
    let h : step.Keep found.body found.tag ≡ step.Commit place = ap kind_of e ∙ commits in cc
  where
    kind_of : Option Job → StepKind
    kind_of None = step.Tick
    kind_of (Some j) = j.kind
after_look r place None job e commits = absurd (let h : None ≡ Some job = e in cc)

-- the jobs with one row more
jobs_step : (rows : List Row) (s : Step) (starved : Bool)
    → CommitsBelow rows
    → JobsMayCommit rows
    → MayBegin rows s
    → JobsMayCommit (row rows s starved ∷ rows)
unfolding job_of row
jobs_step rows s starved below jobs may worker place job held commits =
    by (s.worker == worker) refl held
  where
    r : Row
    r = row rows s starved

    own : (kind : StepKind)
        → s.kind ≡ kind
        → job_after kind (row rows s starved) rows (job_of worker rows) ≡ Some job
        → s.worker ≡ worker
        → MayCommit (row rows s starved ∷ rows) worker place
    own step.Admit kind e same =
        subst (λ w. MayCommit (row rows s starved ∷ rows) w place) same
        (after_admission rows (row rows s starved) place (row rows s starved).notes job below
        kind e commits)
    own step.Look kind e same =
        absurd (after_look (row rows s starved) place
        (held_after starved (entries rows) (row_moment rows s) (reading s.datagram)) job e
        commits)
    own (step.Commit q) kind e same = absurd (let h : None ≡ Some job = e in cc)
    own (step.Keep body tag) kind e same = absurd (let h : None ≡ Some job = e in cc)
    own step.Tick kind e same =
        MayCommit-row rows (row rows s starved) worker place (jobs worker place job e commits)
        (λ commit. absurd (let h : step.Tick ≡ step.Commit place = sym kind ∙ commit in cc))
    own (step.Begin first) kind e same =
        MayCommit-row rows (row rows s starved) worker place (jobs worker place job e commits)
        (λ commit. absurd
        (let h : step.Begin first ≡ step.Commit place = sym kind ∙ commit in cc))

    by : (b : Bool)
        → (s.worker == worker) ≡ b
        → cond b (job_after s.kind (row rows s starved) rows (job_of worker rows))
        (job_of worker rows)
        ≡ Some job
        → MayCommit (row rows s starved ∷ rows) worker place
    by true same e = own s.kind refl e (eqb-true s.worker worker same)
    by false other e =
        let mine : MayCommit rows worker place = jobs worker place job e commits in
        MayCommit-row rows (row rows s starved) worker place mine (λ commit.
        let its : MayCommit rows s.worker place = begun_may_commit rows s place jobs may commit in
        let both : Some s.worker ≡ Some worker = sym its.admitted_by ∙ mine.admitted_by in
        let same : s.worker ≡ worker = cc in
        false≢true (sym other ∙ subst (λ w. (s.worker == w) ≡ true) same (eqb-refl s.worker)))

-- in each journal, commits are of earlier places, and jobs may be committed
record Orderly (rows : List Row) : Type 0 where
  below : CommitsBelow rows
  jobs : JobsMayCommit rows

orderly : (rows : List Row) → IsJournal rows → Orderly rows
unfolding job_of row
orderly [] begun = record {
  below = tt;
  jobs = λ worker place job held commits. absurd (let h : None ≡ Some job = held in cc);
}
orderly (r ∷ before) (made {rows} {s} starved journal may) =
    let h : Orderly before = orderly before journal in
    record {
      below = (
        λ place commits. (begun_may_commit before s place h.jobs may.begin commits).below,
        h.below,
      );
      jobs = jobs_step before s starved h.below h.jobs may.begin;
    }

-- what nobody committed, no row committed
nobody : (rows before : List Row) (r : Row) (place : ℕ)
    → NoCommit place rows
    → Within rows before r
    → Commits r place
    → ⊥
nobody rows before r place fresh within commits =
    after within.later (subst (NoCommit place) within.whole fresh)
  where
    after : (later : List Row) → NoCommit place (later ++ r ∷ before) → ⊥
    after [] h = h.0 commits
    after (x ∷ later) h = after later h.1

-- each admission is committed at most once
pub journal-once : (rows before earlier : List Row) (r other : Row) (place : ℕ)
    → IsJournal rows
    → Within rows before r
    → Within before earlier other
    → Commits r place
    → Commits other place
    → ⊥
unfolding row
journal-once rows before earlier r other place journal within further commits again =
    let it : Made before r = each_row rows before r journal within in
    let kind : it.step.kind ≡ step.Commit place =
    ap (λ (x : Row). x.step.kind) (sym it.is) ∙ commits in
    let held : MayCommit before it.step.worker place =
    begun_may_commit before it.step place (orderly before it.journal).jobs it.may.begin kind in
    nobody before earlier other place held.fresh further again
