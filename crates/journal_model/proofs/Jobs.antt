-- The jobs that workers hold: none is of a datagram that is yet to be heard, and a keep is of the
-- body that the worker's last look built.
use Rattle.std.proofs.Common.{
  ◌≡◌,
  ℕ,
  ◌==◌,
  ◌&&◌,
  Bool,
  true,
  false,
  cond,
  List,
  [],
  ◌∷◌,
  length,
  Option,
  Some,
  None,
  refl,
  sym,
  ap,
  subst,
  ◌∙◌,
}
use Rattle.std.proofs.lemmas.Bool.{false≢true}
use Rattle.message_model.specs.Reading.{reading}
use Rattle.event_model.specs.declared.notes.Note.{Note}
use Rattle.event_model.specs.declared.notes.Note.TheVariants as note
use Rattle.journal_model.specs.declared.steps.Step.{Step}
use Rattle.journal_model.specs.declared.steps.StepKind.{StepKind}
use Rattle.journal_model.specs.declared.steps.StepKind.TheVariants as step
use Rattle.journal_model.specs.declared.rows.Row.{Row}
use Rattle.journal_model.specs.Journal.{is_look, is_heard, entries}
use Rattle.journal_model.specs.Looks.{held_after}
use Rattle.event_model.specs.KeptAnswers.{Answer}
use Rattle.journal_model.specs.Machine.{
  is_look_datagram,
  hearing,
  Job,
  write_job,
  keep_job,
  job_after,
  job_of,
  MayBegin,
  hears,
  goes,
  ticks,
  begins,
}
use Rattle.journal_model.specs.PlacedRows.{Within, Placed, last_row}
use Rattle.journal_model.specs.BodyFormers.{look_of}

-- the job of an admission is its commit
write_commits : (notes : List Note) (r : Row) (before : List Row) (job : Job)
    → write_job notes r before ≡ Some job
    → job.kind ≡ step.Commit (length before)
write_commits (note.Admitted peer mid ∷ notes) r before job e = ap kind_of (sym e)
  where
    kind_of : Option Job → StepKind
    kind_of None = step.Commit (length before)
    kind_of (Some j) = j.kind
write_commits _ r before job e = absurd (let h : None ≡ Some job = e in cc)

-- the job of a look is its keep
pub record Keeping (r : Row) (before : List Row) (job : Job) : Type 0 where
  pub found : Answer
  pub held : held_after r.starved (entries before) r.moment.0 (reading r.step.datagram) ≡ Some found
  pub kind : job.kind ≡ step.Keep found.body found.tag
  pub datagram : job.datagram ≡ r.step.datagram

-- so it is of the job that a look leaves
keep_keeps : (held : Option Answer) (r : Row) (before : List Row) (job : Job)
    → held_after r.starved (entries before) r.moment.0 (reading r.step.datagram) ≡ held
    → keep_job held r ≡ Some job
    → Keeping r before job
keep_keeps (Some found) r before job holds e =
    let same :
    record
    { kind = step.Keep found.body found.tag; peer = r.step.peer; datagram = r.step.datagram }
    ≡ job =
    cc in
    subst (λ (j : Job). Keeping r before j) same
    (record { found = found; held = holds; kind = refl; datagram = refl })
keep_keeps None r before job holds e = absurd (let h : None ≡ Some job = e in cc)

-- no job is of a datagram that is yet to be heard
pub job_not_heard : (worker : ℕ) (rows : List Row) (job : Job)
    → job_of worker rows ≡ Some job
    → is_heard job.kind ≡ false
unfolding job_of
job_not_heard worker [] job e = absurd (let h : None ≡ Some job = e in cc)
job_not_heard worker (r ∷ before) job e =
    by (r.step.worker == worker) e (λ h. job_not_heard worker before job h)
  where
    own : (kind : StepKind)
        → job_after kind r before (job_of worker before) ≡ Some job
        → (job_of worker before ≡ Some job → is_heard job.kind ≡ false)
        → is_heard job.kind ≡ false
    own step.Admit h more = ap is_heard (write_commits r.notes r before job h)
    own step.Look h more =
        ap is_heard
        (keep_keeps (held_after r.starved (entries before) r.moment.0 (reading r.step.datagram))
        r before job refl h).kind
    own (step.Commit place) h more = absurd (let no : None ≡ Some job = h in cc)
    own (step.Keep body tag) h more = absurd (let no : None ≡ Some job = h in cc)
    own step.Tick h more = more h
    own (step.Begin first) h more = more h

    by : (b : Bool)
        → cond b (job_after r.step.kind r before (job_of worker before)) (job_of worker before)
        ≡ Some job
        → (job_of worker before ≡ Some job → is_heard job.kind ≡ false)
        → is_heard job.kind ≡ false
    by true h more = own r.step.kind h more
    by false h more = more h

-- so what is heard is heard as its datagram says
-- An end theorem: nothing here cites it.
pub heard_as_hearing : (rows : List Row) (s : Step)
    → MayBegin rows s
    → is_heard s.kind ≡ true
    → s.kind ≡ hearing s.datagram
heard_as_hearing rows s (hears none heard) e = heard
heard_as_hearing rows s (goes holds) e =
    absurd (false≢true (sym (job_not_heard s.worker rows
    (record { kind = s.kind; peer = s.peer; datagram = s.datagram }) holds)
    ∙ e))
heard_as_hearing rows s (ticks tick) e = absurd (false≢true (sym (ap is_heard tick) ∙ e))
heard_as_hearing rows s (begins begin) e = absurd (false≢true (sym (ap is_heard begin) ∙ e))

-- one that is admitted is no look
pub heard_no_look : (datagram : List ℕ)
    → step.Admit ≡ hearing datagram
    → is_look_datagram datagram ≡ false
heard_no_look datagram e = by (is_look_datagram datagram) e
  where
    by : (b : Bool) → step.Admit ≡ cond b step.Look step.Admit → b ≡ false
    by true h = absurd (let no : step.Admit ≡ step.Look = h in cc)
    by false h = refl

-- and one that is looked at is one
pub heard_a_look : (datagram : List ℕ)
    → step.Look ≡ hearing datagram
    → is_look_datagram datagram ≡ true
heard_a_look datagram e = by (is_look_datagram datagram) e
  where
    by : (b : Bool) → step.Look ≡ cond b step.Look step.Admit → b ≡ true
    by true h = refl
    by false h = absurd (let no : step.Look ≡ step.Admit = h in cc)

-- ---- keeps

-- the look whose job a worker holds
pub record KeepsOf (rows : List Row) (worker : ℕ) (job : Job) : Type 0 where
  pub look : Placed
  pub found : look_of worker rows ≡ Some look
  pub within : Within rows look.before look.row
  pub is_one : look.row.step.kind ≡ step.Look
  pub keeps : Keeping look.row look.before job

-- so it is of each job to keep a body
pub keeps_of : (worker : ℕ) (rows : List Row) (job : Job) (body tag : List ℕ)
    → job_of worker rows ≡ Some job
    → job.kind ≡ step.Keep body tag
    → KeepsOf rows worker job
unfolding job_of last_row
keeps_of worker [] job body tag e keep = absurd (let h : None ≡ Some job = e in cc)
keeps_of worker (r ∷ before) job body tag e keep =
    by (r.step.worker == worker) refl e (λ h. keeps_of worker before job body tag h keep)
  where
    after : (is_look r.step.kind && r.step.worker == worker) ≡ false
        → KeepsOf before worker job
        → KeepsOf (r ∷ before) worker job
    after other it = record {
      look = it.look;
      found = rw other it.found;
      within = record {
        later = r ∷ it.within.later;
        whole = ap (λ (rows : List Row). r ∷ rows) it.within.whole;
      };
      is_one = it.is_one;
      keeps = it.keeps;
    }

    and_false : (b : Bool) → (b && false) ≡ false
    and_false true = refl
    and_false false = refl

    own : (kind : StepKind)
        → r.step.kind ≡ kind
        → (r.step.worker == worker) ≡ true
        → job_after kind r before (job_of worker before) ≡ Some job
        → (job_of worker before ≡ Some job → KeepsOf before worker job)
        → KeepsOf (r ∷ before) worker job
    own step.Admit is same h more =
        absurd (let no : step.Commit (length before) ≡ step.Keep body tag =
        sym (write_commits r.notes r before job h) ∙ keep in
        cc)
    own step.Look is same h more = record {
      look = record { row = r; before = before };
      found = rw (is, same) refl;
      within = record { later = []; whole = refl };
      is_one = is;
      keeps =
          keep_keeps (held_after r.starved (entries before) r.moment.0 (reading r.step.datagram)) r
          before job refl h;
    }
    own (step.Commit place) is same h more = absurd (let no : None ≡ Some job = h in cc)
    own (step.Keep others current) is same h more = absurd (let no : None ≡ Some job = h in cc)
    own step.Tick is same h more = after (rw is refl) (more h)
    own (step.Begin first) is same h more = after (rw is refl) (more h)

    by : (b : Bool)
        → (r.step.worker == worker) ≡ b
        → cond b (job_after r.step.kind r before (job_of worker before)) (job_of worker before)
        ≡ Some job
        → (job_of worker before ≡ Some job → KeepsOf before worker job)
        → KeepsOf (r ∷ before) worker job
    by true same h more = own r.step.kind refl same h more
    by false other h more = after (rw other (and_false (is_look r.step.kind))) (more h)
