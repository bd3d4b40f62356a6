-- The job and the Message IDs of a worker after one row more: what the row leaves it with, and what
-- it keeps.
use Rattle.std.proofs.Common.{
  ◌≡◌,
  ℕ,
  ◌<◌,
  ◌+◌,
  ◌%◌,
  ◌^◌,
  ◌==◌,
  zero,
  suc,
  Bool,
  true,
  false,
  cond,
  List,
  [],
  ◌∷◌,
  length,
  Option,
  Some,
  None,
  refl,
  sym,
  ap,
  subst,
  ◌∙◌,
  arith,
}
use Rattle.std.proofs.lemmas.Bool.{false≢true, ne_eqb}
use Rattle.rd_base.proofs.lemmas.Numbers.{eqb-refl}
use Rattle.journal_model.specs.declared.steps.Step.{Step}
use Rattle.journal_model.specs.declared.rows.Row.{Row}
use Rattle.journal_model.specs.Journal.{is_heard, row_at}
use Rattle.journal_model.specs.Machine.{
  write_job,
  job_after,
  job_of,
  mids_drawn,
  MayBegin,
  hears,
  goes,
  ticks,
  begins,
}
use Rattle.journal_model.specs.Machine as machine
use Rattle.journal_model.specs.UnfinishedRow.{drawing}
use Rattle.journal_model.proofs.Jobs.{job_not_heard}
use Rattle.journal_model.proofs.desks.AdmissionsInOrder.{row_at-below}
use Rattle.rd_desk.specs.declared.jobs.Job.{Job}
use Rattle.rd_desk.specs.declared.jobs.Job.TheVariants as job
use Rattle.trace_replay.specs.Machines.{IsJobOf, HoldsJob}

-- ---- the Message IDs

-- how many it drew is a number of 64 bits
mids-below : (worker : ℕ) (rows : List Row) → mids_drawn worker rows < 2 ^ 64
unfolding mids_drawn
mids-below worker [] = omega arith
mids-below worker (r ∷ before) = by (r.step.worker == worker) (mids-below worker before)
  where
    by : (b : Bool)
        → mids_drawn worker before < 2 ^ 64
        → cond b ((mids_drawn worker before + r.drew) % 2 ^ 64) (mids_drawn worker before) < 2 ^ 64
    by true below = omega arith
    by false below = below

-- so many more, as 64 bits count
drawing-is : (more drawn : ℕ) → drawn < 2 ^ 64 → drawing more drawn ≡ (drawn + more) % 2 ^ 64
drawing-is zero drawn below = omega (arith, below)
drawing-is (suc n) drawn below = refl

-- its own row draws what the row says
own_drawn : (rows : List Row) (r : Row)
    → mids_drawn r.step.worker (r ∷ rows) ≡ (mids_drawn r.step.worker rows + r.drew) % 2 ^ 64
unfolding mids_drawn
own_drawn rows r = rw (eqb-refl r.step.worker) refl

pub drawn-more : (rows : List Row) (r : Row) (s : Step)
    → r.step ≡ s
    → drawing r.drew (mids_drawn s.worker rows) ≡ mids_drawn s.worker (r ∷ rows)
drawn-more rows r s is =
    subst (λ (t : Step). drawing r.drew (mids_drawn t.worker rows) ≡ mids_drawn t.worker (r ∷ rows))
    is
    (drawing-is r.drew (mids_drawn r.step.worker rows) (mids-below r.step.worker rows)
    ∙ sym (own_drawn rows r))

-- ---- the job

-- its own row leaves it what the row says
own_job : (rows : List Row) (r : Row)
    → job_of r.step.worker (r ∷ rows) ≡ job_after r.step.kind r rows (job_of r.step.worker rows)
unfolding job_of
own_job rows r = rw (eqb-refl r.step.worker) refl

pub job-after : (rows : List Row) (r : Row) (s : Step)
    → r.step ≡ s
    → job_of s.worker (r ∷ rows) ≡ job_after s.kind r rows (job_of s.worker rows)
job-after rows r s is =
    subst
    (λ (t : Step). job_of t.worker (r ∷ rows) ≡ job_after t.kind r rows (job_of t.worker rows))
    is (own_job rows r)

-- a row at a place stands there with one row more
row_at-more : (rows : List Row) (r admission : Row) (place : ℕ)
    → row_at place rows ≡ Some admission
    → row_at place (r ∷ rows) ≡ Some admission
unfolding row_at
row_at-more rows r admission place found =
    rw (ne_eqb place (length rows)
    (λ same. let low = row_at-below place rows admission found in absurd
    (omega (arith, same, low)))) found

pub row_at-own : (rows : List Row) (r : Row) → row_at (length rows) (r ∷ rows) ≡ Some r
unfolding row_at
row_at-own rows r = rw (eqb-refl (length rows)) refl

-- a job that is held stays one of the journal with a row more
job-more : (rows : List Row) (r : Row) (held : machine.Job) (mine : Job)
    → IsJobOf rows held mine
    → IsJobOf (r ∷ rows) held mine
job-more rows r held (job.Write write) it =
    (it.0, it.1, it.2, row_at-more rows r it.1 it.0 it.3, it.4)
job-more rows r held (job.Keep keep) it = it

pub held-more : (rows : List Row) (r : Row) (held : Option machine.Job) (mine : Option Job)
    → HoldsJob rows held mine
    → HoldsJob (r ∷ rows) held mine
held-more rows r None None it = it
held-more rows r (Some held) (Some mine) it = job-more rows r held mine it
held-more rows r None (Some mine) it = it
held-more rows r (Some held) None it = it

-- where none is held, the worker has none
pub held-none : (rows : List Row) (held : Option machine.Job) (mine : Option Job)
    → held ≡ None
    → HoldsJob rows held mine
    → mine ≡ None
held-none rows held None none it = refl
held-none rows None (Some mine) none it = absurd it
held-none rows (Some held) (Some mine) none it = absurd (let no : Some held ≡ None = none in cc)

-- who may hear holds none
pub hearer-idle : (rows : List Row) (s : Step)
    → MayBegin rows s
    → is_heard s.kind ≡ true
    → job_of s.worker rows ≡ None
hearer-idle rows s (hears none heard) e = none
hearer-idle rows s (goes holds) e =
    absurd (false≢true (sym (job_not_heard s.worker rows
    (record { kind = s.kind; peer = s.peer; datagram = s.datagram }) holds)
    ∙ e))
hearer-idle rows s (ticks tick) e = absurd (false≢true (sym (ap is_heard tick) ∙ e))
hearer-idle rows s (begins begin) e = absurd (false≢true (sym (ap is_heard begin) ∙ e))
