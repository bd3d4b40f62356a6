-- What the row of a step leaves of the other workers, and the moment that it hands in.
use Rattle.std.proofs.Common.{◌≡◌, ℕ, ◌==◌, ◌≤◌, Bool, false, List, ◌∷◌, refl, arith}
use Rattle.journal_model.specs.declared.steps.Step.{Step}
use Rattle.journal_model.specs.declared.rows.Row.{Row}
use Rattle.journal_model.specs.Journal.{latest}
use Rattle.journal_model.specs.Rows.{row_moment, row}
use Rattle.journal_model.specs.Machine.{job_of, mids_drawn}

-- the job of another, and how many Message IDs it drew
pub job_of-other : (worker : ℕ) (rows : List Row) (s : Step) (starved : Bool)
    → (s.worker == worker) ≡ false
    → job_of worker (row rows s starved ∷ rows) ≡ job_of worker rows
unfolding job_of row
job_of-other worker rows s starved other = rw other refl

pub mids_drawn-other : (worker : ℕ) (rows : List Row) (s : Step) (starved : Bool)
    → (s.worker == worker) ≡ false
    → mids_drawn worker (row rows s starved ∷ rows) ≡ mids_drawn worker rows
unfolding mids_drawn row
mids_drawn-other worker rows s starved other = rw other refl

-- the greatest moment, where the one that is passed in is not below the others
pub latest-after : (rows : List Row) (s : Step) (starved : Bool)
    → latest rows ≤ s.handed.0
    → latest (row rows s starved ∷ rows) ≡ s.handed.0
unfolding latest row row_moment
latest-after rows s starved in_time = omega (arith, in_time)
