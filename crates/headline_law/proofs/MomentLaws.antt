-- The moment of a row is the greatest that was passed in so far.
use Rattle.std.proofs.Common.{◌≡◌, max, List, [], ◌∷◌, refl, ap, arith}
use Rattle.journal_model.specs.declared.rows.Row.{Row}
use Rattle.journal_model.specs.Journal.{latest}
use Rattle.journal_model.specs.Rows.{row, row_moment, AreRows, empty, added}
use Rattle.journal_model.specs.Machine.{IsJournal}
use Rattle.journal_model.specs.DeskJournal.{IsDeskJournal}
use Rattle.journal_model.proofs.EventRows.{AllRows, row_within}
use Rattle.journal_model.proofs.entries.JournalLaws.{journal-AreRows, desk-AreRows}
use Rattle.headline_law.specs.Moments.{greatest_handed, Moments}

-- a row at the greatest moment that was passed in
abbrev AtGreatest : List Row → Row → Type 0
AtGreatest before r = r.moment.0 ≡ greatest_handed (r ∷ before)

-- the greatest moment of rows of steps is the greatest that was passed in
record InTime (rows : List Row) : Type 0 where
  each : AllRows AtGreatest rows
  last : latest rows ≡ greatest_handed rows

in_time : (rows : List Row) → AreRows rows → InTime rows
unfolding row row_moment latest greatest_handed
in_time [] empty = record { each = tt; last = refl }
in_time (r ∷ before) (added {rows} s starved rest) =
    let past : InTime before = in_time before rest in
    let here : max s.handed.0 (latest before) ≡ max s.handed.0 (greatest_handed before) =
    ap (λ n. max s.handed.0 n) past.last in
    let last : max (max s.handed.0 (latest before)) (latest before)
    ≡ max s.handed.0 (greatest_handed before) =
    omega (arith, past.last) in
    record { each = (here, past.each); last = last }

-- so it is in rows of steps
pub rows-Moments : (rows : List Row) → AreRows rows → Moments rows
rows-Moments rows all = record {
  greatest = λ before r within. row_within AtGreatest rows before r (in_time rows all).each within;
}

-- in each journal of the machine
pub journal-Moments : (rows : List Row) → IsJournal rows → Moments rows
journal-Moments rows journal = rows-Moments rows (journal-AreRows rows journal)

-- and in each journal of a desk
pub desk-Moments : (rows : List Row) → IsDeskJournal rows → Moments rows
desk-Moments rows journal = rows-Moments rows (desk-AreRows rows journal)
