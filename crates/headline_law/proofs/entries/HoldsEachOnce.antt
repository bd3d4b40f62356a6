-- Registrations are the replay of one legal history that holds each accepted request once, despite
-- repeats.
use Rattle.std.proofs.Common.{◌⊎◌, ℕ, ◌<◌, Bool, List, length, sym, subst}
use Rattle.message_model.specs.Reading.{reading}
use Rattle.journal_model.specs.declared.steps.Step.{Step}
use Rattle.journal_model.specs.declared.steps.StepKind.{StepKind}
use Rattle.journal_model.specs.declared.rows.Row.{Row}
use Rattle.journal_model.specs.Journal.{entries, entries_of}
use Rattle.journal_model.specs.Rows.{effects, row_moment, row, AreRows}
use Rattle.journal_model.specs.Machine.{IsJournal}
use Rattle.journal_model.specs.DeskJournal.{IsDeskJournal}
use Rattle.journal_model.specs.PlacedRows.{Within, Commits, code_sent, Begins}
use Rattle.journal_model.specs.HoldsEachOnce.{HoldsEachOnce}
use Rattle.journal_model.specs.FetchCompletions.{IsCompletion}
use Rattle.journal_model.specs.AskedChanges.{is_code_of_change, names_location, answers_change}
use Rattle.journal_model.specs.AdmittedWrites.{AdmittedAt}
use Rattle.journal_model.proofs.entries.JournalLaws.{
  RowMade,
  each_made,
  journal-AreRows,
  desk-AreRows,
  rows-HasHistory,
  rows-single,
}
use Rattle.journal_model.proofs.entries.ChangeEntries.{
  ChangeEntry,
  ChangeEntry-one,
  ChangeEntry-none,
  commit-ChangeEntry,
}
use Rattle.headline_law.proofs.entries.EntryChanges.{rows-entry}
use Rattle.journal_model.proofs.entries.RowLaws.{row-origin}
use Rattle.headline_law.proofs.entries.CommitLaws.{journal-once}
use Rattle.journal_model.proofs.desks.CommitsOnce.{desk-once}
use Rattle.journal_model.proofs.entries.CommitPlaces.{journal-place, desk-place}
use Rattle.headline_law.proofs.entries.FailedLaws.{rows-failed}

-- the row of a commit has an entry exactly where its answer reports a change
row-ChangeEntry : (rows : List Row) (s : Step) (starved : Bool) (place : ℕ)
    → Commits (row rows s starved) place
    → ChangeEntry (entries rows) (row rows s starved).moment.0 (row rows s starved).notes
    (answers_change (row rows s starved))
unfolding row
row-ChangeEntry rows s starved place commits =
    subst (λ (k : StepKind).
    ChangeEntry (entries rows) (row_moment rows s)
    (effects k starved rows (row_moment rows s) s).notes
    (is_code_of_change (code_sent (effects k starved rows (row_moment rows s) s).sent)
    (names_location (reading s.datagram))))
    (sym commits) (commit-ChangeEntry place starved rows (row_moment rows s) s)

commit_entry : (rows before : List Row) (r : Row) (place : ℕ)
    → AreRows rows
    → Within rows before r
    → Commits r place
    → ChangeEntry (entries before) r.moment.0 r.notes (answers_change r)
commit_entry rows before r place all within commits =
    let it : RowMade before r = each_made rows before r all within in
    subst (λ (x : Row). ChangeEntry (entries before) x.moment.0 x.notes (answers_change x))
    (sym it.is)
    (row-ChangeEntry before it.step it.starved place
    (subst (λ (x : Row). Commits x place) it.is commits))

-- so it is of rows of steps, where commits are of rows that admitted, and each of another one
rows-HoldsEachOnce : (rows : List Row) → AreRows rows
    → ((before : List Row) (r : Row) (place : ℕ)
    → Within rows before r
    → Commits r place
    → AdmittedAt before place r.step)
    → ((before earlier : List Row) (r other : Row) (place : ℕ)
    → Within rows before r
    → Within before earlier other
    → Commits r place
    → Commits other place
    → ⊥)
    → HoldsEachOnce rows
rows-HoldsEachOnce rows all placed once = record {
  legal = (rows-HasHistory rows all).legal;
  single = λ before r within. rows-single rows before r all within;
  origin = λ before r within some. origin before r within some;
  entry = λ before r entry within is. rows-entry rows before r entry all within is;
  answered =
      λ before r place within commits reports.
      ChangeEntry-one (entries before) r.moment.0 r.notes (answers_change r)
      (commit_entry rows before r place all within commits) reports;
  enters_none =
      λ before r place within commits reports.
      ChangeEntry-none (entries before) r.moment.0 r.notes (answers_change r)
      (commit_entry rows before r place all within commits) reports;
  place = placed;
  once = once;
  failed =
      λ before earlier r other peer mid within further now then close.
      rows-failed rows before earlier r other peer mid all within further now then close;
}
  where
    origin : (before : List Row) (r : Row)
        → Within rows before r
        → 0 < length (entries_of r)
        → ((place : ℕ) × Commits r place) ⊎ IsCompletion before r ⊎ ((first : ℕ) × Begins r first)
    origin before r within some =
        let it : RowMade before r = each_made rows before r all within in
        subst (λ (x : Row).
        ((place : ℕ) × Commits x place) ⊎ IsCompletion before x ⊎ ((first : ℕ) × Begins x first))
        (sym it.is)
        (row-origin before it.step it.starved
        (subst (λ (x : Row). 0 < length (entries_of x)) it.is some))

-- so it is in each journal of the machine
pub journal-HoldsEachOnce : (rows : List Row) → IsJournal rows → HoldsEachOnce rows
journal-HoldsEachOnce rows journal =
    rows-HoldsEachOnce rows (journal-AreRows rows journal)
    (λ before r place within commits. journal-place rows before r place journal within commits)
    (λ before earlier r other place within further commits again. journal-once rows before earlier r
    other place journal within further commits again)

-- and in each journal of a desk
pub desk-HoldsEachOnce : (rows : List Row) → IsDeskJournal rows → HoldsEachOnce rows
desk-HoldsEachOnce rows journal =
    rows-HoldsEachOnce rows (desk-AreRows rows journal)
    (λ before r place within commits. desk-place rows before r place journal within commits)
    (λ before earlier r other place within further commits again. desk-once rows before earlier r
    other place journal within further commits again)
