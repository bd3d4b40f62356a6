-- Laws of rows of steps, and so of the journals of the machine and of desks: each row is that of
-- its step, the entries are a legal history, and moments do not fall.
use Rattle.std.proofs.Common.{
  ◌≡◌,
  ◌≤◌,
  Bool,
  List,
  [],
  ◌∷◌,
  ◌++◌,
  length,
  refl,
  sym,
  ap,
  subst,
  ◌∙◌,
  append-nil,
  append_assoc,
  arith,
}
use Rattle.std.proofs.Math.Nat.{le-max_left, le-max_right}
use Rattle.history_model.specs.Live.{IsFront, last_moment}
use Rattle.history_model.specs.Legal.{IsLegal}
use Rattle.history_model.proofs.LegalLaws.{IsLegalFrom-nil, IsLegalFrom_push}
use Rattle.history_model.proofs.ReplayLaws.{last_moment-nil, last_moment_push}
use Rattle.journal_model.specs.declared.steps.Step.{Step}
use Rattle.journal_model.specs.declared.rows.Row.{Row}
use Rattle.journal_model.specs.Journal.{entries, entries_of, latest}
use Rattle.journal_model.specs.Rows.{row, AreRows, empty, added}
use Rattle.journal_model.specs.DeskJournal.{IsDeskJournal}
use Rattle.journal_model.specs.DeskJournal as desk
use Rattle.journal_model.specs.Machine.{MayMake, IsJournal, begun, made}
use Rattle.journal_model.specs.PlacedRows.{Within}
use Rattle.journal_model.proofs.EntriesNoted.{entries_in, NotesNext, none, one}
use Rattle.journal_model.proofs.entries.RowLaws.{row-NotesNext, row-single, row-moment_latest}

-- a row of a journal: it is that of a step that might be made after the rows before it, which are a
-- journal too
pub record Made (before : List Row) (r : Row) : Type 0 where
  pub step : Step
  pub starved : Bool
  pub is : r ≡ row before step starved
  pub may : MayMake before step
  pub journal : IsJournal before

-- the newest row of a journal
pub newest : (before : List Row) (r : Row) → IsJournal (r ∷ before) → Made before r
newest before r (made {rows} {s} starved journal may) = record {
  step = s;
  starved = starved;
  is = refl;
  may = may;
  journal = journal;
}

-- each row of a journal
pub each_row : (rows before : List Row) (r : Row)
    → IsJournal rows
    → Within rows before r
    → Made before r
each_row rows before r journal within =
    newest before r (after within.later (subst IsJournal within.whole journal))
  where
    after : (later : List Row) → IsJournal (later ++ r ∷ before) → IsJournal (r ∷ before)
    after [] j = j
    after (x ∷ later) j = after later (newest (later ++ r ∷ before) x j).journal

-- ---- rows of steps

-- a row among rows of steps: it is that of a step after the rows before it, which are such rows too
pub record RowMade (before : List Row) (r : Row) : Type 0 where
  pub step : Step
  pub starved : Bool
  pub is : r ≡ row before step starved
  pub rows : AreRows before

-- the newest
pub newest_made : (before : List Row) (r : Row) → AreRows (r ∷ before) → RowMade before r
newest_made before r (added {rows} s starved rest) = record {
  step = s;
  starved = starved;
  is = refl;
  rows = rest;
}

-- rows up to one of them
pub rows_up_to : (rows before : List Row) (r : Row)
    → AreRows rows
    → Within rows before r
    → AreRows (r ∷ before)
rows_up_to rows before r all within = after within.later (subst AreRows within.whole all)
  where
    after : (later : List Row) → AreRows (later ++ r ∷ before) → AreRows (r ∷ before)
    after [] j = j
    after (x ∷ later) j = after later (newest_made (later ++ r ∷ before) x j).rows

-- each of them
pub each_made : (rows before : List Row) (r : Row)
    → AreRows rows
    → Within rows before r
    → RowMade before r
each_made rows before r all within = newest_made before r (rows_up_to rows before r all within)

-- so it is in journals of the machine
pub journal-AreRows : (rows : List Row) → IsJournal rows → AreRows rows
journal-AreRows [] begun = empty
journal-AreRows (r ∷ before) (made {rows} {s} starved journal may) =
    added s starved (journal-AreRows before journal)

-- and in those of desks
pub desk-AreRows : (rows : List Row) → IsDeskJournal rows → AreRows rows
desk-AreRows [] desk.begun = empty
desk-AreRows (r ∷ before) (desk.made {rows} s starved journal may) =
    added s starved (desk-AreRows before journal)

-- the entries with one row more
entries-row : (before : List Row) (r : Row)
    → entries (r ∷ before) ≡ entries before ++ entries_in r.notes
unfolding entries
entries-row before r = refl

-- and where it notes none
pub entries-none_noted : (rows : List Row) (r : Row)
    → entries_in r.notes ≡ []
    → entries (r ∷ rows) ≡ entries rows
entries-none_noted rows r quiet =
    entries-row rows r ∙ (ap (λ more. entries rows ++ more) quiet ∙ append-nil (entries rows))

-- the entries up to a row hold those before it
pub entries-IsPrefix-row : (before : List Row) (r : Row)
    → IsFront (entries before) (entries (r ∷ before))
unfolding entries
entries-IsPrefix-row before r = (entries_of r, refl)

-- the greatest moment with one row more
pub latest-row : (before : List Row) (r : Row) → r.moment.0 ≤ latest (r ∷ before)
unfolding latest
latest-row before r = le-max_left r.moment.0 (latest before)

-- which is not below the greatest before
pub latest-before : (before : List Row) (r : Row) → latest before ≤ latest (r ∷ before)
unfolding latest
latest-before before r = le-max_right r.moment.0 (latest before)

-- the entries of a journal are a legal history that ends no later than its rows
pub record HasHistory (rows : List Row) : Type 0 where
  pub legal : IsLegal (entries rows)
  pub in_time : last_moment (entries rows) ≤ latest rows

-- so it is with one row more
history_step : (before : List Row) (r : Row)
    → NotesNext (entries before) r.moment.0 r.notes
    → latest before ≤ r.moment.0
    → HasHistory before
    → HasHistory (r ∷ before)
history_step before r (none h) at earlier =
    let same : entries before ≡ entries (r ∷ before) =
    sym (entries-row before r ∙ (ap (λ more. entries before ++ more) h ∙ append-nil (entries
    before))) in
    record {
      legal = subst IsLegal same earlier.legal;
      in_time =
          subst (λ history. last_moment history ≤ latest (r ∷ before)) same
          (omega (arith, earlier.in_time, latest-before before r));
    }
history_step before r (one entry h at_moment good accepted) at earlier =
    let more : entries before ++ entry ∷ [] ≡ entries (r ∷ before) =
    sym (entries-row before r ∙ ap (λ more. entries before ++ more) h) in
    record {
      legal =
          subst IsLegal more (IsLegalFrom_push 0 (entries before) entry earlier.legal
          (record {
            in_time = omega (arith, earlier.in_time, at, at_moment);
            body = good;
            accepted = accepted;
          }));
      in_time =
          subst (λ history. last_moment history ≤ latest (r ∷ before)) more
          (rw (last_moment_push (entries before) entry)
          (omega (arith, at_moment, latest-row before r)));
    }

-- the entries of rows of steps are a legal history
pub rows-HasHistory : (rows : List Row) → AreRows rows → HasHistory rows
unfolding entries latest
rows-HasHistory [] empty = record {
  legal = IsLegalFrom-nil 0;
  in_time = rw last_moment-nil (omega arith);
}
rows-HasHistory (r ∷ before) (added {rows} s starved rest) =
    history_step before (row before s starved) (row-NotesNext before s starved)
    (row-moment_latest before s starved) (rows-HasHistory before rest)

-- each row has at most one entry
pub rows-single : (rows before : List Row) (r : Row)
    → AreRows rows
    → Within rows before r
    → length (entries_of r) ≤ 1
rows-single rows before r all within =
    let it : RowMade before r = each_made rows before r all within in
    subst (λ (x : Row). length (entries_of x) ≤ 1) (sym it.is)
    (row-single before it.step it.starved)

-- the moment of each row is not below those of the rows before it
pub rows-moments : (rows before : List Row) (r : Row)
    → AreRows rows
    → Within rows before r
    → latest before ≤ r.moment.0
rows-moments rows before r all within =
    let it : RowMade before r = each_made rows before r all within in
    subst (λ (x : Row). latest before ≤ x.moment.0) (sym it.is)
    (row-moment_latest before it.step it.starved)

-- the entries up to a row are a front of those of the journal
pub entries-IsFront : (rows before : List Row) (r : Row)
    → Within rows before r
    → IsFront (entries (r ∷ before)) (entries rows)
unfolding entries
entries-IsFront rows before r within =
    subst (λ all. IsFront (entries (r ∷ before)) (entries all)) (sym within.whole)
    (after within.later)
  where
    after : (later : List Row) → IsFront (entries (r ∷ before)) (entries (later ++ r ∷ before))
    after [] = ([], append-nil (entries (r ∷ before)))
    after (x ∷ later) =
        let h : IsFront (entries (r ∷ before)) (entries (later ++ r ∷ before)) = after later in (
          h.0 ++ entries_of x,
          sym (append_assoc (entries (r ∷ before)) h.0 (entries_of x))
              ∙ ap (λ front. front ++ entries_of x) h.1,
        )
