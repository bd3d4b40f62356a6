-- Laws of rows: at most one entry, which comes next after the entries before, in the row of a
-- commit or of a response that completed a fetch; and moments do not fall.
use Rattle.std.proofs.Common.{◌≡◌, ◌⊎◌, inl, inr, ℕ, ◌<◌, ◌≤◌, Bool, List, length, ap, arith}
use Rattle.std.proofs.Math.Nat.{le-max_right}
use Rattle.journal_model.specs.declared.steps.Step.{Step}
use Rattle.journal_model.specs.declared.steps.StepKind.TheVariants as step
use Rattle.journal_model.specs.declared.rows.Row.{Row}
use Rattle.journal_model.specs.Journal.{entries, entries_of, latest}
use Rattle.journal_model.specs.Rows.{effects, row_moment, row}
use Rattle.journal_model.specs.PlacedRows.{Commits, Begins}
use Rattle.journal_model.specs.FetchCompletions.{IsCompletion}
use Rattle.journal_model.proofs.EntriesNoted.{entries_in, NotesNext, NotesNext-single}
use Rattle.journal_model.proofs.entries.EntryOrigins.{
  EntryOrigin,
  nowhere,
  commit,
  completion,
  begun,
  effects-EntryOrigin,
  EntryOrigin-NotesNext,
}

-- the row of a step notes no entry, or one that comes next, at its moment
pub row-NotesNext : (rows : List Row) (s : Step) (starved : Bool)
    → NotesNext (entries rows) (row rows s starved).moment.0 (row rows s starved).notes
unfolding row
row-NotesNext rows s starved =
    EntryOrigin-NotesNext s.kind rows (row_moment rows s) s
    (effects s.kind starved rows (row_moment rows s) s).notes
    (effects-EntryOrigin s.kind starved rows (row_moment rows s) s)

-- a row has at most one entry
pub row-single : (rows : List Row) (s : Step) (starved : Bool)
    → length (entries_of (row rows s starved)) ≤ 1
row-single rows s starved =
    NotesNext-single (entries rows) (row rows s starved).moment.0 (row rows s starved).notes
    (row-NotesNext rows s starved)

-- an entry stands in the row of a commit, of a response that completed a fetch, or of a beginning
pub row-origin : (rows : List Row) (s : Step) (starved : Bool)
    → 0 < length (entries_of (row rows s starved))
    → ((place : ℕ) × Commits (row rows s starved) place)
    ⊎ IsCompletion rows (row rows s starved)
    ⊎ ((first : ℕ) × Begins (row rows s starved) first)
unfolding row
row-origin rows s starved some = by (effects-EntryOrigin s.kind starved rows (row_moment rows s) s)
  where
    by : EntryOrigin s.kind rows (row_moment rows s) s
        (effects s.kind starved rows (row_moment rows s) s).notes
        → ((place : ℕ) × (s.kind ≡ step.Commit place))
        ⊎ IsCompletion rows (row rows s starved)
        ⊎ ((first : ℕ) × (s.kind ≡ step.Begin first))
    by (nowhere h) =
        absurd (let no :
        length (entries_in (effects s.kind starved rows (row_moment rows s) s).notes) ≡ 0 =
        ap length h in
        omega (arith, some, no))
    by (commit place e next) = inl (place, e)
    by (completion e m read responds request fetch body h next) = inr (inl (record {
      answers = record {
        kind = e;
        message = m;
        read = read;
        response = responds;
        request = request;
        fetch = fetch;
      };
      body = body;
      ended = h;
    }))
    by (begun first e next) = inr (inr (first, e))

-- the moment of a row is not below those of the rows before it
pub row-moment_latest : (rows : List Row) (s : Step) (starved : Bool)
    → latest rows ≤ (row rows s starved).moment.0
unfolding row row_moment
row-moment_latest rows s starved = le-max_right s.handed.0 (latest rows)
