-- Equal tags at two rows mean one state.
use Rattle.std.proofs.Common.{◌≡◌, ◌≤◌, List, ◌∷◌, arith}
use Rattle.std.proofs.Math.Nat.{max-le, le_refl}
use Rattle.rd_base.specs.declared.queries.Query.{Query}
use Rattle.history_model.specs.Live.{live, last_moment}
use Rattle.history_model.specs.Listing.{listing, tag}
use Rattle.history_model.proofs.TagLaws.{tag_from_tells, listing-live}
use Rattle.journal_model.specs.declared.rows.Row.{Row}
use Rattle.journal_model.specs.Journal.{entries, latest}
use Rattle.journal_model.specs.Rows.{AreRows}
use Rattle.journal_model.specs.PlacedRows.{Within}
use Rattle.journal_model.proofs.entries.JournalLaws.{
  HasHistory,
  rows_up_to,
  rows-HasHistory,
  rows-moments,
  entries-IsFront,
}

-- the entries up to a row end no later than it
in_time : (rows before : List Row) (r : Row)
    → AreRows rows
    → Within rows before r
    → last_moment (entries (r ∷ before)) ≤ r.moment.0
unfolding latest
in_time rows before r all within =
    let here : HasHistory (r ∷ before) =
    rows-HasHistory (r ∷ before) (rows_up_to rows before r all within) in
    let last : latest (r ∷ before) ≤ r.moment.0 =
    max-le (le_refl r.moment.0) (rows-moments rows before r all within) in
    omega (arith, here.in_time, last)

-- where the tags at two rows are equal, so are the histories and the live registrations
pub tags_tell : (rows before other_before : List Row) (r other : Row)
    → AreRows rows
    → Within rows before r
    → Within rows other_before other
    → tag (entries (r ∷ before)) r.moment.0 ≡ tag (entries (other ∷ other_before)) other.moment.0
    → (entries (r ∷ before) ≡ entries (other ∷ other_before))
    × (live (entries (r ∷ before)) r.moment.0
    ≡ live (entries (other ∷ other_before)) other.moment.0)
tags_tell rows before other_before r other all here there same =
    tag_from_tells 0 (entries rows) (entries (r ∷ before)) (entries (other ∷ other_before))
    r.moment.0 other.moment.0 (omega arith)
    (rows-HasHistory rows all).legal (entries-IsFront rows before r here)
    (entries-IsFront rows other_before other there)
    (in_time rows before r all here) (in_time rows other_before other all there) same

-- and so the listings of a query are equal
-- An end theorem: nothing here cites it.
pub rows-listings : (rows before other_before : List Row) (r other : Row) (query : Query)
    → AreRows rows
    → Within rows before r
    → Within rows other_before other
    → tag (entries (r ∷ before)) r.moment.0 ≡ tag (entries (other ∷ other_before)) other.moment.0
    → listing query (entries (r ∷ before)) r.moment.0
    ≡ listing query (entries (other ∷ other_before)) other.moment.0
rows-listings rows before other_before r other query all here there same =
    listing-live query (entries (r ∷ before)) (entries (other ∷ other_before)) r.moment.0
    other.moment.0
    (tags_tell rows before other_before r other all here there same).1
