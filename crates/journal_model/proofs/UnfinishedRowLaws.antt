-- A row that is being made: its moment, and what the journal shows with it.
-- End theorems, for what makes the rows of a journal: nothing here cites them.
use Rattle.std.proofs.Common.{
  ◌≡◌,
  ◌≤◌,
  max,
  Bool,
  true,
  false,
  cond,
  List,
  [],
  ◌∷◌,
  length,
  refl,
  arith,
}
use Rattle.event_model.specs.Events.{noted}
use Rattle.event_model.proofs.NotedLaws.{noted-append}
use Rattle.journal_model.specs.declared.steps.Step.{Step}
use Rattle.journal_model.specs.declared.rows.Row.{Row}
use Rattle.journal_model.specs.Journal.{is_look, is_desk_row, events, now, latest}
use Rattle.journal_model.specs.Effects.{Effects, nothing, joined}
use Rattle.journal_model.specs.Rows.{effects, row_moment, row}
use Rattle.journal_model.specs.DeskJournal.{NoLaterLook}
use Rattle.journal_model.specs.UnfinishedRow.{making}

-- the last moment but those of looks is not above the greatest
pub now_latest : (rows : List Row) → now rows ≤ latest rows
unfolding now latest
now_latest [] = omega arith
now_latest (r ∷ before) = by (is_desk_row r) (now_latest before)
  where
    by : (b : Bool)
        → now before ≤ latest before
        → cond b r.moment.0 (now before) ≤ max r.moment.0 (latest before)
    by true h = omega arith
    by false h = omega (arith, h)

-- where no look was later, the moment of a step is the greatest of the one that is passed in and
-- that of the last row but looks
pub row_moment-now : (rows : List Row) (s : Step)
    → NoLaterLook s.handed.0 rows
    → row_moment rows s ≡ max s.handed.0 (now rows)
unfolding row_moment
row_moment-now rows s none = let h = now_latest rows in omega (arith, none, h)

-- with all that the step does it is the journal with its row
pub making-row : (rows : List Row) (s : Step) (starved : Bool)
    → making rows s starved (effects s.kind starved rows (row_moment rows s) s)
    ≡ row rows s starved ∷ rows
unfolding row
making-row rows s starved = refl

-- its moment is that of its row
pub now-making : (rows : List Row) (s : Step) (starved : Bool) (e : Effects)
    → is_look s.kind ≡ false
    → now (making rows s starved e) ≡ row_moment rows s
unfolding now
now-making rows s starved e desk = rw desk refl

-- before it notes anything it shows the events before
pub events-making_nothing : (rows : List Row) (s : Step) (starved : Bool)
    → events (making rows s starved nothing) ≡ events rows
unfolding events
events-making_nothing rows s starved = refl

-- and with one thing more it notes what that notes
pub events-making_joined : (rows : List Row) (s : Step) (starved : Bool) (done more : Effects)
    → events (making rows s starved (joined done more))
    ≡ noted (length rows) (row_moment rows s) s.word more.notes
    (events (making rows s starved done))
unfolding events
events-making_joined rows s starved done more =
    noted-append (length rows) (row_moment rows s) s.word done.notes more.notes (events rows)
