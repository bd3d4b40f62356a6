-- The journal: a list of rows, one for each step, with the newest first. The place of a row is the
-- number of the rows before it.
use Rattle.std.specs.Prelude.{
  ℕ,
  Bool,
  true,
  false,
  not,
  ◌==◌,
  max,
  List,
  [],
  ◌∷◌,
  ◌++◌,
  length,
  filter_map,
  Option,
  Some,
  None,
  if◌then◌else◌,
}
use Rattle.history_model.specs.declared.entries.Entry.{Entry}
use Rattle.event_model.specs.declared.notes.Note.{Note}
use Rattle.event_model.specs.declared.notes.Note.TheVariants as note
use Rattle.event_model.specs.Events.{Event, noted}
use Rattle.event_model.specs.Due.{Transition}
use Rattle.journal_model.specs.declared.steps.StepKind.{StepKind}
use Rattle.journal_model.specs.declared.steps.StepKind.TheVariants as step
use Rattle.journal_model.specs.declared.rows.Row.{Row}

-- Returns whether a step is a look.
abbrev pub is_look : StepKind → Bool
is_look step.Admit = false
is_look step.Look = true
is_look (step.Commit place) = false
is_look (step.Keep body tag) = false
is_look step.Tick = false
is_look (step.Begin first) = false

-- Returns whether a step handles a datagram.
abbrev pub is_heard : StepKind → Bool
is_heard step.Admit = true
is_heard step.Look = true
is_heard (step.Commit place) = false
is_heard (step.Keep body tag) = false
is_heard step.Tick = false
is_heard (step.Begin first) = false

-- Returns whether the step of a row is no look.
abbrev pub is_desk_row : Row → Bool
is_desk_row r = not (is_look r.step.kind)

-- Returns the notes of a journal as events, the newest first.
unfoldable pub events : List Row → List Event
events [] = []
events (r ∷ before) = noted (length before) r.moment.0 r.step.word r.notes (events before)

-- Returns the entry that a note holds.
abbrev pub entry_noted : Note → Option Entry
entry_noted (note.Entered entry) = Some entry
entry_noted _ = None

-- Returns the entries that a row notes, in order.
abbrev pub entries_of : Row → List Entry
entries_of r = filter_map entry_noted r.notes

-- Returns the accepted changes of a journal, the oldest first.
unfoldable pub entries : List Row → List Entry
entries [] = []
entries (r ∷ before) = entries before ++ entries_of r

-- Returns the moment of the last row that is not of a look, or 0 if there is none.
unfoldable pub now : List Row → ℕ
now [] = 0
now (r ∷ before) = if is_desk_row r then r.moment.0 else now before

-- Returns the greatest moment of all rows, or 0 if there is none.
unfoldable pub latest : List Row → ℕ
latest [] = 0
latest (r ∷ before) = max r.moment.0 (latest before)

-- Returns the row at a place.
unfoldable pub row_at : ℕ → List Row → Option Row
row_at place [] = None
row_at place (r ∷ before) = if place == length before then Some r else row_at place before

-- Returns a row that is not of a look, as observers see it.
abbrev pub transition_of : Row → List Row → Transition
transition_of r before = record {
  place = length before;
  before = entries before;
  moment_before = now before;
  after = entries before ++ entries_of r;
  moment_after = r.moment.0;
}

-- Returns the rows that are not of a look, as observers see them.
unfoldable pub transitions : List Row → List Transition
transitions [] = []
transitions (r ∷ before) =
    if is_desk_row r then transition_of r before ∷ transitions before else transitions before
