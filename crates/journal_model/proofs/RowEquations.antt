-- The parts of a row, and what a journal shows with one row more.
-- End theorems, for what keeps the events of a journal: nothing here cites them.
use Rattle.std.proofs.Common.{◌≡◌, ℕ, Bool, cond, max, List, [], ◌∷◌, length, fold, refl}
use Rattle.message_model.specs.Reading.{reading}
use Rattle.event_model.specs.Events.{noted}
use Rattle.journal_model.specs.declared.steps.Step.{Step}
use Rattle.journal_model.specs.declared.steps.StepKind.TheVariants as step
use Rattle.journal_model.specs.declared.rows.Row.{Row}
use Rattle.journal_model.specs.Journal.{
  is_desk_row,
  events,
  entries,
  now,
  latest,
  transition_of,
  transitions,
}
use Rattle.journal_model.specs.Ticks.{tick_effects}
use Rattle.journal_model.specs.Looks.{looked}
use Rattle.journal_model.specs.Rows.{heard, done, kept_body, effects, row_moment, row}
use Rattle.journal_model.specs.Machine.{MayRun, IsJournal, begun, made, run}

-- a row has its step, whether memory ran out, and what the step does at its moment
pub row-step : (rows : List Row) (s : Step) (starved : Bool) → (row rows s starved).step ≡ s
unfolding row
row-step rows s starved = refl

pub row-starved : (rows : List Row) (s : Step) (starved : Bool)
    → (row rows s starved).starved ≡ starved
unfolding row
row-starved rows s starved = refl

pub row-moment : (rows : List Row) (s : Step) (starved : Bool)
    → (row rows s starved).moment.0 ≡ max s.handed.0 (latest rows)
unfolding row row_moment
row-moment rows s starved = refl

pub row-sent : (rows : List Row) (s : Step) (starved : Bool)
    → (row rows s starved).sent ≡ (effects s.kind starved rows (row_moment rows s) s).sent
unfolding row
row-sent rows s starved = refl

pub row-notes : (rows : List Row) (s : Step) (starved : Bool)
    → (row rows s starved).notes ≡ (effects s.kind starved rows (row_moment rows s) s).notes
unfolding row
row-notes rows s starved = refl

pub row-drew : (rows : List Row) (s : Step) (starved : Bool)
    → (row rows s starved).drew ≡ (effects s.kind starved rows (row_moment rows s) s).drew
unfolding row
row-drew rows s starved = refl

-- what each kind of step does
pub effects-Admit : (starved : Bool) (rows : List Row) (moment : ℕ) (s : Step)
    → effects step.Admit starved rows moment s ≡ heard starved rows moment s (reading s.datagram)
unfolding effects
effects-Admit starved rows moment s = refl

pub effects-Look : (starved : Bool) (rows : List Row) (moment : ℕ) (s : Step)
    → effects step.Look starved rows moment s
    ≡ looked starved (entries rows) moment s (reading s.datagram)
unfolding effects
effects-Look starved rows moment s = refl

pub effects-Commit : (place : ℕ) (starved : Bool) (rows : List Row) (moment : ℕ) (s : Step)
    → effects (step.Commit place) starved rows moment s
    ≡ done starved rows moment place s (reading s.datagram)
unfolding effects
effects-Commit place starved rows moment s = refl

pub effects-Keep : (body tag : List ℕ) (starved : Bool) (rows : List Row) (moment : ℕ) (s : Step)
    → effects (step.Keep body tag) starved rows moment s
    ≡ kept_body starved s (reading s.datagram) body tag
unfolding effects
effects-Keep body tag starved rows moment s = refl

pub effects-Tick : (starved : Bool) (rows : List Row) (moment : ℕ) (s : Step)
    → effects step.Tick starved rows moment s ≡ tick_effects starved rows moment s
unfolding effects
effects-Tick starved rows moment s = refl

-- a journal with one row more
pub events-row : (rows : List Row) (r : Row)
    → events (r ∷ rows) ≡ noted (length rows) r.moment.0 r.step.word r.notes (events rows)
unfolding events
events-row rows r = refl

pub now-row : (rows : List Row) (r : Row)
    → now (r ∷ rows) ≡ cond (is_desk_row r) r.moment.0 (now rows)
unfolding now
now-row rows r = refl

pub transitions-row : (rows : List Row) (r : Row)
    → transitions (r ∷ rows)
    ≡ cond (is_desk_row r) (transition_of r rows ∷ transitions rows) (transitions rows)
unfolding transitions
transitions-row rows r = refl

-- what comes of steps that may be made one after the other is a journal of the machine
pub run-IsJournal : (steps : List (Step × Bool)) → MayRun steps [] → IsJournal (run steps)
unfolding run
run-IsJournal steps may = after steps [] may begun
  where
    after : (more : List (Step × Bool)) (rows : List Row)
        → MayRun more rows
        → IsJournal rows
        → IsJournal (fold (λ before next. row before next.0 next.1 ∷ before) rows more)
    after [] rows may journal = journal
    after (next ∷ more) rows may journal =
        after more (row rows next.0 next.1 ∷ rows) may.1 (made next.1 journal may.0)
