-- Steps that note no entry: keeps, lookups, reads of a registration, writes as they are heard, and
-- ticks.
use Rattle.std.proofs.Common.{◌≡◌, ℕ, Bool, List, [], refl}
use Rattle.message_model.specs.Message.{Message}
use Rattle.event_model.specs.Events.{Event}
use Rattle.journal_model.specs.declared.steps.Step.{Step}
use Rattle.journal_model.specs.declared.rows.Row.{Row}
use Rattle.journal_model.specs.Looks.{keep_effects}
use Rattle.journal_model.specs.Lookups.{lookup_effects, read_effects}
use Rattle.journal_model.specs.Writes.{write_effects}
use Rattle.journal_model.specs.Ticks.{tick_effects}
use Rattle.journal_model.proofs.EntriesNoted.{entries_in}
use Rattle.journal_model.proofs.NoteKinds.{lookup-entries_in, write-entries_in, tick-entries_in}
use Rattle.journal_model.proofs.StepNotes.{
  keep_effects-notes,
  lookup_effects-notes,
  read_effects-notes,
  write_effects-notes,
  tick_effects-notes,
}

-- a keep
pub keep_effects-entries_in : (s : Step) (m : Message) (body current : List ℕ)
    → entries_in (keep_effects s m body current).notes ≡ []
keep_effects-entries_in s m body current = rw (keep_effects-notes s m body current) refl

-- a lookup that the journal takes part in
pub lookup_effects-entries_in : (rows : List Row) (moment : ℕ) (s : Step) (m : Message)
    → entries_in (lookup_effects rows moment s m).notes ≡ []
lookup_effects-entries_in rows moment s m =
    lookup-entries_in (lookup_effects rows moment s m).notes (lookup_effects-notes rows moment s m)

-- a read of a registration
pub read_effects-entries_in : (rows : List Row) (moment : ℕ) (s : Step) (m : Message)
    → entries_in (read_effects rows moment s m).notes ≡ []
read_effects-entries_in rows moment s m =
    lookup-entries_in (read_effects rows moment s m).notes (read_effects-notes rows moment s m)

-- a write as it is heard: a repeat, one too many, or one that is admitted
pub write_effects-entries_in : (events : List Event) (moment : ℕ) (s : Step) (m : Message)
    → entries_in (write_effects events moment s m).notes ≡ []
write_effects-entries_in events moment s m =
    write-entries_in (write_effects events moment s m).notes (write_effects-notes events moment s m)

-- a tick
pub tick_effects-entries_in : (starved : Bool) (rows : List Row) (moment : ℕ) (s : Step)
    → entries_in (tick_effects starved rows moment s).notes ≡ []
tick_effects-entries_in starved rows moment s =
    tick-entries_in (tick_effects starved rows moment s).notes
    (tick_effects-notes starved rows moment s)
