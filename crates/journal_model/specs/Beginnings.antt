-- The beginning of a run: a directory that begins one gives numbers, and counts entries, above one
-- (this project's profile). So none of its locations and entity tags is one of an earlier run.
use Rattle.std.specs.Prelude.{ℕ, Bool, true, false, List, [], ◌∷◌, Option, Some, None}
use Rattle.history_model.specs.declared.entries.Change.TheVariants as change
use Rattle.history_model.specs.declared.entries.Entry.{Entry}
use Rattle.history_model.specs.declared.refusals.Refusal.{Refusal}
use Rattle.history_model.specs.Refusals.{change_refusal}
use Rattle.event_model.specs.declared.notes.Note.TheVariants as note
use Rattle.journal_model.specs.declared.steps.Step.{Step}
use Rattle.journal_model.specs.Effects.{Effects, nothing}
use Rattle.journal_model.specs.Changes.{entry_of_step}

-- Makes the entry, unless it is refused, and sends nothing.
abbrev pub entered_alone : Option Refusal → Entry → Effects
entered_alone (Some why) entry = nothing
entered_alone None entry = record { sent = []; notes = note.Entered entry ∷ []; drew = 0 }

-- Returns the entry of a beginning.
abbrev pub begin_entry : ℕ → Step → ℕ → Entry
begin_entry moment s first = entry_of_step moment s (change.Begin first)

-- Begins a run after a history. If memory ran out, nothing is done.
abbrev pub beginning : Bool → List Entry → ℕ → Step → ℕ → Effects
beginning true history moment s first = nothing
beginning false history moment s first =
    entered_alone (change_refusal 0 history (begin_entry moment s first))
    (begin_entry moment s first)
