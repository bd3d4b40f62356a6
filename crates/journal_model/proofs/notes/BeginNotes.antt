-- What a beginning notes and sends: an entry, which comes next, or nothing.
use Rattle.std.proofs.Common.{◌≡◌, ℕ, Bool, true, false, List, [], Option, Some, None, refl}
use Rattle.history_model.specs.declared.entries.Entry.{Entry}
use Rattle.history_model.specs.declared.refusals.Refusal.{Refusal}
use Rattle.history_model.specs.Refusals.{change_refusal}
use Rattle.event_model.specs.declared.notes.Note.{Note}
use Rattle.event_model.specs.declared.notes.Note.TheVariants as note
use Rattle.journal_model.specs.declared.steps.Step.{Step}
use Rattle.journal_model.specs.Beginnings.{entered_alone, begin_entry, beginning}
use Rattle.journal_model.proofs.NoteKinds.{are}
use Rattle.journal_model.proofs.EntriesNoted.{NotesNext, none, one}

-- its notes are of each kind of which an entry is
pub beginning-notes : (kind : Note → Bool)
    → ((entry : Entry) → kind (note.Entered entry) ≡ true)
    → (starved : Bool) (history : List Entry) (moment : ℕ) (s : Step) (first : ℕ)
    → are kind (beginning starved history moment s first).notes ≡ true
beginning-notes kind enters true history moment s first = refl
beginning-notes kind enters false history moment s first =
    by (change_refusal 0 history (begin_entry moment s first))
  where
    by : (o : Option Refusal)
        → are kind (entered_alone o (begin_entry moment s first)).notes ≡ true
    by (Some why) = refl
    by None = rw (enters (begin_entry moment s first)) refl

-- it sends nothing
pub beginning-sent : (starved : Bool) (history : List Entry) (moment : ℕ) (s : Step) (first : ℕ)
    → (beginning starved history moment s first).sent ≡ []
beginning-sent true history moment s first = refl
beginning-sent false history moment s first =
    by (change_refusal 0 history (begin_entry moment s first))
  where
    by : (o : Option Refusal) → (entered_alone o (begin_entry moment s first)).sent ≡ []
    by (Some why) = refl
    by None = refl

-- it notes no entry, or one that comes next
pub beginning-NotesNext : (starved : Bool) (history : List Entry) (moment : ℕ) (s : Step)
    (first : ℕ)
    → NotesNext history moment (beginning starved history moment s first).notes
beginning-NotesNext true history moment s first = none refl
beginning-NotesNext false history moment s first =
    by (change_refusal 0 history (begin_entry moment s first)) refl
  where
    by : (o : Option Refusal)
        → change_refusal 0 history (begin_entry moment s first) ≡ o
        → NotesNext history moment (entered_alone o (begin_entry moment s first)).notes
    by (Some why) e = none refl
    by None e = one (begin_entry moment s first) refl refl tt e
