-- Which entries notes hold: none, or one that may come next after a history.
use Rattle.std.proofs.Common.{
  ◌≡◌,
  ℕ,
  ◌≤◌,
  List,
  [],
  ◌∷◌,
  ◌++◌,
  filter_map,
  length,
  None,
  sym,
  ap,
  subst,
  ◌∙◌,
  arith,
}
use Rattle.std.proofs.lemmas.List.Elements.{filter_map-append}
use Rattle.history_model.specs.declared.entries.Entry.{Entry}
use Rattle.history_model.specs.Legal.{HasGoodBody}
use Rattle.history_model.specs.Refusals.{change_refusal}
use Rattle.event_model.specs.declared.notes.Note.{Note}
use Rattle.journal_model.specs.Journal.{entry_noted}

-- the entries that notes hold, in order
abbrev pub entries_in : List Note → List Entry
entries_in notes = filter_map entry_noted notes

-- the notes hold no entry, or one that has this moment, whose body is good, and that nothing
-- refuses after the history
pub data NotesNext (history : List Entry) (moment : ℕ) (notes : List Note) : Type 0 where
  none : entries_in notes ≡ [] → NotesNext history moment notes
  one : (entry : Entry)
      → entries_in notes ≡ entry ∷ []
      → entry.moment.0 ≡ moment
      → HasGoodBody entry.change
      → change_refusal 0 history entry ≡ None
      → NotesNext history moment notes

-- notes one after the other
pub entries_in-append : (notes more : List Note)
    → entries_in (notes ++ more) ≡ entries_in notes ++ entries_in more
entries_in-append notes more = filter_map-append entry_noted notes more

-- none, and none after them
pub none-append : (notes more : List Note)
    → entries_in notes ≡ []
    → entries_in more ≡ []
    → entries_in (notes ++ more) ≡ []
none-append notes more h g =
    entries_in-append notes more ∙ (ap (λ entries. entries ++ entries_in more) h ∙ g)

-- after others that hold none
pub NotesNext-after : (history : List Entry) (moment : ℕ) (notes more : List Note)
    → entries_in notes ≡ []
    → NotesNext history moment more
    → NotesNext history moment (notes ++ more)
NotesNext-after history moment notes more h (none g) = none (none-append notes more h g)
NotesNext-after history moment notes more h (one entry g at good accepted) =
    one entry (entries_in-append notes more ∙ (ap (λ entries. entries ++ entries_in more) h ∙ g)) at
    good accepted

-- and before others that hold none
pub NotesNext-before : (history : List Entry) (moment : ℕ) (notes more : List Note)
    → NotesNext history moment notes
    → entries_in more ≡ []
    → NotesNext history moment (notes ++ more)
NotesNext-before history moment notes more (none h) g = none (none-append notes more h g)
NotesNext-before history moment notes more (one entry h at good accepted) g =
    one entry (entries_in-append notes more
    ∙ (ap (λ entries. entries ++ entries_in more) h ∙ ap (λ entries. entry ∷ entries) g)) at
    good accepted

-- at most one
pub NotesNext-single : (history : List Entry) (moment : ℕ) (notes : List Note)
    → NotesNext history moment notes
    → length (entries_in notes) ≤ 1
NotesNext-single history moment notes (none h) =
    subst (λ entries. length entries ≤ 1) (sym h) (omega arith)
NotesNext-single history moment notes (one entry h at good accepted) =
    subst (λ entries. length entries ≤ 1) (sym h) (omega arith)
