-- Admissions in order: each is of a new write, at a new place, and not before the events before it.
use Rattle.std.specs.Prelude.{◌≡◌, ◌≢◌, ℕ, ◌≤◌, Bool, true, false, ◌&&◌, ◌==◌, List, [], ◌∷◌, None}
use Rattle.std.specs.List.{list_any, AllByRecursion}
use Rattle.rd_base.specs.declared.peers.Peer.{Peer}
use Rattle.event_model.specs.declared.notes.Note.{Note}
use Rattle.event_model.specs.declared.notes.Note.TheVariants as note
use Rattle.event_model.specs.Events.{Event}
use Rattle.event_model.specs.Repeats.{is_admission_of, admissions, repeated, answer_noted}

-- States that no event is later than a moment.
abbrev pub NoneAfter : ℕ → List Event → Type 0
NoneAfter moment events = AllByRecursion (λ e. e.moment ≤ moment) events

-- States that no event has this place, or notes an answer to an admission of it.
abbrev pub IsNewPlace : ℕ → List Event → Type 0
IsNewPlace place events =
    AllByRecursion (λ e. (e.place ≢ place) × (answer_noted place e.note ≡ None)) events

-- An admission after these events: it is new as a write and as a place, and not before them.
pub record AdmitsNew (peer : Peer) (mid : ℕ) (e : Event) (before : List Event) : Type 0 where
  pub no_repeat : repeated e.moment peer mid before ≡ None
  pub new_place : IsNewPlace e.place before
  pub in_time : NoneAfter e.moment before

-- States that the note of an event admits such a write, if it is an admission.
abbrev pub AdmitsInOrder : Note → Event → List Event → Type 0
AdmitsInOrder (note.Admitted peer mid) e before = AdmitsNew peer mid e before
AdmitsInOrder _ e before = Unit {0}

-- States that each admission among the events is such a one.
unfoldable pub IsOrderly : List Event → Type 0
IsOrderly [] = Unit {0}
IsOrderly (e ∷ before) = AdmitsInOrder e.note e before × IsOrderly before

-- Returns whether an event is the admission of a write at a place and a moment.
abbrev pub is_admitted_event : ℕ → Peer → ℕ → ℕ → Event → Bool
is_admitted_event place peer mid moment a =
    a.place == place && is_admission_of peer mid a.note && a.moment == moment

-- States that a write was admitted at a place and a moment, and that this admission has not failed.
abbrev pub HasAdmission : ℕ → Peer → ℕ → ℕ → List Event → Type 0
HasAdmission place peer mid moment events =
    list_any (is_admitted_event place peer mid moment) (admissions events) ≡ true

-- A write that was admitted at a place and a moment and has not failed, where admissions are in
-- order. A table requires this of the write that it answers.
pub record IsOpen (place : ℕ) (peer : Peer) (mid moment : ℕ) (events : List Event) : Type 0 where
  pub orderly : IsOrderly events
  pub admission : HasAdmission place peer mid moment events

-- Returns whether a note has nothing to do with exchanges.
abbrev pub is_aside : Note → Bool
is_aside (note.Admitted peer mid) = false
is_aside (note.Settled place reply) = false
is_aside (note.Failed place) = false
is_aside _ = true
