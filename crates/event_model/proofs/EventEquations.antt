-- What each definition that looks back over events finds with one event more.
-- End theorems, for what keeps the events of a journal: nothing here cites them.
use Rattle.std.proofs.Common.{◌≡◌, Bool, not, cond, List, [], ◌∷◌, ◌++◌, filter, Option, refl}
use Rattle.event_model.specs.declared.notes.Note.{Note}
use Rattle.event_model.specs.Same.{RequestName}
use Rattle.event_model.specs.Events.{Event, events_since, or_else, last_said}
use Rattle.event_model.specs.Repeats.{admission_noted, is_failure_of, admissions}
use Rattle.event_model.specs.Uploads.{
  collected_after,
  upload,
  starts_or_ends_upload,
  begun_by,
  uploads,
}
use Rattle.event_model.specs.KeptAnswers.{used_by, is_use_of, names_used}
use Rattle.event_model.specs.Observers.{name_of, is_end_of, observer_added, observers}
use Rattle.event_model.specs.Fetches as fetching
use Rattle.event_model.specs.Fetches.{fetches, started_by}

pub last_said-event : {A : Type 0} (says : Note → Option A) (e : Event) (before : List Event)
    → last_said says (e ∷ before) ≡ or_else (says e.note) (last_said says before)
unfolding last_said
last_said-event says e before = refl

pub events_since-event : (is_kind : Note → Bool) (e : Event) (before : List Event)
    → events_since is_kind (e ∷ before) ≡ cond (is_kind e.note) [] (e ∷ events_since is_kind before)
unfolding events_since
events_since-event is_kind e before = refl

pub admissions-event : (e : Event) (before : List Event)
    → admissions (e ∷ before)
    ≡ admission_noted e.note e
    ++ filter (λ a. not (is_failure_of a.place e.note)) (admissions before)
unfolding admissions
admissions-event e before = refl

pub upload-event : (name : RequestName) (e : Event) (before : List Event)
    → upload name (e ∷ before) ≡ collected_after name e.note (upload name before)
unfolding upload
upload-event name e before = refl

pub uploads-event : (e : Event) (before : List Event)
    → uploads (e ∷ before)
    ≡ filter (λ name. not (starts_or_ends_upload e.note name)) (uploads before)
    ++ begun_by e.note
unfolding uploads
uploads-event e before = refl

pub names_used-event : (e : Event) (before : List Event)
    → names_used (e ∷ before)
    ≡ used_by e.note ++ filter (λ name. not (is_use_of name e.note)) (names_used before)
unfolding names_used
names_used-event e before = refl

pub observers-event : (e : Event) (before : List Event)
    → observers (e ∷ before)
    ≡ filter (λ o. not (is_end_of e.note (name_of o))) (observers before)
    ++ observer_added e.note
unfolding observers
observers-event e before = refl

pub fetches-event : (e : Event) (before : List Event)
    → fetches (e ∷ before)
    ≡ filter (λ peer. not (fetching.starts_or_ends_fetch e.note peer)) (fetches before)
    ++ started_by e.note
unfolding fetches
fetches-event e before = refl
