-- What looking back finds where a row adds its notes.
use Rattle.std.proofs.Common.{
  ◌≡◌,
  ℕ,
  ◌||◌,
  Bool,
  true,
  false,
  not,
  List,
  [],
  ◌∷◌,
  ◌++◌,
  filter,
  Option,
  Some,
  None,
  refl,
  sym,
  ◌∙◌,
  append-nil,
}
use Rattle.std.specs.List.{list_any, AllByRecursion}
use Rattle.std.proofs.lemmas.Bool.{false≢true}
use Rattle.std.proofs.lemmas.List.Sums.{fold-append}
use Rattle.rd_base.proofs.lemmas.Each.{each_filter}
use Rattle.event_model.specs.declared.notes.Note.{Note}
use Rattle.event_model.specs.declared.notes.Note.TheVariants as note
use Rattle.event_model.specs.declared.notes.Observer.{Observer}
use Rattle.event_model.specs.Same.{RequestName}
use Rattle.event_model.specs.Events.{Event, noted, last_event, has_event, or_else, last_said}
use Rattle.event_model.specs.Observers.{
  name_of,
  is_end_of,
  observer_added,
  observers,
  body_formed,
  last_body_formed,
}
use Rattle.event_model.specs.Due.{is_looking_for}

-- an event of a row
abbrev pub event_at : ℕ → ℕ → ℕ → Note → Event
event_at place moment word n = record { place = place; moment = moment; word = word; note = n }

-- what one of the events before is, one of all is
pub has_event-noted : (test : Note → Bool) (place moment word : ℕ) (notes : List Note)
    (before : List Event)
    → has_event test before ≡ true
    → has_event test (noted place moment word notes before) ≡ true
has_event-noted test place moment word [] before h = h
has_event-noted test place moment word (n ∷ notes) before h =
    has_event-noted test place moment word notes (event_at place moment word n ∷ before)
    (by (test n))
  where
    by : (b : Bool) → (b || has_event test before) ≡ true
    by true = refl
    by false = h

-- where a row notes nothing of a kind, the last event of the kind is the one before
pub last_event-before : (test : Note → Bool) (place moment word : ℕ) (notes : List Note)
    (before : List Event)
    → list_any test notes ≡ false
    → last_event test (noted place moment word notes before) ≡ last_event test before
last_event-before test place moment word [] before none = refl
last_event-before test place moment word (n ∷ notes) before none =
    by (test n) refl none (λ h.
    last_event-before test place moment word notes (event_at place moment word n ∷ before)
    h)
  where
    Same : List Event → Type 0
    Same more =
        last_event test (noted place moment word notes (event_at place moment word n ∷ before))
        ≡ last_event test more

    by : (b : Bool)
        → test n ≡ b
        → (b || list_any test notes) ≡ false
        → (list_any test notes ≡ false → Same (event_at place moment word n ∷ before))
        → Same before
    by true it h more = absurd (false≢true (sym h))
    by false it h more = more h ∙ rw it refl

-- an event with a place and a moment
pub record Found (test : Note → Bool) (events : List Event) (place moment : ℕ) : Type 0 where
  pub event : Event
  pub last : last_event test events ≡ Some event
  pub at_place : event.place ≡ place
  pub at_moment : event.moment ≡ moment

-- and where it notes something of the kind, the last event is its own
pub last_event-here : (test : Note → Bool) (place moment word : ℕ) (notes : List Note)
    (before : List Event)
    → list_any test notes ≡ true
    → Found test (noted place moment word notes before) place moment
last_event-here test place moment word [] before some = absurd (false≢true some)
last_event-here test place moment word (n ∷ notes) before some =
    by (list_any test notes) refl (λ h.
    last_event-here test place moment word notes (event_at place moment word n ∷ before) h)
  where
    one : (b c : Bool) → (b || c) ≡ true → c ≡ false → b ≡ true
    one true c h g = refl
    one false c h g = absurd (false≢true (sym g ∙ h))

    Here : Type 0
    Here =
        Found test (noted place moment word notes (event_at place moment word n ∷ before)) place
        moment

    by : (b : Bool) → list_any test notes ≡ b → (list_any test notes ≡ true → Here) → Here
    by true more later = later more
    by false none later = record {
      event = event_at place moment word n;
      last =
          last_event-before test place moment word notes (event_at place moment word n ∷ before)
          none
          ∙ rw (one (test n) (list_any test notes) some none) refl;
      at_place = refl;
      at_moment = refl;
    }

-- notes one after the other
pub noted-append : (place moment word : ℕ) (notes more : List Note) (before : List Event)
    → noted place moment word (notes ++ more) before
    ≡ noted place moment word more (noted place moment word notes before)
noted-append place moment word notes more before =
    fold-append (λ events n. event_at place moment word n ∷ events) before notes more

-- a body is built for an observer only by a note that looks at its listing
pub not_formed : (name : RequestName) (n : Note)
    → is_looking_for name n ≡ false
    → body_formed name n ≡ None
not_formed name (note.Formed peer token body mid) h = rw h refl
not_formed name _ h = refl

-- where a row looks at no listing of an observer, the body that was last built is the one before
pub last_body_formed-before : (name : RequestName) (place moment word : ℕ) (notes : List Note)
    (before : List Event)
    → list_any (is_looking_for name) notes ≡ false
    → last_body_formed name (noted place moment word notes before) ≡ last_body_formed name before
unfolding last_body_formed last_said
last_body_formed-before name place moment word [] before none = refl
last_body_formed-before name place moment word (n ∷ notes) before none =
    by (is_looking_for name n) refl none (λ h.
    last_body_formed-before name place moment word notes
    (event_at place moment word n ∷ before) h)
  where
    Last : List Event → Option (List ℕ)
    Last events = last_said (body_formed name) events

    by : (b : Bool)
        → is_looking_for name n ≡ b
        → (b || list_any (is_looking_for name) notes) ≡ false
        → (list_any (is_looking_for name) notes ≡ false
        → Last (noted place moment word notes (event_at place moment word n ∷ before))
        ≡ or_else (body_formed name n) (Last before))
        → Last (noted place moment word notes (event_at place moment word n ∷ before)) ≡ Last before
    by true it h more = absurd (false≢true (sym h))
    by false it h more = more h ∙ rw (not_formed name n it) refl

-- the note adds an observer
abbrev pub is_watching : Note → Bool
is_watching (note.Watched o) = true
is_watching _ = false

-- where a row adds no observer, what holds of each that stood holds of each that stands
pub observers-noted : (P : Observer → Type 0) (place moment word : ℕ) (notes : List Note)
    (before : List Event)
    → list_any is_watching notes ≡ false
    → AllByRecursion P (observers before)
    → AllByRecursion P (observers (noted place moment word notes before))
unfolding observers
observers-noted P place moment word [] before none each = each
observers-noted P place moment word (n ∷ notes) before none each =
    by (is_watching n) refl none (λ h more.
    observers-noted P place moment word notes (event_at place moment word n ∷ before) h
    more)
  where
    nobody : (x : Note) → is_watching x ≡ false → observer_added x ≡ []
    nobody (note.Watched o) h = absurd (false≢true (sym h))
    nobody _ h = refl

    left : List Observer
    left = filter (λ o. not (is_end_of n (name_of o))) (observers before)

    by : (b : Bool) → is_watching n ≡ b → (b || list_any is_watching notes) ≡ false
        → (list_any is_watching notes ≡ false
        → AllByRecursion P (left ++ observer_added n)
        → AllByRecursion P
        (observers (noted place moment word notes (event_at place moment word n ∷ before))))
        → AllByRecursion P
        (observers (noted place moment word notes (event_at place moment word n ∷ before)))
    by true it h more = absurd (false≢true (sym h))
    by false it h more =
        more h (rw (nobody n it) (rw (append-nil left)
        (each_filter P (λ o. not (is_end_of n (name_of o))) (observers before) each)))
