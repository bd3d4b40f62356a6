-- Notes that are aside: what no note of a kind changes, the notes of other kinds leave, be they
-- many; and what notes leave of events in order.
use Rattle.std.proofs.Common.{
  ◌≡◌,
  ℕ,
  ◌||◌,
  ◌&&◌,
  ◌==◌,
  Bool,
  true,
  false,
  not,
  List,
  [],
  ◌∷◌,
  ◌++◌,
  filter,
  refl,
  sym,
  subst,
  ◌∙◌,
  eqb-true,
}
use Rattle.std.specs.List.{list_any, AllByRecursion}
use Rattle.std.proofs.lemmas.Bool.{and_parts, false≢true}
use Rattle.rd_base.specs.declared.peers.Peer.{Peer}
use Rattle.event_model.specs.declared.notes.Note.{Note}
use Rattle.event_model.specs.Events.{Event, has_event, noted}
use Rattle.event_model.specs.Repeats.{
  is_admitting,
  is_admission_of,
  admission_noted,
  is_failure_of,
  admissions,
}
use Rattle.event_model.specs.AdmissionOrder.{IsOrderly, is_admitted_event, HasAdmission}
use Rattle.event_model.proofs.EventEquations.{admissions-event}
use Rattle.event_model.proofs.NotedLaws.{event_at}
use Rattle.event_model.proofs.OrderLaws.{IsOrderly-other}

-- what one event leaves whose note is not of a kind
abbrev pub Leaves : (Note → Bool) → (List Event → Type 0) → Type 0
Leaves about P =
    (e : Event) (events : List Event) → about e.note ≡ false → P events → P (e ∷ events)

-- the notes of a row leave too, where none is of the kind
pub notes_aside : (about : Note → Bool) (P : List Event → Type 0)
    → Leaves about P
    → (place moment word : ℕ) (notes : List Note) (events : List Event)
    → list_any about notes ≡ false
    → P events → P (noted place moment word notes events)
notes_aside about P leaves place moment word [] events none h = h
notes_aside about P leaves place moment word (n ∷ notes) events none h =
    by (about n) refl none (λ mine rest.
    notes_aside about P leaves place moment word notes
    (event_at place moment word n ∷ events) rest
    (leaves (event_at place moment word n) events mine h))
  where
    Goal : Type 0
    Goal = P (noted place moment word notes (event_at place moment word n ∷ events))

    by : (b : Bool)
        → about n ≡ b
        → (b || list_any about notes) ≡ false
        → (about n ≡ false → list_any about notes ≡ false → Goal)
        → Goal
    by true it none go = absurd (false≢true (sym none))
    by false it none go = go it none

-- each event of a row is of its place, its moment and one of its notes
pub each_noted : (P : Event → Type 0) (place moment word : ℕ) (notes : List Note)
    (past : List Event)
    → AllByRecursion (λ n. P (event_at place moment word n)) notes
    → AllByRecursion P past
    → AllByRecursion P (noted place moment word notes past)
each_noted P place moment word [] past all each = each
each_noted P place moment word (n ∷ notes) past all each =
    each_noted P place moment word notes (event_at place moment word n ∷ past) all.1 (all.0, each)

-- where no event of a row and of those before it is of a kind, none of its notes is, and none of
-- those before
pub none_noted : (test : Note → Bool) (place moment word : ℕ) (notes : List Note)
    (before : List Event)
    → has_event test (noted place moment word notes before) ≡ false
    → (list_any test notes ≡ false) × (has_event test before ≡ false)
none_noted test place moment word [] before h = (refl, h)
none_noted test place moment word (n ∷ notes) before h =
    let rest = none_noted test place moment word notes (event_at place moment word n ∷ before) h in
    by (test n) rest.0 rest.1
  where
    by : (b : Bool)
        → list_any test notes ≡ false
        → (b || has_event test before) ≡ false
        → ((b || list_any test notes) ≡ false) × (has_event test before ≡ false)
    by true rest none = absurd (false≢true (sym none))
    by false rest none = (rest, none)

-- and the other way round
pub none_noted-from : (test : Note → Bool) (place moment word : ℕ) (notes : List Note)
    (before : List Event)
    → list_any test notes ≡ false
    → has_event test before ≡ false
    → has_event test (noted place moment word notes before) ≡ false
none_noted-from test place moment word notes before none h =
    notes_aside test (λ events. has_event test events ≡ false) (λ e events other g. rw other g)
    place moment word notes before none h

-- ---- admissions in order

-- notes that admit nothing leave admissions in order
pub IsOrderly-noted : (place moment word : ℕ) (notes : List Note) (events : List Event)
    → list_any is_admitting notes ≡ false
    → IsOrderly events
    → IsOrderly (noted place moment word notes events)
IsOrderly-noted place moment word notes events none h =
    notes_aside is_admitting IsOrderly
    (λ e past other orderly. IsOrderly-other e past other orderly) place moment word notes
    events none h

-- what passes a test that a filter lets through is found in what is left
found_left : {A : Type 0} (test keep : A → Bool)
    → ((a : A) → test a ≡ true → keep a ≡ true)
    → (front xs : List A)
    → list_any test xs ≡ true
    → list_any test (front ++ filter keep xs) ≡ true
found_left test keep through [] [] h = h
found_left test keep through [] (x ∷ xs) h =
    by (keep x) refl (test x) refl h (λ g. found_left test keep through [] xs g)
  where
    by : (k : Bool)
        → keep x ≡ k
        → (t : Bool)
        → test x ≡ t
        → (t || list_any test xs) ≡ true
        → (list_any test xs ≡ true → list_any test (filter keep xs) ≡ true)
        → list_any test (filter keep (x ∷ xs)) ≡ true
    by true e true f h more = rw e (rw f refl)
    by true e false f h more = rw e (rw f (more h))
    by false e true f h more = absurd (false≢true (sym e ∙ through x f))
    by false e false f h more = rw e (more h)
found_left test keep through (y ∷ front) xs h =
    by (test y) (found_left test keep through front xs h)
  where
    by : (b : Bool)
        → list_any test (front ++ filter keep xs) ≡ true
        → (b || list_any test (front ++ filter keep xs)) ≡ true
    by true g = refl
    by false g = g

-- a note that does not fail an admission leaves it
HasAdmission-event : (place : ℕ) (peer : Peer) (mid moment : ℕ)
    → Leaves (is_failure_of place) (λ past. HasAdmission place peer mid moment past)
HasAdmission-event place peer mid moment e past other h =
    subst (λ (xs : List Event). list_any (is_admitted_event place peer mid moment) xs ≡ true)
    (sym (admissions-event e past))
    (found_left (is_admitted_event place peer mid moment) (λ a. not (is_failure_of a.place e.note))
    through (admission_noted e.note e) (admissions past) h)
  where
    through : (a : Event)
        → is_admitted_event place peer mid moment a ≡ true
        → not (is_failure_of a.place e.note) ≡ true
    through a t =
        let first =
        and_parts (a.place == place) (is_admission_of peer mid a.note)
        (and_parts (a.place == place && is_admission_of peer mid a.note) (a.moment ==
        moment) t).0 in
        let at : a.place ≡ place = eqb-true a.place place first.0 in
        rw at (rw other refl)

-- and so do the notes of a row
pub HasAdmission-noted : (n place : ℕ) (peer : Peer) (mid moment at word : ℕ) (notes : List Note)
    (events : List Event)
    → list_any (is_failure_of place) notes ≡ false
    → HasAdmission place peer mid moment events
    → HasAdmission place peer mid moment (noted n at word notes events)
HasAdmission-noted n place peer mid moment at word notes events none h =
    notes_aside (is_failure_of place) (λ past. HasAdmission place peer mid moment past)
    (HasAdmission-event place peer mid moment) n at word notes events none h
