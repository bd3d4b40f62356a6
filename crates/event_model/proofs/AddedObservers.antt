-- Where notes remove no observer, those that they add stand after those that stood, as long as no
-- two have the same name. Where no admission failed, each of them stands.
use Rattle.std.proofs.Common.{
  ◌≡◌,
  ℕ,
  ◌||◌,
  Bool,
  true,
  false,
  not,
  cond,
  List,
  [],
  ◌∷◌,
  ◌++◌,
  filter,
  flat_map,
  refl,
  ap,
  subst,
  sym,
  ◌∙◌,
  append-nil,
  append_assoc,
}
use Rattle.std.specs.List.{AllByRecursion}
use Rattle.std.proofs.lemmas.Bool.{false≢true}
use Rattle.rd_base.proofs.lemmas.Filters.{filter_all}
use Rattle.rd_base.proofs.lemmas.Each.{each_weaker, each_one}
use Rattle.rd_base.proofs.lemmas.Pairs.{PairsByRecursion}
use Rattle.event_model.specs.declared.notes.Note.{Note}
use Rattle.event_model.specs.declared.notes.Note.TheVariants as note
use Rattle.event_model.specs.declared.notes.Observer.{Observer}
use Rattle.event_model.specs.Same.{is_same_request}
use Rattle.event_model.specs.Events.{Event, has_event, noted}
use Rattle.event_model.specs.Repeats.{is_admitting, admission_noted, is_failure_of, admissions}
use Rattle.event_model.specs.Observers.{name_of, is_end_of, observer_added, observers}
use Rattle.event_model.proofs.ObserverLaws.{Apart, apart-sym}

-- the note removes an observer, and adds none
abbrev pub is_removal : Note → Bool
is_removal (note.Unwatched peer token) = true
is_removal _ = false

-- what holds of each element of a list holds of one of them
each_at : {X : Type 0} (P : X → Type 0) (front : List X) (x : X) (rest : List X)
    → AllByRecursion P (front ++ x ∷ rest)
    → P x
each_at P [] x rest h = h.0
each_at P (y ∷ front) x rest h = each_at P front x rest h.1

-- what holds of each element and each later one holds of those before an element and of it
each_before : {X : Type 0} (R : X → X → Type 0) (front : List X) (x : X) (rest : List X)
    → PairsByRecursion R (front ++ x ∷ rest)
    → AllByRecursion (λ y. R y x) front
each_before R [] x rest h = tt
each_before R (y ∷ front) x rest h =
    (each_at (R y) front x rest h.0, each_before R front x rest h.1)

-- one note
observers_push : (n : Note) (standing rest : List Observer)
    → is_removal n ≡ false
    → PairsByRecursion Apart (standing ++ (observer_added n ++ rest))
    → filter (λ o. not (is_end_of n (name_of o))) standing ++ observer_added n
    ≡ standing ++ observer_added n
observers_push (note.Watched o) standing rest none h =
    ap (λ left. left ++ o ∷ [])
    (filter_all (λ x. not (is_same_request (name_of o) (name_of x))) standing
    (each_weaker (λ x. Apart x o) (λ x. not (is_same_request (name_of o) (name_of x)) ≡ true)
    (λ x apart. ap not (apart-sym (name_of x) (name_of o) apart)) standing
    (each_before Apart standing o rest h)))
observers_push (note.Unwatched peer token) standing rest none h = absurd (false≢true (sym none))
observers_push n standing rest none h =
    ap (λ left. left ++ [])
    (filter_all (λ x. true) standing (each_one (λ x. true ≡ true) (λ x. refl) standing))

-- the notes of a row
pub observers_noted : (place moment word : ℕ) (notes : List Note) (before : List Event)
    → AllByRecursion (λ n. is_removal n ≡ false) notes
    → PairsByRecursion Apart (observers before ++ flat_map observer_added notes)
    → observers (noted place moment word notes before)
    ≡ observers before ++ flat_map observer_added notes
unfolding observers
observers_noted place moment word [] before none h = sym (append-nil (observers before))
observers_noted place moment word (n ∷ notes) before none h =
    observers_noted place moment word notes (next ∷ before) none.1
    (subst (PairsByRecursion Apart) (sym joined) h)
    ∙ joined
  where
    next : Event
    next = record { place = place; moment = moment; word = word; note = n }

    joined :
        observers (next ∷ before) ++ flat_map observer_added notes
        ≡ observers before ++ (observer_added n ++ flat_map observer_added notes)
    joined =
        ap (λ standing. standing ++ flat_map observer_added notes)
        (observers_push n (observers before) (flat_map observer_added notes) none.0 h)
        ∙ append_assoc (observers before) (observer_added n) (flat_map observer_added notes)

-- the note ends an admission because memory ran out; it is an admission
abbrev pub is_failing : Note → Bool
is_failing (note.Failed place) = true
is_failing _ = false

-- where no admission failed, each of them stands
pub admissions_whole : (events : List Event)
    → has_event is_failing events ≡ false
    → admissions events ≡ filter (λ e. is_admitting e.note) events
unfolding admissions
admissions_whole [] none = refl
admissions_whole (e ∷ before) none = by e.note none (admissions_whole before)
  where
    all_kept : filter (λ a. true) (admissions before) ≡ admissions before
    all_kept =
        filter_all (λ a. true) (admissions before)
        (each_one (λ a. true ≡ true) (λ a. refl) (admissions before))

    admitting : List Event
    admitting = filter (λ a. is_admitting a.note) before

    by : (n : Note)
        → (is_failing n || has_event is_failing before) ≡ false
        → (has_event is_failing before ≡ false → admissions before ≡ admitting)
        → admission_noted n e ++ filter (λ a. not (is_failure_of a.place n)) (admissions before)
        ≡ cond (is_admitting n) (e ∷ admitting) admitting
    by (note.Admitted peer mid) h more = ap (λ rest. e ∷ rest) (all_kept ∙ more h)
    by (note.Failed place) h more = absurd (false≢true (sym h))
    by n h more = all_kept ∙ more h
