-- Who observes with one event more, or with the notes of a row: one is added, one is removed, or
-- none of it. Those of the notes of a row are end theorems, for what keeps the events of a journal:
-- nothing here cites them.
use Rattle.std.proofs.Common.{
  ◌≡◌,
  ℕ,
  Bool,
  true,
  false,
  not,
  ◌||◌,
  cond,
  List,
  [],
  ◌∷◌,
  ◌++◌,
  filter,
  refl,
  sym,
  ap,
  ◌∙◌,
  append-nil,
}
use Rattle.std.specs.List.{list_any}
use Rattle.std.proofs.lemmas.Bool.{false≢true}
use Rattle.rd_base.specs.declared.peers.Peer.{Peer}
use Rattle.rd_base.proofs.lemmas.Filters.{filter_all}
use Rattle.rd_base.proofs.lemmas.Each.{each_one}
use Rattle.event_model.specs.declared.notes.Note.{Note}
use Rattle.event_model.specs.declared.notes.Note.TheVariants as note
use Rattle.event_model.specs.declared.notes.Observer.{Observer}
use Rattle.event_model.specs.Same.{RequestName, is_same_request}
use Rattle.event_model.specs.Events.{Event, noted}
use Rattle.event_model.specs.Observers.{name_of, is_end_of, observer_added, observers}
use Rattle.event_model.proofs.NotedLaws.{event_at, is_watching}
use Rattle.event_model.proofs.AsideLaws.{notes_aside}

-- those of other names
abbrev pub without_named : RequestName → List Observer → List Observer
without_named name standing = filter (λ o. not (is_same_request name (name_of o))) standing

-- the note adds or removes an observer
abbrev pub changes_observers : Note → Bool
changes_observers (note.Watched o) = true
changes_observers (note.Unwatched peer token) = true
changes_observers _ = false

-- ---- one event more

-- one is added, in place of another of its name
pub observers-Watched : (place moment word : ℕ) (o : Observer) (before : List Event)
    → observers (event_at place moment word (note.Watched o) ∷ before)
    ≡ without_named (name_of o) (observers before) ++ o ∷ []
unfolding observers
observers-Watched place moment word o before = refl

-- one is removed
pub observers-Unwatched : (place moment word : ℕ) (peer : Peer) (token : List ℕ)
    (before : List Event)
    → observers (event_at place moment word (note.Unwatched peer token) ∷ before)
    ≡ without_named (peer, token) (observers before)
unfolding observers
observers-Unwatched place moment word peer token before =
    append-nil (without_named (peer, token) (observers before))

-- any other note leaves them
pub observers-quiet : (e : Event) (before : List Event)
    → changes_observers e.note ≡ false
    → observers (e ∷ before) ≡ observers before
unfolding observers
observers-quiet e before other = by e.note other
  where
    by : (n : Note)
        → changes_observers n ≡ false
        → filter (λ o. not (is_end_of n (name_of o))) (observers before) ++ observer_added n
        ≡ observers before
    by (note.Watched o) h = absurd cc
    by (note.Unwatched peer token) h = absurd cc
    by _ h =
        append-nil (filter (λ o. true) (observers before))
        ∙ filter_all (λ o. true) (observers before)
        (each_one (λ o. true ≡ true) (λ o. refl) (observers before))

-- ---- the notes of a row

-- none of them adds or removes one
pub observers-quiet_noted : (place moment word : ℕ) (notes : List Note) (before : List Event)
    → list_any changes_observers notes ≡ false
    → observers (noted place moment word notes before) ≡ observers before
observers-quiet_noted place moment word notes before none =
    notes_aside changes_observers (λ past. observers past ≡ observers before)
    (λ e past other h. observers-quiet e past other ∙ h) place moment word notes before none
    refl

-- one of the notes removes the observer
abbrev pub is_ended_by : List Note → Observer → Bool
is_ended_by notes o = list_any (λ n. is_end_of n (name_of o)) notes

-- those that pass one test and then another
filter_twice : (first second both : Observer → Bool)
    → ((o : Observer) → both o ≡ cond (first o) (second o) false)
    → (xs : List Observer)
    → filter second (filter first xs) ≡ filter both xs
filter_twice first second both same [] = refl
filter_twice first second both same (x ∷ xs) =
    by (first x) (same x) (filter_twice first second both same xs)
  where
    by : (b : Bool)
        → both x ≡ cond b (second x) false
        → filter second (filter first xs) ≡ filter both xs
        → filter second (cond b (x ∷ filter first xs) (filter first xs))
        ≡ cond (both x) (x ∷ filter both xs) (filter both xs)
    by true e more = rw e (ap (λ rest. cond (second x) (x ∷ rest) rest) more)
    by false e more = rw e more

all_kept : (xs : List Observer) → xs ≡ filter (λ o. true) xs
all_kept [] = refl
all_kept (x ∷ xs) = ap (λ rest. x ∷ rest) (all_kept xs)

nobody : (x : Note) → is_watching x ≡ false → observer_added x ≡ []
nobody (note.Watched o) h = absurd (false≢true (sym h))
nobody _ h = refl

-- none of them adds one: those stand whom none of them removes
pub observers_left : (place moment word : ℕ) (notes : List Note) (before : List Event)
    → list_any is_watching notes ≡ false
    → observers (noted place moment word notes before)
    ≡ filter (λ o. not (is_ended_by notes o)) (observers before)
unfolding observers
observers_left place moment word [] before none = all_kept (observers before)
observers_left place moment word (n ∷ notes) before none =
    by (is_watching n) refl none
    (λ h. observers_left place moment word notes (event_at place moment word n ∷ before) h)
  where
    first : Observer → Bool
    first o = not (is_end_of n (name_of o))

    second : Observer → Bool
    second o = not (is_ended_by notes o)

    split : (a b : Bool) → not (a || b) ≡ cond (not a) (not b) false
    split true b = refl
    split false b = refl

    by : (b : Bool) → is_watching n ≡ b → (b || list_any is_watching notes) ≡ false
        → (list_any is_watching notes ≡ false
        → observers (noted place moment word notes (event_at place moment word n ∷ before))
        ≡ filter second (filter first (observers before) ++ observer_added n))
        → observers (noted place moment word notes (event_at place moment word n ∷ before))
        ≡ filter (λ o. not (is_ended_by (n ∷ notes) o)) (observers before)
    by true it h more = absurd (false≢true (sym h))
    by false it h more =
        more h
        ∙ (ap (λ others. filter second (filter first (observers before) ++ others)) (nobody n it)
        ∙ (ap (filter second) (append-nil (filter first (observers before)))
        ∙ filter_twice first second (λ o. not (is_ended_by (n ∷ notes) o))
        (λ o. split (is_end_of n (name_of o)) (is_ended_by notes o)) (observers before)))
