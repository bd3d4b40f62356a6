-- Who is due in the middle of a step: after time that passed, after an entry, and after notes.
use Rattle.std.proofs.Common.{
  ◌≡◌,
  ℕ,
  ◌<◌,
  ◌≤◌,
  Bool,
  true,
  false,
  ◌||◌,
  cond,
  List,
  [],
  ◌∷◌,
  ◌++◌,
  filter,
  Option,
  Some,
  None,
  nat_lt,
  refl,
  sym,
  ap,
  ◌∙◌,
  lt-ltb,
  arith,
}
use Rattle.std.specs.List.{AllByRecursion, list_any}
use Rattle.std.proofs.lemmas.Bool.Decides.{nat_tests}
use Rattle.history_model.specs.declared.entries.Entry.{Entry}
use Rattle.history_model.specs.Replay.{replay, numbered, number_about}
use Rattle.history_model.specs.Live.{live}
use Rattle.history_model.specs.Refusals.{change_refusal}
use Rattle.event_model.specs.declared.notes.Note.{Note}
use Rattle.event_model.specs.declared.notes.Observer.{Observer}
use Rattle.event_model.specs.Events.{Event, noted, last_event}
use Rattle.event_model.specs.Observers.{name_of}
use Rattle.event_model.specs.Due.{
  Transition,
  is_change_of,
  is_looking_for,
  is_changed_since,
  is_due,
}
use Rattle.event_model.proofs.NotedLaws.{Found, last_event-before, last_event-here}
use Rattle.history_model.specs.ChangedParts.{is_other_part, is_lapse_of}
use Rattle.event_model.proofs.TransitionLaws.{
  transition,
  time_changes,
  entry_changes,
  transition_splits,
}

-- the observer was looked at before this place
pub record IsLookedAt (o : Observer) (past : List Event) (place : ℕ) : Type 0 where
  pub event : Event
  pub last : last_event (is_looking_for (name_of o)) past ≡ Some event
  pub before : event.place < place

-- one transition more
pub due_more : (o : Observer) (past : List Event) (t : Transition) (seen : List Transition)
    → IsLookedAt o past t.place
    → is_due o past (t ∷ seen) ≡ (is_change_of o.query t || is_due o past seen)
unfolding is_due
due_more o past t seen looked =
    rw (looked.last, lt-ltb looked.event.place t.place looked.before) refl

-- time that passes
pub due_later : (o : Observer) (past : List Event) (seen : List Transition) (place : ℕ)
    (history : List Entry) (from to : ℕ)
    → IsLookedAt o past place
    → from ≤ to
    → is_due o past (transition place history from history to ∷ seen)
    ≡ (is_lapse_of o.query from to (replay history).records || is_due o past seen)
due_later o past seen place history from to looked order =
    due_more o past (transition place history from history to) seen looked
    ∙ ap (λ b. b || is_due o past seen) (time_changes o.query place history from to order)

-- an entry, after it
pub due_entered : (o : Observer) (past : List Event) (seen : List Transition) (place : ℕ)
    (history : List Entry) (entry : Entry) (moment : ℕ)
    → IsLookedAt o past place
    → is_due o past (transition place history moment (history ++ entry ∷ []) moment ∷ seen)
    ≡ (is_other_part o.query
    (numbered (number_about (replay history) entry.moment.0 entry.change) (live history moment))
    (numbered (number_about (replay history) entry.moment.0 entry.change)
    (live (history ++ entry ∷ []) moment))
    || is_due o past seen)
due_entered o past seen place history entry moment looked =
    due_more o past (transition place history moment (history ++ entry ∷ []) moment) seen looked
    ∙ ap (λ b. b || is_due o past seen) (entry_changes o.query place history entry moment)

-- both are one transition
pub due_joined : (o : Observer) (past : List Event) (seen : List Transition) (place first : ℕ)
    (history : List Entry) (entry : Entry) (from : ℕ)
    → from ≤ entry.moment.0
    → change_refusal first history entry ≡ None
    → is_due o past (transition place history entry.moment.0 (history ++ entry ∷ []) entry.moment.0
    ∷ transition place history from history entry.moment.0
    ∷ seen)
    ≡ is_due o past
    (transition place history from (history ++ entry ∷ []) entry.moment.0 ∷ seen)
unfolding is_due
due_joined o past seen place first history entry from order accepts =
    by (last_event (is_looking_for (name_of o)) past)
  where
    passing : Transition
    passing = transition place history from history entry.moment.0

    changing : Transition
    changing = transition place history entry.moment.0 (history ++ entry ∷ []) entry.moment.0

    whole : Transition
    whole = transition place history from (history ++ entry ∷ []) entry.moment.0

    swapped : (a b c : Bool) → (b || (a || c)) ≡ ((a || b) || c)
    swapped true true c = refl
    swapped true false c = refl
    swapped false true c = refl
    swapped false false c = refl

    kept : (looked : Event) (b : Bool) (rest : List Transition)
        → list_any (is_change_of o.query)
        (cond b (changing ∷ cond b (passing ∷ rest) rest) (cond b (passing ∷ rest) rest))
        ≡ list_any (is_change_of o.query) (cond b (whole ∷ rest) rest)
    kept looked true rest =
        swapped (is_change_of o.query passing) (is_change_of o.query changing)
        (list_any (is_change_of o.query) rest)
        ∙ ap (λ b. b || list_any (is_change_of o.query) rest)
        (sym (transition_splits o.query place first history entry from order accepts))
    kept looked false rest = refl

    by : (l : Option Event)
        → is_changed_since o.query (changing ∷ passing ∷ seen) l
        ≡ is_changed_since o.query (whole ∷ seen) l
    by None = refl
    by (Some looked) =
        kept looked (nat_lt looked.place place) (filter (λ t. nat_lt looked.place t.place) seen)

-- notes that do not look at it
pub due_quiet : (o : Observer) (past : List Event) (seen : List Transition) (place moment word : ℕ)
    (notes : List Note)
    → list_any (is_looking_for (name_of o)) notes ≡ false
    → is_due o (noted place moment word notes past) seen ≡ is_due o past seen
unfolding is_due
due_quiet o past seen place moment word notes quiet =
    ap (is_changed_since o.query seen)
    (last_event-before (is_looking_for (name_of o)) place moment word notes past quiet)

none_later : (place : ℕ) (query : Transition → Bool) (seen : List Transition)
    → AllByRecursion (λ t. t.place ≤ place) seen
    → list_any query (filter (λ t. nat_lt place t.place) seen) ≡ false
none_later place query [] h = refl
none_later place query (t ∷ seen) h =
    let low = h.0 in
    let not_after : nat_lt place t.place ≡ false = grind (arith, nat_tests, low) in
    rw not_after (none_later place query seen h.1)

-- notes that look at it
pub due_looked : (o : Observer) (past : List Event) (seen : List Transition) (place moment word : ℕ)
    (notes : List Note)
    → AllByRecursion (λ t. t.place ≤ place) seen
    → list_any (is_looking_for (name_of o)) notes ≡ true
    → is_due o (noted place moment word notes past) seen ≡ false
unfolding is_due
due_looked o past seen place moment word notes low looks =
    by (last_event-here (is_looking_for (name_of o)) place moment word notes past looks)
  where
    by : Found (is_looking_for (name_of o)) (noted place moment word notes past) place moment
        → is_changed_since o.query seen
        (last_event (is_looking_for (name_of o)) (noted place moment word notes past))
        ≡ false
    by found = rw (found.last, found.at_place) (none_later place (is_change_of o.query) seen low)
