-- The second part of a tick, observer after observer: who is not looked at is skipped, up to
-- the next that is due and free.
use Rattle.std.proofs.Common.{
  ◌≡◌,
  ℕ,
  zero,
  suc,
  ◌+◌,
  ◌-◌,
  ◌≤◌,
  ◌&&◌,
  nat_le,
  Bool,
  true,
  false,
  not,
  cond,
  List,
  [],
  ◌∷◌,
  ◌++◌,
  length,
  drop,
  fold,
  slice_get,
  Some,
  None,
  refl,
  sym,
  ap,
  ap₂,
  ◌∙◌,
  arith,
  append-nil,
}
use Rattle.std.specs.List.{list_any}
use Rattle.std.proofs.lemmas.Bool.{or_parts}
use Rattle.rd_base.proofs.lemmas.Options.{some_same}
use Rattle.history_model.specs.declared.entries.Entry.{Entry}
use Rattle.event_model.specs.declared.notes.Observer.{Observer}
use Rattle.event_model.specs.Events.{Event}
use Rattle.event_model.specs.Observers.{observers}
use Rattle.event_model.specs.Flights.{is_waited_for}
use Rattle.event_model.specs.Due.{Transition, is_due}
use Rattle.journal_model.specs.declared.steps.Step.{Step}
use Rattle.journal_model.specs.declared.rows.Row.{Row}
use Rattle.journal_model.specs.Effects.{Effects, joined}
use Rattle.journal_model.specs.Journal.{
  is_look,
  is_desk_row,
  transition_of,
  events,
  entries,
  now,
  transitions,
}
use Rattle.journal_model.specs.Rows.{row_with, row_moment}
use Rattle.journal_model.specs.Ticks.{
  Ticking,
  ticking,
  transition_of_tick,
  events_with,
  max_notifications,
  is_looked_at,
  notified_if,
  notification_next,
}
use Rattle.journal_model.specs.UnfinishedRow.{making}
use Rattle.journal_model.proofs.EntriesNoted.{entries_in}
use Rattle.journal_model.proofs.RowEquations.{transitions-row}
use Rattle.observation.specs.Notifications.{first_observer, next_notified}
use Rattle.rd_desk.specs.calls.Ticking.{looks_at_any}
use Rattle.rd_desk.proofs.parts.EffectLaws.{joined-nothing}

-- ---- what a tick is made from, and the journal with the row so far

-- the events are those of the journal with the row
pub events-with : (rows : List Row) (s : Step) (starved : Bool) (d : Effects)
    → events_with (ticking rows (row_moment rows s) s) d ≡ events (making rows s starved d)
unfolding events
events-with rows s starved d = refl

-- and so are the transitions, where the row enters nothing
pub transitions-with : (rows : List Row) (s : Step) (starved : Bool) (d : Effects)
    → is_look s.kind ≡ false
    → entries_in d.notes ≡ []
    → (ticking rows (row_moment rows s) s).transitions ≡ transitions (making rows s starved d)
transitions-with rows s starved d desk none =
    sym (transitions-row rows r
    ∙ (ap (λ b. cond b (transition_of r rows ∷ transitions rows) (transitions rows)) own
    ∙ ap (λ (t : Transition). t ∷ transitions rows) same))
  where
    r : Row
    r = row_with s (row_moment rows s) starved d

    own : is_desk_row r ≡ true
    own = ap not desk

    same : transition_of r rows ≡ transition_of_tick rows (row_moment rows s)
    same =
        ap (λ (es : List Entry). let t : Transition = record {
          place = length rows;
          before = entries rows;
          moment_before = now rows;
          after = es;
          moment_after = row_moment rows s;
        } in t)
        (ap (λ (es : List Entry). entries rows ++ es) none ∙ append-nil (entries rows))

-- ---- who is looked at

-- an observer that is due and free, while the row built fewer notifications than it may
looked_when : (rows : List Row) (s : Step) (starved : Bool) (d : Effects) (o : Observer)
    → is_look s.kind ≡ false
    → entries_in d.notes ≡ []
    → is_looked_at (ticking rows (row_moment rows s) s) d o
    ≡ (not (nat_le max_notifications d.drew)
    && is_due o (events (making rows s starved d)) (transitions (making rows s starved d))
    && not (is_waited_for o.peer (events (making rows s starved d))))
looked_when rows s starved d o desk none =
    ap₂ (λ (past : List Event) (seen : List Transition).
    not (nat_le max_notifications d.drew)
    && is_due o past seen
    && not (is_waited_for o.peer past)) (events-with rows s starved d)
    (transitions-with rows s starved d desk none)

-- one who is not is skipped
passed : (t : Ticking) (d : Effects) (o : Observer)
    → is_looked_at t d o ≡ false
    → notification_next t d o ≡ d
passed t d o fails = ap (λ (b : Bool). joined d (notified_if b t d o)) fails ∙ joined-nothing d

-- as many notifications were built as may be: nobody is looked at any more
pub full_passes : (t : Ticking) (d : Effects) (os : List Observer)
    → nat_le max_notifications d.drew ≡ true
    → fold (notification_next t) d os ≡ d
full_passes t d [] full = refl
full_passes t d (o ∷ os) full =
    ap (λ (e : Effects). fold (notification_next t) e os)
    (passed t d o (by (is_due o (events_with t d) t.transitions)
    (not (is_waited_for o.peer (events_with t d)))))
    ∙ full_passes t d os full
  where
    by : (a b : Bool) → (not (nat_le max_notifications d.drew) && a && b) ≡ false
    by a b = rw full refl

-- ---- up to the next

-- by a test that says who is looked at
abbrev Says : Ticking → Effects → (Observer → Bool) → Type 0
Says t d test = (o : Observer) → is_looked_at t d o ≡ test o

-- the index of the next is not before the first
next-from : (test : Observer → Bool) (from i : ℕ) (os : List Observer)
    → first_observer test from os ≡ Some i
    → from ≤ i
next-from test from i [] is = absurd (let none_is : None ≡ Some i = is in cc)
next-from test from i (x ∷ os) is = by (test x) is (λ h. next-from test (from + 1) i os h)
  where
    by : (b : Bool)
        → cond b (Some from) (first_observer test (from + 1) os) ≡ Some i
        → (first_observer test (from + 1) os ≡ Some i → from + 1 ≤ i)
        → from ≤ i
    by true h more = let same : from ≡ i = some_same h in omega (arith, same)
    by false h more = let later = more h in omega (arith, later)

to_next : (t : Ticking) (d : Effects) (test : Observer → Bool)
    → Says t d test
    → (from i : ℕ) (os : List Observer)
    → first_observer test from os ≡ Some i
    → (o : Observer) (k : ℕ)
    → i ≡ from + k
    → slice_get os k ≡ Some o
    → fold (notification_next t) d os
    ≡ fold (notification_next t) (joined d (notified_if true t d o)) (drop (suc k) os)
to_next t d test says from i [] is o k at got = absurd (let none_is : None ≡ Some i = is in cc)
to_next t d test says from i (x ∷ os) is o k at got =
    by (test x) refl is k at got (λ h n here g. to_next t d test says (from + 1) i os h o n here g)
  where
    by : (b : Bool)
        → test x ≡ b
        → cond b (Some from) (first_observer test (from + 1) os) ≡ Some i
        → (n : ℕ)
        → i ≡ from + n
        → slice_get (x ∷ os) n ≡ Some o
        → (first_observer test (from + 1) os ≡ Some i
        → (m : ℕ)
        → i ≡ (from + 1) + m
        → slice_get os m ≡ Some o
        → fold (notification_next t) d os
        ≡ fold (notification_next t) (joined d (notified_if true t d o)) (drop (suc m) os))
        → fold (notification_next t) d (x ∷ os)
        ≡ fold (notification_next t) (joined d (notified_if true t d o)) (drop (suc n) (x ∷ os))
    by true e h zero here g more =
        let same : x ≡ o = some_same g in
        ap (λ (f : Effects). fold (notification_next t) f os)
        (ap (λ (b : Bool). joined d (notified_if b t d x)) (says x ∙ e)
        ∙ ap (λ (y : Observer). joined d (notified_if true t d y)) same)
    by true e h (suc n) here g more =
        let first : from ≡ i = some_same h in absurd (omega (arith, first, here))
    by false e h zero here g more =
        let low = next-from test (from + 1) i os h in absurd (omega (arith, low, here))
    by false e h (suc n) here g more =
        ap (λ (f : Effects). fold (notification_next t) f os) (passed t d x (says x ∙ e))
        ∙ more h n (omega (arith, here)) g

to_end : (t : Ticking) (d : Effects) (test : Observer → Bool)
    → Says t d test
    → (from : ℕ) (os : List Observer)
    → first_observer test from os ≡ None
    → fold (notification_next t) d os ≡ d
to_end t d test says from [] is = refl
to_end t d test says from (x ∷ os) is =
    by (test x) refl is (λ h. to_end t d test says (from + 1) os h)
  where
    by : (b : Bool)
        → test x ≡ b
        → cond b (Some from) (first_observer test (from + 1) os) ≡ None
        → (first_observer test (from + 1) os ≡ None → fold (notification_next t) d os ≡ d)
        → fold (notification_next t) d (x ∷ os) ≡ d
    by true e h more = absurd (let some_is : Some from ≡ None = h in cc)
    by false e h more =
        ap (λ (f : Effects). fold (notification_next t) f os) (passed t d x (says x ∙ e)) ∙ more h

-- where nobody is looked at, nobody passes the test
unlooked : (t : Ticking) (d : Effects) (test : Observer → Bool)
    → Says t d test
    → (from : ℕ) (os : List Observer)
    → list_any (is_looked_at t d) os ≡ false
    → first_observer test from os ≡ None
unlooked t d test says from [] none = refl
unlooked t d test says from (o ∷ os) none =
    let parts = or_parts (is_looked_at t d o) (list_any (is_looked_at t d) os) none in
    ap (λ (b : Bool). cond b (Some from) (first_observer test (from + 1) os))
    (sym (says o) ∙ parts.0)
    ∙ unlooked t d test says (from + 1) os parts.1

-- lists from an index on
pub drop-drop : {X : Type 0} (xs : List X) (n k : ℕ)
    → drop (suc k) (drop n xs) ≡ drop (suc (n + k)) xs
drop-drop [] zero k = refl
drop-drop [] (suc n) k = refl
drop-drop (x ∷ xs) zero k = let e : 0 + k ≡ k = omega arith in ap (λ (m : ℕ). drop m xs) (sym e)
drop-drop (x ∷ xs) (suc n) k =
    let e : suc n + k ≡ suc (n + k) = omega arith in
    drop-drop xs n k ∙ ap (λ (m : ℕ). drop m xs) (sym e)

pub got-drop : {X : Type 0} (xs : List X) (n k : ℕ) → slice_get (drop n xs) k ≡ slice_get xs (n + k)
got-drop xs zero k = let e : k ≡ 0 + k = omega arith in ap (λ (m : ℕ). slice_get xs m) e
got-drop [] (suc n) k = refl
got-drop (x ∷ xs) (suc n) k =
    let e : suc (n + k) ≡ suc n + k = omega arith in
    got-drop xs n k ∙ ap (λ (m : ℕ). slice_get (x ∷ xs) m) e

-- The next that is due and free is the next that is looked at.
pub notifications-next : (rows : List Row) (s : Step) (starved : Bool) (d : Effects) (from i : ℕ)
    (o : Observer)
    → is_look s.kind ≡ false
    → entries_in d.notes ≡ []
    → nat_le max_notifications d.drew ≡ false
    → next_notified from (events (making rows s starved d)) (transitions (making rows s starved d))
    ≡ Some i
    → slice_get (observers (events (making rows s starved d))) i ≡ Some o
    → fold (notification_next (ticking rows (row_moment rows s) s)) d
    (drop from (observers (events (making rows s starved d))))
    ≡ fold (notification_next (ticking rows (row_moment rows s) s))
    (joined d (notified_if true (ticking rows (row_moment rows s) s) d o))
    (drop (i + 1) (observers (events (making rows s starved d))))
unfolding next_notified
notifications-next rows s starved d from i o desk none few is got =
    let past = events (making rows s starved d) in
    let seen = transitions (making rows s starved d) in
    let t = ticking rows (row_moment rows s) s in
    let low =
    next-from (λ x. is_due x past seen && not (is_waited_for x.peer past)) from i
    (drop from (observers past)) is in
    let k : i ≡ from + (i - from) = omega (arith, low) in
    let e : suc (from + (i - from)) ≡ i + 1 = omega (arith, low) in
    to_next t d (λ x. is_due x past seen && not (is_waited_for x.peer past))
    (λ x. looked_when rows s starved d x desk none ∙ rw few refl) from i
    (drop from (observers past)) is o (i - from) k
    (got-drop (observers past) from (i - from)
    ∙ (ap (λ (m : ℕ). slice_get (observers past) m) (sym k) ∙ got))
    ∙ ap (λ (os : List Observer). fold (notification_next t) (joined d (notified_if true t d o)) os)
    (drop-drop (observers past) from (i - from) ∙ ap (λ (m : ℕ). drop m (observers past)) e)

-- Where none is due and free, nobody is looked at any more.
pub notifications-end : (rows : List Row) (s : Step) (starved : Bool) (d : Effects) (from : ℕ)
    → is_look s.kind ≡ false
    → entries_in d.notes ≡ []
    → nat_le max_notifications d.drew ≡ false
    → next_notified from (events (making rows s starved d)) (transitions (making rows s starved d))
    ≡ None
    → fold (notification_next (ticking rows (row_moment rows s) s)) d
    (drop from (observers (events (making rows s starved d))))
    ≡ d
unfolding next_notified
notifications-end rows s starved d from desk none few is =
    let past = events (making rows s starved d) in
    let seen = transitions (making rows s starved d) in
    to_end (ticking rows (row_moment rows s) s) d
    (λ x. is_due x past seen && not (is_waited_for x.peer past))
    (λ x. looked_when rows s starved d x desk none ∙ rw few refl) from
    (drop from (observers past)) is

-- Where nobody is looked at, none is due and free.
pub next-unlooked : (rows : List Row) (s : Step) (starved : Bool) (d : Effects)
    → is_look s.kind ≡ false
    → entries_in d.notes ≡ []
    → nat_le max_notifications d.drew ≡ false
    → looks_at_any (ticking rows (row_moment rows s) s) d ≡ false
    → next_notified 0 (events (making rows s starved d)) (transitions (making rows s starved d))
    ≡ None
unfolding next_notified
next-unlooked rows s starved d desk none few silent =
    let past = events (making rows s starved d) in
    let seen = transitions (making rows s starved d) in
    let t = ticking rows (row_moment rows s) s in
    unlooked t d (λ x. is_due x past seen && not (is_waited_for x.peer past))
    (λ x. looked_when rows s starved d x desk none ∙ rw few refl) 0 (observers past)
    (ap (λ (es : List Event). list_any (is_looked_at t d) (observers es))
    (sym (events-with rows s starved d))
    ∙ silent)
