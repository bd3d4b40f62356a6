-- A plan, observer after observer: one to whose peer a notification is planned is skipped, and
-- any other that is due and free comes next.
use Rattle.std.proofs.Common.{
  ◌≡◌,
  ℕ,
  zero,
  suc,
  ◌+◌,
  ◌-◌,
  ◌<◌,
  ◌≤◌,
  ◌&&◌,
  ◌||◌,
  nat_le,
  Bool,
  true,
  false,
  not,
  cond,
  List,
  [],
  ◌∷◌,
  length,
  drop,
  fold,
  slice_get,
  Option,
  Some,
  None,
  refl,
  sym,
  ap,
  ap₂,
  subst,
  ◌∙◌,
  arith,
}
use Rattle.std.specs.List.{list_any}
use Rattle.std.proofs.lemmas.Bool.Decides.{nat_tests}
use Rattle.rd_base.specs.declared.peers.Peer.{Peer}
use Rattle.rd_base.proofs.lemmas.Options.{some_same}
use Rattle.event_model.specs.declared.notes.Observer.{Observer}
use Rattle.event_model.specs.Events.{Event}
use Rattle.event_model.specs.Flights.{is_waited_for}
use Rattle.event_model.specs.Due.{Transition, is_due}
use Rattle.event_model.specs.Observers.{observers}
use Rattle.event_model.specs.Same.{is_same_peer}
use Rattle.journal_model.specs.declared.steps.Step.{Step}
use Rattle.journal_model.specs.declared.rows.Row.{Row}
use Rattle.journal_model.specs.Effects.{Effects}
use Rattle.journal_model.specs.Journal.{is_look, events, transitions}
use Rattle.journal_model.specs.Rows.{row_moment}
use Rattle.journal_model.specs.Ticks.{ticking, max_notifications, notification_next}
use Rattle.journal_model.specs.UnfinishedRow.{making}
use Rattle.journal_model.proofs.EntriesNoted.{entries_in}
use Rattle.observers.specs.Standing.{Standing, is_awaited, is_ready, first_from, next_ready}
use Rattle.observation.specs.Notifications.{first_observer, next_notified}
use Rattle.observation.specs.Watching.{Watching, WatchingStandsFor}
use Rattle.observation.proofs.TickLaws.{next-StandsFor, got_inside}
use Rattle.rd_desk.specs.declared.tick.planning.Plan.{Plan}
use Rattle.transfers.specs.Keeping.{NamedAnswer}
use Rattle.rd_desk.specs.declared.tick.planning.Planned.{Planned}
use Rattle.rd_desk.specs.parts.Planning.{AreDone, PlannedUpTo}
use Rattle.rd_desk.proofs.ticking.NotificationWalk.{
  notifications-next,
  notifications-end,
  drop-drop,
  got-drop,
}
use Rattle.rd_desk.proofs.ticking.PlanLaws.{free_before}

-- ---- the first that passes one test, and the first that passes a stronger one

pub first-least : (test : Standing → Bool) (i j : ℕ) (xs : List Standing)
    → first_from test i xs ≡ Some j
    → i ≤ j
first-least test i j [] h = absurd (let none_is : None ≡ Some j = h in cc)
first-least test i j (x ∷ xs) h = by (test x) h (λ g. first-least test (i + 1) j xs g)
  where
    by : (b : Bool)
        → cond b (Some i) (first_from test (i + 1) xs) ≡ Some j
        → (first_from test (i + 1) xs ≡ Some j → i + 1 ≤ j)
        → i ≤ j
    by true g more = let same : i ≡ j = some_same g in omega (arith, same)
    by false g more = let later = more g in omega (arith, later)

-- what comes of the first of the weaker test, by the stronger one
first-either : (weak strong : Standing → Bool)
    → ((x : Standing) → weak x ≡ false → strong x ≡ false)
    → (i j k : ℕ) (xs : List Standing) (x : Standing) (b : Bool)
    → first_from weak i xs ≡ Some j
    → j ≡ i + k
    → slice_get xs k ≡ Some x
    → strong x ≡ b
    → first_from strong i xs ≡ cond b (Some j) (first_from strong (j + 1) (drop (suc k) xs))
first-either weak strong stronger i j k [] x b h at got is =
    absurd (let none_is : None ≡ Some j = h in cc)
first-either weak strong stronger i j k (y ∷ ys) x b h at got is =
    by (weak y) refl h k at got
    (λ g n here there. first-either weak strong stronger (i + 1) j n ys x b g here there is)
  where
    by : (c : Bool)
        → weak y ≡ c
        → cond c (Some i) (first_from weak (i + 1) ys) ≡ Some j
        → (n : ℕ)
        → j ≡ i + n
        → slice_get (y ∷ ys) n ≡ Some x
        → (first_from weak (i + 1) ys ≡ Some j
        → (m : ℕ)
        → j ≡ (i + 1) + m
        → slice_get ys m ≡ Some x
        → first_from strong (i + 1) ys
        ≡ cond b (Some j) (first_from strong (j + 1) (drop (suc m) ys)))
        → cond (strong y) (Some i) (first_from strong (i + 1) ys)
        ≡ cond b (Some j) (first_from strong (j + 1) (drop (suc n) (y ∷ ys)))
    by true e g zero here there more =
        let same : y ≡ x = some_same there in
        let index : i ≡ j = some_same g in
        ap₂ (λ (a : Bool) (n : ℕ). cond a (Some n) (first_from strong (n + 1) ys))
        (ap strong same ∙ is) index
    by true e g (suc n) here there more =
        let index : i ≡ j = some_same g in absurd (omega (arith, index, here))
    by false e g zero here there more =
        let later = first-least weak (i + 1) j ys g in absurd (omega (arith, later, here))
    by false e g (suc n) here there more =
        ap (λ (a : Bool). cond a (Some i) (first_from strong (i + 1) ys)) (stronger y e)
        ∙ more g n (omega (arith, here)) there

-- the first passes
pub first-passes : (test : Standing → Bool) (i j k : ℕ) (xs : List Standing) (x : Standing)
    → first_from test i xs ≡ Some j
    → j ≡ i + k
    → slice_get xs k ≡ Some x
    → test x ≡ true
first-passes test i j k [] x h at got = absurd (let none_is : None ≡ Some j = h in cc)
first-passes test i j k (y ∷ ys) x h at got =
    by (test y) refl h k at got (λ g n here there. first-passes test (i + 1) j n ys x g here there)
  where
    by : (c : Bool)
        → test y ≡ c
        → cond c (Some i) (first_from test (i + 1) ys) ≡ Some j
        → (n : ℕ)
        → j ≡ i + n
        → slice_get (y ∷ ys) n ≡ Some x
        → (first_from test (i + 1) ys ≡ Some j
        → (m : ℕ)
        → j ≡ (i + 1) + m
        → slice_get ys m ≡ Some x
        → test x ≡ true)
        → test x ≡ true
    by true e g zero here there more =
        let same : y ≡ x = some_same there in subst (λ (z : Standing). test z ≡ true) same e
    by true e g (suc n) here there more =
        let index : i ≡ j = some_same g in absurd (omega (arith, index, here))
    by false e g zero here there more =
        let later = first-least test (i + 1) j ys g in absurd (omega (arith, later, here))
    by false e g (suc n) here there more = more g n (omega (arith, here)) there

-- ---- the next after a plan

-- the next that is free where nothing was planned is the next, unless a notification to its peer is
-- planned: then the one after it is
pub planned_next : (rows : List Row) (s : Step) (starved : Bool) (current : List ℕ)
    (whole first : Effects) (ws : List Standing) (given : ℕ) (p : Plan) (from index : ℕ)
    (x : Standing)
    → next_ready from ws ≡ Some index
    → slice_get ws index ≡ Some x
    → (h : PlannedUpTo rows s starved current whole first ws given p from)
    → next_notified from (events (making rows s starved h.done))
    (transitions (making rows s starved h.done))
    ≡ cond (list_any (λ q. is_same_peer q x.peer) p.peers.items)
    (next_notified (index + 1) (events (making rows s starved h.done))
    (transitions (making rows s starved h.done))) (Some index)
unfolding next_ready
planned_next rows s starved current whole first ws given p from index x is got h =
    sym (next-StandsFor (making rows s starved h.done) h.watching from h.stands)
    ∙ (ap (λ (xs : List Standing). first_from strong from xs) h.same
    ∙ (first-either weak strong (free_before rows s starved current whole first ws given p from h)
    from index (index - from) (drop from ws) x (strong x) is at there refl
    ∙ by (list_any (λ (q : Peer). is_same_peer q x.peer) p.peers.items)
    (ap (λ (a : Bool). x.due && not a) (h.awaited x.peer))
    (first-passes weak from index (index - from) (drop from ws) x is at there)))
  where
    weak : Standing → Bool
    weak = is_ready ws

    strong : Standing → Bool
    strong = is_ready h.watching.observers

    low : from ≤ index
    low = first-least (is_ready ws) from index (drop from ws) is

    at : index ≡ from + (index - from)
    at = let l = low in omega (arith, l)

    there : slice_get (drop from ws) (index - from) ≡ Some x
    there = got-drop ws from (index - from) ∙ (ap (λ (n : ℕ). slice_get ws n) (sym at) ∙ got)

    rest : drop (suc (index - from)) (drop from ws) ≡ drop (index + 1) h.watching.observers
    rest =
        let l = low in
        let e : suc (from + (index - from)) ≡ index + 1 = omega (arith, l) in
        ap (λ (xs : List Standing). drop (suc (index - from)) xs) (sym h.same)
        ∙ (drop-drop h.watching.observers from (index - from)
        ∙ ap (λ (n : ℕ). drop n h.watching.observers) e)

    later :
        first_from strong (index + 1) (drop (suc (index - from)) (drop from ws))
        ≡ next_notified (index + 1) (events (making rows s starved h.done))
        (transitions (making rows s starved h.done))
    later =
        ap (λ (xs : List Standing). first_from strong (index + 1) xs) rest
        ∙ next-StandsFor (making rows s starved h.done) h.watching (index + 1) h.stands

    by : (planned : Bool)
        → strong x ≡ (x.due && not (is_awaited x.peer ws || planned))
        → weak x ≡ true
        → cond (strong x) (Some index)
        (first_from strong (index + 1) (drop (suc (index - from)) (drop from ws)))
        ≡ cond planned (next_notified (index + 1) (events (making rows s starved h.done))
        (transitions (making rows s starved h.done))) (Some index)
    by true is_strong free =
        ap (λ (b : Bool).
        cond b (Some index)
        (first_from strong (index + 1) (drop (suc (index - from)) (drop from ws))))
        (is_strong ∙ none x.due (is_awaited x.peer ws))
        ∙ later
      where
        none : (due a : Bool) → (due && not (a || true)) ≡ false
        none true true = refl
        none true false = refl
        none false a = refl
    by false is_strong free =
        ap (λ (b : Bool).
        cond b (Some index)
        (first_from strong (index + 1) (drop (suc (index - from)) (drop from ws))))
        (is_strong ∙ (same x.due (is_awaited x.peer ws) ∙ free))
      where
        same : (due a : Bool) → (due && not (a || false)) ≡ (due && not a)
        same true true = refl
        same true false = refl
        same false a = refl

-- ---- one to whose peer a notification is planned

-- the same come next from another index on: what is done is the same
same_fold : (rows : List Row) (s : Step) (starved : Bool) (d : Effects) (from other : ℕ)
    (w : Watching)
    → is_look s.kind ≡ false
    → entries_in d.notes ≡ []
    → nat_le max_notifications d.drew ≡ false
    → WatchingStandsFor (making rows s starved d) w
    → (n : Option ℕ)
    → next_notified from (events (making rows s starved d)) (transitions (making rows s starved d))
    ≡ n
    → next_notified other (events (making rows s starved d)) (transitions (making rows s starved d))
    ≡ n
    → ((i : ℕ) → n ≡ Some i → i < length (observers (events (making rows s starved d))))
    → fold (notification_next (ticking rows (row_moment rows s) s)) d
    (drop from (observers (events (making rows s starved d))))
    ≡ fold (notification_next (ticking rows (row_moment rows s) s)) d
    (drop other (observers (events (making rows s starved d))))
same_fold rows s starved d from other w desk silent room stands None one two within =
    notifications-end rows s starved d from desk silent room one
    ∙ sym (notifications-end rows s starved d other desk silent room two)
same_fold rows s starved d from other w desk silent room stands (Some i) one two within =
    let found = got_inside (observers (events (making rows s starved d))) i (within i refl) in
    notifications-next rows s starved d from i found.0 desk silent room one found.1
    ∙ sym (notifications-next rows s starved d other i found.0 desk silent room two found.1)

-- the next is one of them
length-drop : {X : Type 0} (xs : List X) (n : ℕ) → length (drop n xs) ≡ length xs - n
length-drop [] zero = omega arith
length-drop [] (suc n) = omega arith
length-drop (x ∷ xs) zero = omega arith
length-drop (x ∷ xs) (suc n) = let rest = length-drop xs n in omega (arith, rest)

first_within : (test : Observer → Bool) (i j : ℕ) (xs : List Observer)
    → first_observer test i xs ≡ Some j
    → j < i + length xs
first_within test i j [] h = absurd (let none_is : None ≡ Some j = h in cc)
first_within test i j (x ∷ xs) h = by (test x) h (λ g. first_within test (i + 1) j xs g)
  where
    by : (b : Bool)
        → cond b (Some i) (first_observer test (i + 1) xs) ≡ Some j
        → (first_observer test (i + 1) xs ≡ Some j → j < (i + 1) + length xs)
        → j < i + length (x ∷ xs)
    by true g more = let same : i ≡ j = some_same g in omega (arith, same)
    by false g more = let later = more g in omega (arith, later)

first_low : (test : Observer → Bool) (i j : ℕ) (xs : List Observer)
    → first_observer test i xs ≡ Some j
    → i ≤ j
first_low test i j [] h = absurd (let none_is : None ≡ Some j = h in cc)
first_low test i j (x ∷ xs) h = by (test x) h (λ g. first_low test (i + 1) j xs g)
  where
    by : (b : Bool)
        → cond b (Some i) (first_observer test (i + 1) xs) ≡ Some j
        → (first_observer test (i + 1) xs ≡ Some j → i + 1 ≤ j)
        → i ≤ j
    by true g more = let same : i ≡ j = some_same g in omega (arith, same)
    by false g more = let later = more g in omega (arith, later)

next_within : (from i : ℕ) (past : List Event) (seen : List Transition)
    → next_notified from past seen ≡ Some i
    → i < length (observers past)
unfolding next_notified
next_within from i past seen is =
    let high =
    first_within (λ o. is_due o past seen && not (is_waited_for o.peer past)) from i
    (drop from (observers past)) is in
    let low =
    first_low (λ o. is_due o past seen && not (is_waited_for o.peer past)) from i
    (drop from (observers past)) is in
    let size = length-drop (observers past) from in
    omega (arith, high, low, size)

-- the plan goes on from the index after it
later_done : (rows : List Row) (s : Step) (starved : Bool) (current : List ℕ) (whole done : Effects)
    (from other : ℕ) (ps : List Planned) (kept : List NamedAnswer)
    → next_notified from (events (making rows s starved done))
    (transitions (making rows s starved done))
    ≡ next_notified other (events (making rows s starved done))
    (transitions (making rows s starved done))
    → AreDone rows s starved current whole done other ps kept
    → AreDone rows s starved current whole done from ps kept
later_done rows s starved current whole done from other [] kept same h = h
later_done rows s starved current whole done from other (p ∷ ps) kept same h = (
  record {
    index =
        h.0.index;
    observer =
        h.0.observer;
    next =
        same ∙ h.0.next;
    got = h.0.got;
    may = h.0.may;
    room = h.0.room;
  },
  h.1,
  h.2,
  h.3,
)

-- an observer to whose peer a notification is planned is skipped
pub planned_skips : (rows : List Row) (s : Step) (starved : Bool) (current : List ℕ)
    (whole first : Effects) (ws : List Standing) (given : ℕ) (p : Plan) (from index : ℕ)
    (x : Standing)
    → is_look s.kind ≡ false
    → length p.peers.items < 64
    → next_ready from ws ≡ Some index
    → slice_get ws index ≡ Some x
    → list_any (λ q. is_same_peer q x.peer) p.peers.items ≡ true
    → PlannedUpTo rows s starved current whole first ws given p from
    → PlannedUpTo rows s starved current whole first ws given p (index + 1)
unfolding next_ready
planned_skips rows s starved current whole first ws given p from index x desk few is got planned h =
    record {
      begins = h.begins;
      done = h.done;
      watching = h.watching;
      stands = h.stands;
      standing = h.standing;
      same = after;
      awaited = h.awaited;
      drew = h.drew;
      few = h.few;
      sent = h.sent;
      size = h.size;
      observed = h.observed;
      silent = h.silent;
      left =
          h.left
          ∙ same_fold rows s starved h.done from (index + 1) h.watching desk h.silent room h.stands
          (next_notified (index + 1) (events Made) (transitions Made)) next refl within;
      plan =
          λ more later done.
          h.plan more later
          (later_done rows s starved current whole h.done from (index + 1) more later next
          done);
    }
  where
    Made : List Row
    Made = making rows s starved h.done

    next :
        next_notified from (events Made) (transitions Made)
        ≡ next_notified (index + 1) (events Made) (transitions Made)
    next =
        planned_next rows s starved current whole first ws given p from index x is got h
        ∙ ap (λ (b : Bool).
        cond b (next_notified (index + 1) (events Made) (transitions Made)) (Some index))
        planned

    room : nat_le max_notifications h.done.drew ≡ false
    room = let drew = h.drew in below h.done.drew (omega (arith, few, drew))
      where
        below : (n : ℕ) → n < 64 → nat_le 64 n ≡ false
        below n k = grind (arith, nat_tests, k)

    low : from ≤ index
    low = first-least (is_ready ws) from index (drop from ws) is

    after : drop (index + 1) h.watching.observers ≡ drop (index + 1) ws
    after =
        let l = low in
        let e : suc (from + (index - from)) ≡ index + 1 = omega (arith, l) in
        sym (drop-drop h.watching.observers from (index - from)
        ∙ ap (λ (n : ℕ). drop n h.watching.observers) e)
        ∙ (ap (λ (xs : List Standing). drop (suc (index - from)) xs) h.same
        ∙ (drop-drop ws from (index - from) ∙ ap (λ (n : ℕ). drop n ws) e))

    within : (i : ℕ)
        → next_notified (index + 1) (events Made) (transitions Made) ≡ Some i
        → i < length (observers (events Made))
    within i found = next_within (index + 1) i (events Made) (transitions Made) found
