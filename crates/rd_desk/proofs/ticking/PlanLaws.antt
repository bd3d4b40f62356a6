-- A plan, from its beginning to its end: it begins where notifications were retransmitted, and ends
-- where nobody is looked at any more.
use Rattle.std.proofs.Common.{
  ◌≡◌,
  ℕ,
  ◌+◌,
  ◌<◌,
  ◌≤◌,
  ◌&&◌,
  ◌||◌,
  nat_le,
  Bool,
  true,
  false,
  not,
  cond,
  List,
  [],
  ◌∷◌,
  ◌++◌,
  length,
  drop,
  Some,
  None,
  refl,
  sym,
  ap,
  subst,
  ◌∙◌,
  arith,
  append-nil,
}
use Rattle.std.specs.List.{list_any, AllByRecursion}
use Rattle.std.proofs.lemmas.Bool.{false≢true}
use Rattle.std.proofs.lemmas.Bool.Decides.{nat_tests}
use Rattle.rd_base.specs.declared.peers.Peer.{Peer}
use Rattle.rd_base.proofs.lemmas.Each.{each_weaker}
use Rattle.event_model.specs.Flights.{is_waited_for}
use Rattle.event_model.specs.Observers.{observers, observe_values_sent}
use Rattle.event_model.specs.Same.{is_same_peer}
use Rattle.journal_model.specs.declared.steps.Step.{Step}
use Rattle.journal_model.specs.declared.rows.Row.{Row}
use Rattle.journal_model.specs.Effects.{Effects}
use Rattle.journal_model.specs.Journal.{is_look, events}
use Rattle.journal_model.specs.Rows.{row_moment}
use Rattle.journal_model.specs.Ticks.{
  ticking,
  max_notifications,
  notifications_again,
  notifications,
}
use Rattle.journal_model.specs.UnfinishedRow.{making}
use Rattle.journal_model.proofs.NoteKinds.{again_tick, tick-entries_in}
use Rattle.journal_model.proofs.StepNotes.{notifications_again-notes}
use Rattle.journal_model.proofs.flights.NotificationsAgain.{
  AgainSent,
  again_peer,
  again_sends,
  again_waits,
}
use Rattle.journal_model.proofs.flights.WaitedPeers.{waited}
use Rattle.transfers.specs.Keeping.{NamedAnswer}
use Rattle.observers.specs.Standing.{Standing, is_awaited, is_ready, first_from, next_ready}
use Rattle.observers.proofs.MarkLaws.{awaited-StandsFor}
use Rattle.coap_answers.specs.declared.mids.Mids.{Mids}
use Rattle.observation.specs.Watching.{Watching, WatchingStandsFor}
use Rattle.observation.proofs.TickLaws.{next-StandsFor}
use Rattle.rd_desk.specs.declared.tick.planning.Plan.{Plan}
use Rattle.rd_desk.specs.declared.tick.planning.Planned.{Planned}
use Rattle.rd_desk.specs.calls.Desks.{Seen}
use Rattle.rd_desk.specs.parts.Planning.{AreDone, PlannedUpTo}
use Rattle.rd_desk.specs.parts.UnderWay.{UnderWay}
use Rattle.rd_desk.proofs.ticking.BoundLaws.{few_observers}
use Rattle.rd_desk.proofs.ticking.NotificationWalk.{full_passes, notifications-end}
use Rattle.rd_desk.proofs.ticking.WholeTick.{again_size, again_draws}

-- ---- it begins

-- whoever got a message again is waited for
again_awaited : (rows : List Row) (s : Step) (starved : Bool) (w : Watching)
    → WatchingStandsFor (making rows s starved (notifications_again rows (row_moment rows s))) w
    → AllByRecursion (λ d. is_awaited d.0 w.observers ≡ true)
    (notifications_again rows (row_moment rows s)).sent
unfolding events
again_awaited rows s starved w h =
    each_weaker (AgainSent rows (row_moment rows s))
    (λ (d : Peer × List ℕ). is_awaited d.0 w.observers ≡ true) one
    (notifications_again rows (row_moment rows s)).sent (again_sends rows (row_moment rows s))
  where
    one : (d : Peer × List ℕ)
        → AgainSent rows (row_moment rows s) d
        → is_awaited d.0 w.observers ≡ true
    one d a =
        awaited-StandsFor h.queries _ _ _ w.observers d.0 h.observers
        ∙ (ap (λ (p : Peer).
        is_waited_for p
        (events (making rows s starved (notifications_again rows (row_moment rows s)))))
        (again_peer rows (row_moment rows s) d a)
        ∙ waited a.observer.peer
        (events (making rows s starved (notifications_again rows (row_moment rows s))))
        (again_waits rows (row_moment rows s) s.word a.observer a.flight_is a.again))

pub planned_begins : (rows : List Row) (s : Step) (starved : Bool) (current : List ℕ) (d : Seen)
    (p : Plan) (out : List (Peer × List ℕ)) (mids : Mids)
    → p.items.items ≡ []
    → p.peers.items ≡ []
    → p.kept.items ≡ []
    → UnderWay rows s starved (notifications_again rows (row_moment rows s)) d out mids
    → PlannedUpTo rows s starved current
    (notifications (ticking rows (row_moment rows s) s)
    (notifications_again rows (row_moment rows s)))
    (notifications_again rows (row_moment rows s)) d.watching.observers d.observed p 0
unfolding notifications observe_values_sent events
planned_begins rows s starved current d p out mids items peers kept way =
    let first = notifications_again rows (row_moment rows s) in
    let none : length p.peers.items ≡ 0 = ap (λ (ps : List Peer). length ps) peers in
    let drew = again_draws rows (row_moment rows s) in
    let size = again_size rows (row_moment rows s) in
    let few = few_observers rows way.journal in
    let given = way.stands.observed in
    record {
      begins = refl;
      done = first;
      watching = d.watching;
      stands = way.stands.watching;
      standing = refl;
      same = refl;
      awaited =
          λ peer.
          sym (ap (λ (ps : List Peer).
          is_awaited peer d.watching.observers
          || list_any (λ (q : Peer). is_same_peer q peer) ps) peers
          ∙ or_false (is_awaited peer d.watching.observers));
      drew = drew ∙ sym none;
      few = omega (arith, none);
      sent = again_awaited rows s starved d.watching way.stands.watching;
      size = omega (arith, size, few, none);
      silent =
          tick-entries_in first.notes
          (again_tick first.notes (notifications_again-notes rows (row_moment rows s)));
      observed = omega (arith, given, none);
      left = refl;
      plan =
          λ more later done.
          subst (λ (xs : List Planned).
          AreDone rows s starved current
          (notifications (ticking rows (row_moment rows s) s) first) first 0 (xs ++ more)
          (p.kept.items ++ later)) (sym items)
          (subst (λ (ks : List NamedAnswer).
          AreDone rows s starved current
          (notifications (ticking rows (row_moment rows s) s) first) first 0 more
          (ks ++ later)) (sym kept) done);
    }
  where
    or_false : (b : Bool) → (b || false) ≡ b
    or_false true = refl
    or_false false = refl

-- ---- it ends

-- what is done when nobody is looked at any more is all
planned_all : (rows : List Row) (s : Step) (starved : Bool) (current : List ℕ)
    (whole first : Effects) (ws : List Standing) (given : ℕ) (p : Plan) (from : ℕ)
    → (h : PlannedUpTo rows s starved current whole first ws given p from)
    → h.done ≡ whole → AreDone rows s starved current whole first 0 p.items.items p.kept.items
planned_all rows s starved current whole first ws given p from h is =
    subst (λ (xs : List Planned). AreDone rows s starved current whole first 0 xs p.kept.items)
    (append-nil p.items.items)
    (subst (λ (ks : List NamedAnswer).
    AreDone rows s starved current whole first 0 (p.items.items ++ []) ks)
    (append-nil p.kept.items) (h.plan [] [] (is, refl)))

-- where one test is stronger than another, none passes it where none passes the other
first-none : (weak strong : Standing → Bool)
    → ((x : Standing) → weak x ≡ false → strong x ≡ false)
    → (i : ℕ) (xs : List Standing)
    → first_from weak i xs ≡ None
    → first_from strong i xs ≡ None
first-none weak strong stronger i [] h = refl
first-none weak strong stronger i (x ∷ xs) h =
    by (weak x) refl h (λ g. first-none weak strong stronger (i + 1) xs g)
  where
    by : (b : Bool)
        → weak x ≡ b
        → cond b (Some i) (first_from weak (i + 1) xs) ≡ None
        → (first_from weak (i + 1) xs ≡ None → first_from strong (i + 1) xs ≡ None)
        → cond (strong x) (Some i) (first_from strong (i + 1) xs) ≡ None
    by true e g more = absurd (let some_is : Some i ≡ None = g in cc)
    by false e g more =
        ap (λ (b : Bool). cond b (Some i) (first_from strong (i + 1) xs)) (stronger x e) ∙ more g

-- whoever is free with more notifications planned is free without them
pub free_before : (rows : List Row) (s : Step) (starved : Bool) (current : List ℕ)
    (whole first : Effects) (ws : List Standing) (given : ℕ) (p : Plan) (from : ℕ)
    → (h : PlannedUpTo rows s starved current whole first ws given p from)
    → (x : Standing) → is_ready ws x ≡ false → is_ready h.watching.observers x ≡ false
free_before rows s starved current whole first ws given p from h x fails =
    ap (λ (a : Bool). x.due && not a) (h.awaited x.peer)
    ∙ by x.due (is_awaited x.peer ws) (list_any (λ (q : Peer). is_same_peer q x.peer) p.peers.items)
    fails
  where
    by : (due a b : Bool) → (due && not a) ≡ false → (due && not (a || b)) ≡ false
    by false a b k = refl
    by true true b k = refl
    by true false b k = absurd (false≢true (sym k))

-- nobody else is due and free
pub planned_none : (rows : List Row) (s : Step) (starved : Bool) (current : List ℕ)
    (whole first : Effects) (ws : List Standing) (given : ℕ) (p : Plan) (from : ℕ)
    → is_look s.kind ≡ false
    → length p.peers.items < 64
    → next_ready from ws ≡ None
    → PlannedUpTo rows s starved current whole first ws given p from
    → AreDone rows s starved current whole first 0 p.items.items p.kept.items
unfolding next_ready
planned_none rows s starved current whole first ws given p from desk few last h =
    let drew = h.drew in
    let room : nat_le max_notifications h.done.drew ≡ false =
    below h.done.drew (omega (arith, few, drew)) in
    let none : first_from (is_ready h.watching.observers) from (drop from ws) ≡ None =
    first-none (is_ready ws) (is_ready h.watching.observers)
    (free_before rows s starved current whole first ws given p from h) from (drop from ws)
    last in
    let next =
    sym (next-StandsFor (making rows s starved h.done) h.watching from h.stands)
    ∙ (ap (λ (xs : List Standing). first_from (is_ready h.watching.observers) from xs) h.same ∙
    none) in
    planned_all rows s starved current whole first ws given p from h
    (sym (h.left ∙ notifications-end rows s starved h.done from desk h.silent room next))
  where
    below : (n : ℕ) → n < 64 → nat_le 64 n ≡ false
    below n k = grind (arith, nat_tests, k)

-- as many notifications are planned as may be
pub planned_full : (rows : List Row) (s : Step) (starved : Bool) (current : List ℕ)
    (whole first : Effects) (ws : List Standing) (given : ℕ) (p : Plan) (from : ℕ)
    → 64 ≤ length p.peers.items
    → PlannedUpTo rows s starved current whole first ws given p from
    → AreDone rows s starved current whole first 0 p.items.items p.kept.items
planned_full rows s starved current whole first ws given p from many h =
    let drew = h.drew in
    let full : nat_le max_notifications h.done.drew ≡ true =
    at_least h.done.drew (omega (arith, many, drew)) in
    planned_all rows s starved current whole first ws given p from h
    (sym (h.left
    ∙ full_passes (ticking rows (row_moment rows s) s) h.done
    (drop from (observers (events (making rows s starved h.done)))) full))
  where
    at_least : (n : ℕ) → 64 ≤ n → nat_le 64 n ≡ true
    at_least n k = grind (arith, nat_tests, k)
