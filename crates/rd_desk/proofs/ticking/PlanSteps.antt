-- A plan with one observer more: its listing is unchanged, or it gets a notification.
use Rattle.std.proofs.Common.{
  ◌≡◌,
  ℕ,
  zero,
  suc,
  ◌+◌,
  ◌%◌,
  ◌^◌,
  ◌<◌,
  ◌≤◌,
  ◌&&◌,
  ◌||◌,
  nat_le,
  Bool,
  true,
  false,
  cond,
  List,
  [],
  ◌∷◌,
  ◌++◌,
  length,
  drop,
  fold,
  slice_get,
  Some,
  is_some,
  refl,
  sym,
  ap,
  ap₂,
  subst,
  ◌∙◌,
  arith,
  append_assoc,
}
use Rattle.std.specs.List.{list_any, AllByRecursion}
use Rattle.std.proofs.lemmas.Bool.Decides.{nat_tests}
use Rattle.rd_base.specs.declared.peers.Peer.{Peer}
use Rattle.std.proofs.lemmas.List.Folds.{list_any-append}
use Rattle.rd_base.proofs.lemmas.Each.{each_append, each_weaker}
use Rattle.event_model.specs.declared.notes.Observer.{Observer}
use Rattle.event_model.specs.Observers.{observers, observe_values_sent}
use Rattle.event_model.specs.Same.{is_same_peer}
use Rattle.journal_model.specs.declared.steps.Step.{Step}
use Rattle.journal_model.specs.declared.rows.Row.{Row}
use Rattle.journal_model.specs.Effects.{Effects, joined}
use Rattle.journal_model.specs.Journal.{is_look, events, transitions}
use Rattle.journal_model.specs.Rows.{row_moment}
use Rattle.journal_model.specs.Ticks.{ticking, notified_if, notification_next}
use Rattle.journal_model.specs.UnfinishedRow.{making}
use Rattle.journal_model.proofs.EntriesNoted.{entries_in, none-append}
use Rattle.transfers.specs.Keeping.{NamedAnswer}
use Rattle.observers.specs.Standing.{Standing, is_awaited, seen, changed_at, next_ready}
use Rattle.observation.specs.Notifications.{next_notified}
use Rattle.observation.specs.Watching.{Watching, WatchingStandsFor}
use Rattle.rd_desk.specs.declared.tick.planning.Plan.{Plan}
use Rattle.rd_desk.specs.declared.tick.planning.Planned.{Planned}
use Rattle.rd_desk.specs.parts.Planning.{
  planned_done,
  planned_kept,
  MayBeDone,
  AreDone,
  PlannedUpTo,
}
use Rattle.rd_desk.proofs.ticking.AgainWalk.{length-append}
use Rattle.rd_desk.proofs.ticking.NotificationWalk.{notifications-next}
use Rattle.rd_desk.proofs.ticking.SkipLaws.{planned_next}

-- an unchanged listing leaves whom notifications are in flight to
pub awaited-seen : (peer : Peer) (i : ℕ) (ws : List Standing)
    → is_awaited peer (changed_at seen i ws) ≡ is_awaited peer ws
awaited-seen peer i [] = refl
awaited-seen peer zero (w ∷ ws) = refl
awaited-seen peer (suc i) (w ∷ ws) =
    ap (λ (b : Bool). (is_same_peer w.peer peer && is_some w.flight) || b) (awaited-seen peer i ws)

-- ---- whatever is planned for the next

-- the row does that for it, and the plan has it more
pub record Adds (rows : List Row) (s : Step) (starved : Bool) (current : List ℕ) (p after : Plan)
    (done : Effects) (w now : Watching) (index : ℕ) (o : Observer) (item : Planned) : Type 0 where
  pub got : slice_get (observers (events (making rows s starved done))) index ≡ Some o
  pub does :
      notified_if true (ticking rows (row_moment rows s) s) done o ≡ planned_done current o item
  pub may : MayBeDone rows s done o item
  pub items : after.items.items ≡ p.items.items ++ item ∷ []
  pub kept : after.kept.items ≡ p.kept.items ++ planned_kept current o item
  pub stands : WatchingStandsFor (making rows s starved (joined done (planned_done current o item)))
      now
  pub standing :
      observers (events (making rows s starved (joined done (planned_done current o item))))
      ≡ observers (events (making rows s starved done))
  pub same : drop (index + 1) now.observers ≡ drop (index + 1) w.observers

-- one more of the lists, and then others
more_items : (rows : List Row) (s : Step) (starved : Bool) (current : List ℕ)
    (whole first : Effects) (xs : List Planned) (x : Planned) (more : List Planned)
    (ks own later : List NamedAnswer)
    → AreDone rows s starved current whole first 0 (xs ++ (x ∷ more)) (ks ++ (own ++ later))
    → AreDone rows s starved current whole first 0 ((xs ++ x ∷ []) ++ more) ((ks ++ own) ++ later)
more_items rows s starved current whole first xs x more ks own later h =
    subst (λ (ys : List Planned).
    AreDone rows s starved current whole first 0 ys ((ks ++ own) ++ later))
    (sym (append_assoc xs (x ∷ []) more))
    (subst (λ (zs : List NamedAnswer).
    AreDone rows s starved current whole first 0 (xs ++ (x ∷ more)) zs)
    (sym (append_assoc ks own later)) h)

-- where nobody else of its peer is waited for, it comes next, and its plan is the next of the plan
pub planned_plan : (rows : List Row) (s : Step) (starved : Bool) (current : List ℕ)
    (whole first : Effects) (ws : List Standing) (given : ℕ) (p after : Plan) (from index : ℕ)
    (x : Standing) (o : Observer) (item : Planned) (now : Watching)
    → next_ready from ws ≡ Some index
    → slice_get ws index ≡ Some x
    → list_any (λ q. is_same_peer q x.peer) p.peers.items ≡ false
    → length p.peers.items < 64
    → (h : PlannedUpTo rows s starved current whole first ws given p from)
    → Adds rows s starved current p after h.done h.watching now index o item
    → (more : List Planned) (later : List NamedAnswer)
    → AreDone rows s starved current whole (joined h.done (planned_done current o item)) (index + 1)
    more later
    → AreDone rows s starved current whole first 0 (after.items.items ++ more)
    (after.kept.items ++ later)
planned_plan rows s starved current whole first ws given p after from index x o item now is got free
    few h it more later done =
    subst (λ (xs : List Planned).
    AreDone rows s starved current whole first 0 (xs ++ more) (after.kept.items ++ later))
    (sym it.items)
    (subst (λ (ks : List NamedAnswer).
    AreDone rows s starved current whole first 0 ((p.items.items ++ item ∷ []) ++ more)
    (ks ++ later)) (sym it.kept)
    (more_items rows s starved current whole first p.items.items item more p.kept.items
    (planned_kept current o item) later
    (h.plan (item ∷ more) (planned_kept current o item ++ later) (
      record {
        index = index;
        observer = o;
        next = planned_next rows s starved current whole first ws given p from index x is got h
            ∙ ap (λ (b : Bool).
            cond b (next_notified (index + 1) (events (making rows s starved h.done))
            (transitions (making rows s starved h.done))) (Some index)) free;
        got = it.got;
        may = it.may;
        room = let size = h.size in omega (arith, size, few);
      },
      later,
      refl,
      done,
    ))))

-- what is left to be looked at is what comes after it
pub planned_left : (rows : List Row) (s : Step) (starved : Bool) (current : List ℕ)
    (whole first : Effects) (ws : List Standing) (given : ℕ) (p after : Plan) (from index : ℕ)
    (x : Standing) (o : Observer) (item : Planned) (now : Watching)
    → is_look s.kind ≡ false
    → next_ready from ws ≡ Some index
    → slice_get ws index ≡ Some x
    → list_any (λ q. is_same_peer q x.peer) p.peers.items ≡ false
    → length p.peers.items < 64
    → (h : PlannedUpTo rows s starved current whole first ws given p from)
    → (it : Adds rows s starved current p after h.done h.watching now index o item)
    → whole
    ≡ fold (notification_next (ticking rows (row_moment rows s) s))
    (joined h.done (planned_done current o item)) (drop (index + 1) (observers
    (events (making rows s starved (joined h.done (planned_done current o item))))))
planned_left rows s starved current whole first ws given p after from index x o item now desk is got
    free few h it =
    h.left
    ∙ (notifications-next rows s starved h.done from index o desk h.silent
    (let drew = h.drew in below h.done.drew (omega (arith, few, drew)))
    (planned_next rows s starved current whole first ws given p from index x is got h
    ∙ ap (λ (b : Bool).
    cond b (next_notified (index + 1) (events (making rows s starved h.done))
    (transitions (making rows s starved h.done))) (Some index)) free) it.got
    ∙ ap₂ (λ (e : Effects) (os : List Observer).
    fold (notification_next (ticking rows (row_moment rows s) s)) (joined h.done e)
    (drop (index + 1) os)) it.does (sym it.standing))
  where
    below : (n : ℕ) → n < 64 → nat_le 64 n ≡ false
    below n k = grind (arith, nat_tests, k)

-- how much it grows: it may have one peer more, which then is waited for
pub record Grows (rows : List Row) (s : Step) (starved : Bool) (p after : Plan) (done e : Effects)
    (w now : Watching) (added : List Peer) : Type 0 where
  pub peers : after.peers.items ≡ p.peers.items ++ added
  pub one : length added ≤ 1
  pub drew : e.drew ≡ length added
  pub size : length e.sent ≤ length added
  pub awaited : (peer : Peer)
      → is_awaited peer now.observers
      ≡ (is_awaited peer w.observers || list_any (λ q. is_same_peer q peer) added)
  pub sent : AllByRecursion (λ d. is_awaited d.0 now.observers ≡ true) e.sent
  pub silent : entries_in e.notes ≡ []
  pub observed :
      observe_values_sent (events (making rows s starved (joined done e)))
      ≡ (observe_values_sent (events (making rows s starved done)) + length added) % 2 ^ 64

-- so it is a plan up to the one after it
pub planned_adds : (rows : List Row) (s : Step) (starved : Bool) (current : List ℕ)
    (whole first : Effects) (ws : List Standing) (given : ℕ) (p after : Plan) (from index : ℕ)
    (x : Standing) (o : Observer) (item : Planned) (now : Watching) (added : List Peer)
    → is_look s.kind ≡ false
    → next_ready from ws ≡ Some index
    → slice_get ws index ≡ Some x
    → list_any (λ q. is_same_peer q x.peer) p.peers.items ≡ false
    → length p.peers.items < 64
    → (h : PlannedUpTo rows s starved current whole first ws given p from)
    → drop (index + 1) h.watching.observers ≡ drop (index + 1) ws
    → Adds rows s starved current p after h.done h.watching now index o item
    → Grows rows s starved p after h.done (planned_done current o item) h.watching now added
    → PlannedUpTo rows s starved current whole first ws given after (index + 1)
planned_adds rows s starved current whole first ws given p after from index x o item now added desk
    is got free few h later it g =
    record {
      begins = h.begins;
      done = joined h.done e;
      watching = now;
      stands = it.stands;
      standing = it.standing ∙ h.standing;
      same = it.same ∙ later;
      awaited =
          λ peer.
          g.awaited peer
          ∙ (ap (λ (b : Bool). b || list_any (λ (q : Peer). is_same_peer q peer) added)
          (h.awaited peer)
          ∙ (or_or (is_awaited peer ws)
          (list_any (λ (q : Peer). is_same_peer q peer) p.peers.items)
          (list_any (λ (q : Peer). is_same_peer q peer) added)
          ∙ ap (λ (b : Bool). is_awaited peer ws || b)
          (sym (ap (list_any (λ (q : Peer). is_same_peer q peer)) g.peers
          ∙ list_any-append (λ (q : Peer). is_same_peer q peer) p.peers.items added))));
      drew = let before = h.drew in let more = g.drew in let l = len in omega
          (arith, before, more, l);
      few = let one = g.one in let l = len in omega (arith, few, one, l);
      sent = each_append (λ (d : Peer × List ℕ). is_awaited d.0 now.observers ≡ true)
          h.done.sent e.sent
          (each_weaker (λ (d : Peer × List ℕ). is_awaited d.0 h.watching.observers ≡ true)
          (λ (d : Peer × List ℕ). is_awaited d.0 now.observers ≡ true)
          (λ d waits.
          g.awaited d.0
          ∙ ap (λ (b : Bool). b || list_any (λ (q : Peer). is_same_peer q d.0) added) waits)
          h.done.sent h.sent) g.sent;
      size =
          let before = h.size in
          let more = g.size in
          let l = len in
          let both = length-append h.done.sent e.sent in omega (arith, before, more, l, both);
      silent = none-append h.done.notes e.notes h.silent g.silent;
      observed =
          let before = h.observed in
          let more = g.observed in let l = len in omega (arith, before, more, l);
      left =
          planned_left rows s starved current whole first ws given p after from index x o item now
          desk
          is got free few h it;
      plan =
          planned_plan rows s starved current whole first ws given p after from index x o item now
          is
          got free few h it;
    }
  where
    e : Effects
    e = planned_done current o item

    len : length after.peers.items ≡ length p.peers.items + length added
    len = ap (λ (qs : List Peer). length qs) g.peers ∙ length-append p.peers.items added

    or_or : (a b c : Bool) → ((a || b) || c) ≡ (a || (b || c))
    or_or true b c = refl
    or_or false b c = refl
