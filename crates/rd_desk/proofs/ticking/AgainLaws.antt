-- The first part of a tick: what it does with each notification in flight is what is due of it by
-- the table.
use Rattle.std.proofs.Common.{
  ◌≡◌,
  ℕ,
  ◌+◌,
  ◌<◌,
  nat_lt,
  nat_le,
  Bool,
  true,
  false,
  not,
  cond,
  List,
  [],
  ◌∷◌,
  length,
  map,
  Option,
  Some,
  None,
  option_map,
  refl,
  sym,
  ap,
  ap₂,
  subst,
  ◌∙◌,
  arith,
}
use Rattle.std.specs.List.{AllByRecursion}
use Rattle.std.proofs.lemmas.Bool.{false≢true}
use Rattle.std.proofs.lemmas.Bool.Decides.{nat_tests}
use Rattle.rd_base.specs.declared.peers.Peer.{Peer}
use Rattle.event_model.specs.declared.notes.Note.TheVariants as note
use Rattle.event_model.specs.declared.notes.Observer.{Observer}
use Rattle.event_model.specs.Events.{Event}
use Rattle.event_model.specs.Observers.{observers}
use Rattle.event_model.specs.Flights.{
  Sent,
  Flight,
  max_again,
  deadline,
  flight,
  notification_sent,
  waiting_notification,
  retransmission,
}
use Rattle.event_model.specs.Due.{Watching as Shown, watching, observers_standing}
use Rattle.journal_model.specs.declared.steps.Step.{Step}
use Rattle.journal_model.specs.declared.rows.Row.{Row}
use Rattle.journal_model.specs.Effects.{Effects, nothing, joined, noting}
use Rattle.journal_model.specs.Journal.{events, transitions}
use Rattle.journal_model.specs.Rows.{row_with, row_moment}
use Rattle.journal_model.specs.Ticks.{
  is_confirmable_with,
  octets_sent,
  each_of,
  notification_again,
  flight_again,
  repeating,
  notifications_again,
  due_by,
}
use Rattle.journal_model.specs.UnfinishedRow.{making}
use Rattle.journal_model.proofs.UnfinishedRowLaws.{events-making_nothing}
use Rattle.journal_model.proofs.observers.SentOctets.{waiting_notification-row}
use Rattle.exchange_core.specs.declared.resends.Again.{Again}
use Rattle.exchange_core.specs.declared.resends.Again.TheVariants as again
use Rattle.exchange_core.specs.Retransmissions.{kept_due}
use Rattle.rd_desk.proofs.responses.FetchStepLaws.{repeating-octets}
use Rattle.observers.specs.Standing.{Standing, due_of}
use Rattle.observers.specs.ObserverEvents.{shown}
use Rattle.observation.specs.Notifications.{sending_again}
use Rattle.observation.specs.Watching.{Watching, IsConfirmable, WatchingStandsFor}
use Rattle.rd_desk.specs.parts.Noticing.{again_as, again_done}

-- ---- one notification

-- a message that is confirmable has octets
some_octets : (mid : ℕ) (octets : List ℕ)
    → is_confirmable_with mid octets ≡ true
    → 0 < length octets
some_octets mid [] h = absurd (false≢true h)
some_octets mid (a ∷ octets) h = omega arith

-- what is due of a notification by the events that built it and retransmitted it
kept_due-flight : (moment : ℕ) (f : Flight) → kept_due moment (retransmission f.formed f.again)
    ≡ cond (nat_le (deadline f.formed f.again) moment)
    (cond (nat_le max_again (length f.again)) again.GaveUp again.Send) again.Wait
unfolding kept_due deadline
kept_due-flight moment f =
    by (retransmission f.formed f.again).sent (retransmission f.formed f.again).wait
    (length f.again)
  where
    late : (end : ℕ) → nat_lt moment end ≡ not (nat_le end moment)
    late end = grind (arith, nat_tests)

    more : (n : ℕ) → nat_lt n 4 ≡ not (nat_le 4 n)
    more n = grind (arith, nat_tests)

    turned : (a b : Bool)
        → cond (not a) again.Wait (cond (not b) again.Send again.GaveUp)
        ≡ cond a (cond b again.GaveUp again.Send) again.Wait
    turned true true = refl
    turned true false = refl
    turned false b = refl

    by : (sent wait n : ℕ)
        → cond (nat_lt moment (sent + wait)) again.Wait (cond (nat_lt n 4) again.Send again.GaveUp)
        ≡ cond (nat_le (sent + wait) moment) (cond (nat_le 4 n) again.GaveUp again.Send)
        again.Wait
    by sent wait n =
        ap₂ (λ a b. cond a again.Wait (cond b again.Send again.GaveUp)) (late (sent + wait))
        (more n)
        ∙ turned (nat_le (sent + wait) moment) (nat_le 4 n)

-- what is done of it
again_one : (rows : List Row) (moment : ℕ) (o : Observer) (x : Standing)
    → o.peer ≡ x.peer
    → o.token ≡ x.token
    → waiting_notification (octets_sent rows) (events rows) o ≡ x.flight
    → IsConfirmable x
    → flight_again rows moment o (flight o (events rows)) ≡ again_done moment x
unfolding waiting_notification
again_one rows moment o x peer token waits fits = by (flight o (events rows)) waits
  where
    Goal : Option Flight → Option Sent → Type 0
    Goal f sent = flight_again rows moment o f ≡ again_as (due_of moment sent) x sent

    sends : (f : Flight) (sent : Sent)
        → notification_sent (octets_sent rows) o.peer f ≡ sent
        → is_confirmable_with sent.mid sent.octets ≡ true
        → repeating rows f.formed.place o.peer f.mid (note.Again o.peer f.mid)
        ≡ sending_again x sent
    sends f sent is confirmable =
        let some : 0 < length (octets_sent rows f.formed.place o.peer f.mid) =
        some_octets f.mid (octets_sent rows f.formed.place o.peer f.mid)
        (subst (λ (y : Sent). is_confirmable_with y.mid y.octets ≡ true) (sym is)
        confirmable) in
        repeating-octets rows f.formed.place o.peer f.mid (note.Again o.peer f.mid) some
        ∙ (ap (λ (p : Peer). let e : Effects = record {
          sent = (p, octets_sent rows f.formed.place o.peer f.mid) ∷ [];
          notes = note.Again
              p f.mid ∷ [];
          drew = 0;
        } in e) peer
        ∙ ap (λ (y : Sent). sending_again x y) is)

    due : (a b : Bool) (f : Flight) (sent : Sent)
        → notification_sent (octets_sent rows) o.peer f ≡ sent
        → is_confirmable_with sent.mid sent.octets ≡ true
        → notification_again (due_by a b) rows o f
        ≡ again_as (cond a (cond b again.GaveUp again.Send) again.Wait) x (Some sent)
    due false b f sent is confirmable = refl
    due true true f sent is confirmable =
        ap₂ (λ (p : Peer) (t : List ℕ). noting (note.Unwatched p t ∷ [])) peer token
    due true false f sent is confirmable = sends f sent is confirmable

    flies : (f : Flight) (sent : Sent)
        → x.flight ≡ Some sent
        → notification_sent (octets_sent rows) o.peer f ≡ sent
        → Goal (Some f) (Some sent)
    flies f sent kept is =
        due (nat_le (deadline f.formed f.again) moment) (nat_le max_again (length f.again)) f sent
        is (fits sent kept)
        ∙ ap (λ (d : Again). again_as d x (Some sent))
        (sym (kept_due-flight moment f) ∙ ap (λ (y : Sent). kept_due moment y.resend) is)

    by : (f : Option Flight)
        → option_map (notification_sent (octets_sent rows) o.peer) f ≡ x.flight
        → Goal f x.flight
    by None is = subst (Goal None) is refl
    by (Some f) is =
        subst (Goal (Some f)) is (flies f (notification_sent (octets_sent rows) o.peer f) (sym is)
        refl)

-- ---- all notifications

-- The first part of a tick, by the table that stands for the journal when its row begins.
pub notifications_again-StandsFor : (rows : List Row) (s : Step) (starved : Bool) (moment : ℕ)
    (w : Watching)
    → WatchingStandsFor (making rows s starved nothing) w
    → notifications_again rows moment ≡ each_of (again_done moment) w.observers
unfolding notifications_again observers_standing
notifications_again-StandsFor rows s starved moment w h =
    each (observers (events rows)) w.observers standing h.confirmable
  where
    Made : List Row
    Made = making rows s starved nothing

    Past : List Event
    Past = events (making rows s starved nothing)

    same : Past ≡ events rows
    same = events-making_nothing rows s starved

    standing :
        map (watching (octets_sent Made) (events rows) (transitions Made)) (observers (events rows))
        ≡ map (shown h.queries) w.observers
    standing =
        subst (λ past.
        map (watching (octets_sent Made) past (transitions Made)) (observers past)
        ≡ map (shown h.queries) w.observers) same h.observers.standing

    one : (o : Observer) (x : Standing)
        → watching (octets_sent Made) (events rows) (transitions Made) o ≡ shown h.queries x
        → IsConfirmable x
        → flight_again rows moment o (flight o (events rows)) ≡ again_done moment x
    one o x here fits =
        again_one rows moment o x (ap (λ (y : Shown). y.observer.peer) here)
        (ap (λ (y : Shown). y.observer.token) here)
        (sym (waiting_notification-row rows (row_with s (row_moment rows s) starved nothing) o)
        ∙ ap (λ (y : Shown). y.waits) here) fits

    each : (os : List Observer) (xs : List Standing)
        → map (watching (octets_sent Made) (events rows) (transitions Made)) os
        ≡ map (shown h.queries) xs
        → AllByRecursion IsConfirmable xs
        → each_of (λ o. flight_again rows moment o (flight o (events rows))) os
        ≡ each_of (again_done moment) xs
    each [] [] e fits = refl
    each [] (x ∷ xs) e fits = absurd cc
    each (o ∷ os) [] e fits = absurd cc
    each (o ∷ os) (x ∷ xs) e fits =
        let here :
        watching (octets_sent Made) (events rows) (transitions Made) o ≡ shown h.queries x =
        cc in
        let rest :
        map (watching (octets_sent Made) (events rows) (transitions Made)) os
        ≡ map (shown h.queries) xs =
        cc in
        ap₂ (λ (a b : Effects). joined a b) (one o x here fits.0) (each os xs rest fits.1)
