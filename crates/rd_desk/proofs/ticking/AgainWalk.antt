-- The first part of a tick, observer after observer: each notification by what is due of it, and
-- then the next.
use Rattle.std.proofs.Common.{
  ◌≡◌,
  ℕ,
  zero,
  suc,
  ◌+◌,
  ◌<◌,
  ◌≤◌,
  Bool,
  List,
  [],
  ◌∷◌,
  ◌++◌,
  length,
  map,
  drop,
  slice_get,
  Option,
  Some,
  None,
  option_map,
  refl,
  sym,
  ap,
  subst,
  ◌∙◌,
  arith,
}
use Rattle.std.specs.List.{AllByRecursion}
use Rattle.rd_base.specs.declared.peers.Peer.{Peer}
use Rattle.rd_base.proofs.lemmas.Options.{some_same}
use Rattle.event_model.specs.declared.notes.Note.TheVariants as note
use Rattle.event_model.specs.declared.notes.Observer.{Observer}
use Rattle.event_model.specs.Observers.{observers}
use Rattle.event_model.specs.Flights.{Sent, Flight, flight, notification_sent, waiting_notification}
use Rattle.event_model.specs.Due.{Watching as Shown, watching, observers_standing}
use Rattle.journal_model.specs.declared.steps.Step.{Step}
use Rattle.journal_model.specs.declared.rows.Row.{Row}
use Rattle.journal_model.specs.DeskJournal.{IsDeskJournal}
use Rattle.journal_model.specs.Effects.{Effects, nothing, joined, noting}
use Rattle.journal_model.specs.Journal.{events, transitions}
use Rattle.journal_model.specs.Rows.{row_with, row_moment}
use Rattle.journal_model.specs.Ticks.{octets_sent, each_of, notifications_again}
use Rattle.journal_model.specs.UnfinishedRow.{making}
use Rattle.journal_model.proofs.UnfinishedRowLaws.{events-making_nothing}
use Rattle.journal_model.proofs.observers.SentOctets.{waiting_notification-row}
use Rattle.exchange_core.specs.declared.resends.Again.{Again}
use Rattle.exchange_core.specs.declared.resends.Again.TheVariants as again
use Rattle.observers.specs.Standing.{Standing, due_of, changed_at}
use Rattle.observers.specs.ObserverEvents.{shown}
use Rattle.coap_answers.specs.declared.mids.Mids.{Mids}
use Rattle.coap_answers.specs.Sendings.{Sends}
use Rattle.coap_answers.proofs.SendingLaws.{sends_notes}
use Rattle.observation.specs.Notifications.{sending_again}
use Rattle.observation.specs.Watching.{Watching, WatchingStandsFor}
use Rattle.observation.proofs.TickLaws.{length-StandsFor}
use Rattle.rd_desk.specs.calls.Desks.{Seen}
use Rattle.rd_desk.specs.parts.Noticing.{again_as, again_done}
use Rattle.rd_desk.specs.parts.UnderWay.{UnderWay}
use Rattle.rd_desk.proofs.parts.EffectLaws.{joined-nothing, joined-nothing_first, joined-assoc}
use Rattle.rd_desk.proofs.parts.PartLaws.{more_unformed}
use Rattle.rd_desk.proofs.parts.WayLaws.{way_moment}
use Rattle.rd_desk.proofs.ticking.AgainLaws.{notifications_again-StandsFor}
use Rattle.rd_desk.proofs.ticking.BoundLaws.{few_observers}
use Rattle.rd_desk.proofs.ticking.FittingLaws.{short_octets}

-- ---- lists from an index on

drop-got_suc : {X : Type 0} (xs : List X) (i : ℕ) (x : X)
    → slice_get xs i ≡ Some x
    → drop i xs ≡ x ∷ drop (suc i) xs
drop-got_suc [] i x is = absurd cc
drop-got_suc {X} (y ∷ ys) zero x is = let same : y ≡ x = cc in ap (λ (z : X). z ∷ ys) same
drop-got_suc (y ∷ ys) (suc i) x is = drop-got_suc ys i x is

after_one : (i : ℕ) → suc i ≡ i + 1
after_one i = omega arith

pub drop-got : {X : Type 0} (xs : List X) (i : ℕ) (x : X)
    → slice_get xs i ≡ Some x
    → drop i xs ≡ x ∷ drop (i + 1) xs
drop-got {X} xs i x is = drop-got_suc xs i x is ∙ ap (λ (n : ℕ). x ∷ drop n xs) (after_one i)

pub drop-end : {X : Type 0} (xs : List X) (i : ℕ) → length xs ≤ i → drop i xs ≡ []
drop-end [] zero h = refl
drop-end [] (suc i) h = refl
drop-end (x ∷ xs) zero h = absurd (omega (arith, h))
drop-end (x ∷ xs) (suc i) h = drop-end xs i (omega (arith, h))

drop-changed_suc : (change : Standing → Standing) (i : ℕ) (xs : List Standing)
    → drop (suc i) (changed_at change i xs) ≡ drop (suc i) xs
drop-changed_suc change i [] = refl
drop-changed_suc change zero (x ∷ xs) = refl
drop-changed_suc change (suc i) (x ∷ xs) = drop-changed_suc change i xs

pub drop-changed : (change : Standing → Standing) (i : ℕ) (xs : List Standing)
    → drop (i + 1) (changed_at change i xs) ≡ drop (i + 1) xs
drop-changed change i xs =
    subst (λ (n : ℕ). drop n (changed_at change i xs) ≡ drop n xs) (after_one i)
    (drop-changed_suc change i xs)

pub got-changed : (change : Standing → Standing) (i : ℕ) (xs : List Standing) (x : Standing)
    → slice_get xs i ≡ Some x
    → slice_get (changed_at change i xs) i ≡ Some (change x)
got-changed change i [] x is = absurd cc
got-changed change zero (y ∷ ys) x is =
    let same : y ≡ x = cc in ap (λ (z : Standing). Some (change z)) same
got-changed change (suc i) (y ∷ ys) x is = got-changed change i ys x is

-- ---- one notification

-- nothing is due
pub way_waits : (rows : List Row) (s : Step) (starved : Bool) (done : Effects) (d after : Seen)
    (out : List (Peer × List ℕ)) (mids : Mids) (moment : ℕ) (x : Standing)
    → again.Wait ≡ due_of moment x.flight
    → after ≡ d
    → UnderWay rows s starved done d out mids
    → UnderWay rows s starved (joined done (again_done moment x)) after out mids
way_waits rows s starved done d after out mids moment x due same way =
    subst (λ (y : Seen). UnderWay rows s starved (joined done (again_done moment x)) y out mids)
    (sym same)
    (subst (λ (e : Effects). UnderWay rows s starved e d out mids)
    (sym (ap (λ (a : Again). joined done (again_as a x x.flight)) (sym due)
    ∙ joined-nothing done)) way)

-- it is retransmitted
pub way_sends : (rows : List Row) (s : Step) (starved : Bool) (done : Effects) (b d : Seen)
    (w : Watching) (out sent_out : List (Peer × List ℕ)) (mids : Mids) (moment : ℕ)
    (x : Standing)
    → b ≡ d
    → moment ≡ d.moment
    → again.Send ≡ due_of moment x.flight
    → ((sent : Sent)
    → x.flight ≡ Some sent
    → moment ≡ row_moment rows s
    → WatchingStandsFor (making rows s starved done) b.watching
    → WatchingStandsFor (making rows s starved (joined done (sending_again x sent))) w)
    → ((sent : Sent) → x.flight ≡ Some sent → sent_out ≡ out ++ (x.peer, sent.octets) ∷ [])
    → UnderWay rows s starved done d out mids
    → UnderWay rows s starved (joined done (again_done moment x)) (record b { watching = w })
    sent_out mids
way_sends rows s starved done b d w out sent_out mids moment x seen at due stands pushed way =
    by x.flight refl due
  where
    by : (f : Option Sent)
        → x.flight ≡ f
        → again.Send ≡ due_of moment f
        → UnderWay rows s starved (joined done (again_done moment x)) (record b { watching = w })
        sent_out mids
    by None is h = absurd cc
    by (Some sent) is h =
        let what : sending_again x sent ≡ again_done moment x =
        ap (λ (a : Again). again_as a x (Some sent)) h
        ∙ ap (λ (f : Option Sent). again_as (due_of moment f) x f) (sym is) in
        let sends : Sends (sending_again x sent) out sent_out mids mids = record {
          sent = pushed sent is;
          worker = refl;
          drawn = refl;
        } in
        subst (λ (e : Effects).
        UnderWay rows s starved (joined done e) (record b { watching = w }) sent_out mids)
        what
        (more_unformed rows s starved done (sending_again x sent) b d w out sent_out mids mids seen
        refl refl (stands sent is (at ∙ way_moment rows s starved done d out mids way)) sends
        way)

-- its observer is given up
pub way_gives_up : (rows : List Row) (s : Step) (starved : Bool) (done : Effects) (b d : Seen)
    (w : Watching) (out : List (Peer × List ℕ)) (mids : Mids) (moment : ℕ) (x : Standing)
    → b ≡ d
    → again.GaveUp ≡ due_of moment x.flight
    → (WatchingStandsFor (making rows s starved done) b.watching
    → WatchingStandsFor
    (making rows s starved (joined done (noting (note.Unwatched x.peer x.token ∷ [])))) w)
    → UnderWay rows s starved done d out mids
    → UnderWay rows s starved (joined done (again_done moment x)) (record b { watching = w }) out
    mids
way_gives_up rows s starved done b d w out mids moment x seen due stands way = by x.flight refl due
  where
    by : (f : Option Sent)
        → x.flight ≡ f
        → again.GaveUp ≡ due_of moment f
        → UnderWay rows s starved (joined done (again_done moment x)) (record b { watching = w })
        out mids
    by None is h = absurd cc
    by (Some sent) is h =
        let gone : Effects = noting (note.Unwatched x.peer x.token ∷ []) in
        let what : gone ≡ again_done moment x =
        ap (λ (a : Again). again_as a x (Some sent)) h
        ∙ ap (λ (f : Option Sent). again_as (due_of moment f) x f) (sym is) in
        subst (λ (e : Effects).
        UnderWay rows s starved (joined done e) (record b { watching = w }) out mids) what
        (more_unformed rows s starved done gone b d w out out mids mids seen refl refl stands
        (sends_notes (note.Unwatched x.peer x.token ∷ []) out mids) way)

-- ---- the walk

-- the octets of the notification in flight are no longer than a datagram may be
abbrev pub IsShort : Standing → Type 0
IsShort x = (sent : Sent) → x.flight ≡ Some sent → length sent.octets ≤ 1_280

-- those before an index are done with
pub record AgainUpTo (rows : List Row) (s : Step) (starved : Bool) (d : Seen)
    (out : List (Peer × List ℕ)) (mids : Mids) (i : ℕ) : Type 0 where
  pub done : Effects
  pub way : UnderWay rows s starved done d out mids
  pub whole :
      notifications_again rows (row_moment rows s)
      ≡ joined done (each_of (again_done (row_moment rows s)) (drop i d.watching.observers))
  pub short : AllByRecursion IsShort (drop i d.watching.observers)
  pub few : length done.sent + length (drop i d.watching.observers) ≤ 1_024

-- those that the table shows when the row begins are short
all_short : (rows : List Row) (s : Step) (starved : Bool) (w : Watching)
    → IsDeskJournal rows
    → WatchingStandsFor (making rows s starved nothing) w
    → AllByRecursion IsShort w.observers
unfolding observers_standing waiting_notification
all_short rows s starved w journal h = each (observers (events rows)) w.observers standing
  where
    Made : List Row
    Made = making rows s starved nothing

    standing :
        map (watching (octets_sent Made) (events rows) (transitions Made)) (observers (events rows))
        ≡ map (shown h.queries) w.observers
    standing =
        subst (λ past.
        map (watching (octets_sent Made) past (transitions Made)) (observers past)
        ≡ map (shown h.queries) w.observers) (events-making_nothing rows s starved)
        h.observers.standing

    by : (o : Observer) (f : Option Flight) (sent : Sent)
        → option_map (notification_sent (octets_sent rows) o.peer) f ≡ Some sent
        → length sent.octets ≤ 1_280
    by o None sent is = absurd (let no : None ≡ Some sent = is in cc)
    by o (Some f) sent is =
        subst (λ (y : Sent). length y.octets ≤ 1_280) (some_same is)
        (short_octets rows journal f.formed.place o.peer f.mid)

    one : (o : Observer) (x : Standing)
        → watching (octets_sent Made) (events rows) (transitions Made) o ≡ shown h.queries x
        → IsShort x
    one o x here sent flies =
        by o (flight o (events rows)) sent
        (sym (waiting_notification-row rows (row_with s (row_moment rows s) starved nothing) o)
        ∙ (ap (λ (y : Shown). y.waits) here ∙ flies))

    each : (os : List Observer) (xs : List Standing)
        → map (watching (octets_sent Made) (events rows) (transitions Made)) os
        ≡ map (shown h.queries) xs
        → AllByRecursion IsShort xs
    each os [] e = tt
    each [] (x ∷ xs) e = absurd cc
    each (o ∷ os) (x ∷ xs) e =
        let here :
        watching (octets_sent Made) (events rows) (transitions Made) o ≡ shown h.queries x =
        cc in
        let rest :
        map (watching (octets_sent Made) (events rows) (transitions Made)) os
        ≡ map (shown h.queries) xs =
        cc in
        (one o x here, each os xs rest)

-- it begins
pub again_begins : (rows : List Row) (s : Step) (starved : Bool) (d : Seen)
    (out : List (Peer × List ℕ)) (mids : Mids)
    → UnderWay rows s starved nothing d out mids
    → AgainUpTo rows s starved d out mids 0
again_begins rows s starved d out mids way =
    let same : length (observers (events rows)) ≡ length d.watching.observers =
    sym (ap (λ past. length (observers past)) (events-making_nothing rows s starved))
    ∙ length-StandsFor (making rows s starved nothing) d.watching way.stands.watching in
    let few = few_observers rows way.journal in
    record {
      done = nothing;
      way = way;
      whole =
          notifications_again-StandsFor rows s starved (row_moment rows s) d.watching
          way.stands.watching
          ∙ sym (joined-nothing_first
          (each_of (again_done (row_moment rows s)) d.watching.observers));
      short = all_short rows s starved d.watching way.journal way.stands.watching;
      few = omega (arith, same, few);
    }

-- it sends at most one datagram
again_size : (moment : ℕ) (x : Standing) → length (again_done moment x).sent ≤ 1
again_size moment x = by (due_of moment x.flight) x.flight
  where
    by : (a : Again) (f : Option Sent) → length (again_as a x f).sent ≤ 1
    by again.Wait f = omega arith
    by again.Send None = omega arith
    by again.Send (Some sent) = omega arith
    by again.GaveUp None = omega arith
    by again.GaveUp (Some sent) = omega arith

pub length-append : {X : Type 0} (xs ys : List X) → length (xs ++ ys) ≡ length xs + length ys
length-append [] ys = omega arith
length-append (x ∷ xs) ys = let rest = length-append xs ys in omega (arith, rest)

-- it goes on
pub again_goes : (rows : List Row) (s : Step) (starved : Bool) (d after : Seen)
    (out sent : List (Peer × List ℕ)) (mids : Mids) (i next : ℕ) (x : Standing)
    → slice_get d.watching.observers i ≡ Some x
    → (length out < 1_152
    → ((sent : Sent) → x.flight ≡ Some sent → length sent.octets ≤ 1_280)
    → (done : Effects)
    → UnderWay rows s starved done d out mids
    → UnderWay rows s starved (joined done (again_done d.moment x)) after sent mids)
    → drop next after.watching.observers ≡ drop (i + 1) d.watching.observers
    → AgainUpTo rows s starved d out mids i
    → AgainUpTo rows s starved after sent mids next
again_goes rows s starved d after out sent mids i next x there goes rest h =
    let moment : d.moment ≡ row_moment rows s = way_moment rows s starved h.done d out mids h.way in
    let left : drop i d.watching.observers ≡ x ∷ drop next after.watching.observers =
    drop-got d.watching.observers i x there ∙ ap (λ (ws : List Standing). x ∷ ws) (sym rest) in
    let e : Effects = again_done (row_moment rows s) x in
    let few : length h.done.sent + length (x ∷ drop next after.watching.observers) ≤ 1_024 =
    subst (λ (ws : List Standing). length h.done.sent + length ws ≤ 1_024) left h.few in
    let room : length out < 1_152 =
    let same = ap (λ (ds : List (Peer × List ℕ)). length ds) h.way.sent in
    omega (arith, same, few) in
    let short = subst (AllByRecursion IsShort) left h.short in
    let one = again_size (row_moment rows s) x in
    let sum = length-append h.done.sent e.sent in
    record {
      done = joined h.done e;
      way =
          subst
          (λ (m : ℕ). UnderWay rows s starved (joined h.done (again_done m x)) after sent mids)
          moment (goes room short.0 h.done h.way);
      whole = h.whole
          ∙ (ap (λ (ws : List Standing).
          joined h.done (each_of (again_done (row_moment rows s)) ws))
          left
          ∙ sym (joined-assoc h.done e
          (each_of (again_done (row_moment rows s)) (drop next after.watching.observers))));
      short = short.1;
      few = omega (arith, few, one, sum);
    }

-- it ends
pub again_ends : (rows : List Row) (s : Step) (starved : Bool) (d : Seen)
    (out : List (Peer × List ℕ)) (mids : Mids) (i : ℕ)
    → length d.watching.observers ≤ i
    → AgainUpTo rows s starved d out mids i
    → UnderWay rows s starved (notifications_again rows (row_moment rows s)) d out mids
again_ends rows s starved d out mids i past h =
    subst (λ (e : Effects). UnderWay rows s starved e d out mids)
    (sym (h.whole
    ∙ (ap (λ (ws : List Standing). joined h.done (each_of (again_done (row_moment rows s)) ws))
    (drop-end d.watching.observers i past)
    ∙ joined-nothing h.done))) h.way
