-- Rows with wrong observers. The first falls by the sentence ObserversKnow, and the others by the
-- sentence ObserversStand. Beside each datagram its parts are shown: type, code, Message ID, token,
-- options, payload.
use Rattle.std.proofs.Common.{
  ◌≡◌,
  inl,
  inr,
  ℕ,
  ◌≤◌,
  true,
  false,
  List,
  [],
  ◌∷◌,
  length,
  Option,
  Some,
  None,
  Result,
  Ok,
  codes,
  refl,
  sym,
  ap,
  ◌∙◌,
  arith,
}
use Rattle.std.proofs.lemmas.Bool.{false≢true}
use Rattle.std.proofs.lemmas.Option.{same_Some}
use Rattle.rd_base.specs.declared.queries.Kind.{Kind}
use Rattle.rd_base.specs.declared.queries.Kind.TheVariants as kind
use Rattle.message_model.specs.declared.messages.Kind4.TheVariants.{Con, Rst}
use Rattle.message_model.specs.declared.messages.Unread.{Unread}
use Rattle.message_model.specs.Codes as codes_of
use Rattle.message_model.specs.Message.{Message}
use Rattle.message_model.specs.OptionTable as table
use Rattle.message_model.specs.Reading.{reading}
use Rattle.message_model.specs.Spelling.{spelling}
use Rattle.history_model.specs.Listing.{listing}
use Rattle.event_model.specs.declared.notes.Note.TheVariants as note
use Rattle.event_model.specs.declared.notes.Observer.{Observer}
use Rattle.event_model.specs.Events.{Event}
use Rattle.event_model.specs.Flights.{Flight}
use Rattle.event_model.proofs.ManyObservers.{peer}
use Rattle.journal_model.proofs.OnLiterals.{machine_on_literals}
use Rattle.journal_model.specs.declared.steps.StepKind.TheVariants as step
use Rattle.journal_model.specs.declared.rows.Row.{Row}
use Rattle.journal_model.specs.Journal.{entries, now}
use Rattle.journal_model.specs.Effects.{empty_message}
use Rattle.journal_model.specs.Lookups.{observer_of}
use Rattle.journal_model.specs.Headline.{Headline}
use Rattle.journal_model.specs.PlacedRows.{Placed}
use Rattle.headline_law.specs.ObserversStand.{
  MakesObserver,
  EndsObserving,
  asks_anew,
  rejects_notification,
  never_acknowledges,
  ObserversStand,
}
use Rattle.headline_law.proofs.WrongRows.{row_of, answer, sent_first}

-- an observer of endpoints, under the token c1
abbrev watcher : Kind → Observer
watcher what = record {
  peer = peer 1;
  token = 193 ∷ [];
  query = record { kind = what; criteria = []; page = None; count = None };
  key = [];
  szx = 6;
}

-- ---- what an observer knows

-- an observer that is noted as looked at, and for which nothing was built
abbrev unformed : Row
unformed =
    row_of step.Tick [] false []
    (note.Watched (watcher kind.Endpoint) ∷ note.Unchanged (peer 1) (193 ∷ []) ∷ [])

-- An end theorem: nothing here cites it.
pub unformed_falls : Headline (unformed ∷ []) → ⊥
unfolding machine_on_literals
unformed_falls h =
    absurd (let none :
    ◌≡◌ {A = Option (List ℕ)} None
    (Some (listing (watcher kind.Endpoint).query (entries (unformed ∷ [])) (now (unformed ∷ [])))) =
    h.observers.last_formed (watcher kind.Endpoint) (0, (omega arith, refl)) refl in
    cc)

-- ---- answers that carry Observe

-- the one row of a journal
abbrev alone : Row → Placed
alone r = record { row = r; before = [] }

-- CON 0.01 m=0010 t=c1 [6 0][11 rd-lookup][11 ep]: a lookup of endpoints that asks to observe
abbrev observing : Message
observing = record {
  kind = Con;
  code = codes_of.get;
  mid = 16;
  token = 193 ∷ [];
  options =
      (table.observe, [])
      ∷ (table.uri_path, codes "rd-lookup")
      ∷ (table.uri_path, codes "ep")
      ∷ [];
  payload = [];
}

-- ACK 2.05 m=0010 t=c1 [6 01]
abbrev with_observe : Message
with_observe = answer codes_of.content (193 ∷ []) ((table.observe, 1 ∷ []) ∷ []) []

-- 2.05 with Observe, and no observer
abbrev observes_nobody : Row
observes_nobody =
    row_of step.Admit (spelling observing) false ((peer 1, spelling with_observe) ∷ []) []

-- An end theorem: nothing here cites it.
pub observes_nobody_falls : ObserversStand (observes_nobody ∷ []) → ⊥
unfolding machine_on_literals
observes_nobody_falls h =
    let it : MakesObserver (alone observes_nobody) (peer 1) with_observe =
    h.observed
    (sent_first observes_nobody (peer 1) (spelling with_observe) with_observe [] refl refl) refl
    refl in
    let none : None ≡ Some (observer_of observes_nobody.step it.request) = it.stands in
    absurd cc

-- 2.05 with Observe, and an observer of another query: of resources
abbrev observes_another : Row
observes_another =
    row_of step.Admit (spelling observing) false ((peer 1, spelling with_observe) ∷ [])
    (note.Watched (watcher kind.Resource) ∷ [])

-- the kind of a query, as a number
kind_number : Kind → ℕ
kind_number kind.Resource = 0
kind_number kind.Endpoint = 1
kind_number kind.Discovery = 2

-- what is read of octets is one message
same_message : (m n : Message) → ◌≡◌ {A = Result Message Unread} (Ok m) (Ok n) → m ≡ n
same_message m n e = cc

-- An end theorem: nothing here cites it.
pub observes_another_falls : ObserversStand (observes_another ∷ []) → ⊥
unfolding machine_on_literals kind_number
observes_another_falls h =
    let it : MakesObserver (alone observes_another) (peer 1) with_observe =
    h.observed
    (sent_first observes_another (peer 1) (spelling with_observe) with_observe [] refl refl) refl
    refl in
    of_request it.request
    (same_message observing it.request
    (let read : reading (spelling observing) ≡ Ok it.request = it.asks.read in read))
    (same_Some (watcher kind.Resource) (observer_of observes_another.step it.request) it.stands)
  where
    different : ◌≡◌ {A = ℕ} 0 1 → ⊥
    different e = absurd (omega (arith, e))

    of_request : (m : Message)
        → observing ≡ m
        → watcher kind.Resource ≡ observer_of observes_another.step m
        → ⊥
    of_request m is same =
        different
        (ap (λ (o : Observer). kind_number o.query.kind)
        (same ∙ ap (observer_of observes_another.step) (sym is)))

-- a look answers 2.05 with Observe: it makes nobody an observer
abbrev looks_with_observe : Row
looks_with_observe =
    row_of step.Look (spelling observing) false ((peer 1, spelling with_observe) ∷ [])
    (note.Watched (watcher kind.Endpoint) ∷ [])

-- An end theorem: nothing here cites it.
pub looks_with_observe_falls : ObserversStand (looks_with_observe ∷ []) → ⊥
unfolding machine_on_literals
looks_with_observe_falls h =
    let it : MakesObserver (alone looks_with_observe) (peer 1) with_observe =
    h.observed
    (sent_first looks_with_observe (peer 1) (spelling with_observe) with_observe [] refl refl)
    refl refl in
    absurd (let no : step.Look ≡ step.Admit = it.asks.heard in cc)

-- ---- observers that nobody asked to be

-- An end theorem: nothing here cites it.
pub unasked_falls : ObserversStand (unformed ∷ []) → ⊥
unfolding machine_on_literals
unasked_falls h =
    elim (h.begins [] unformed (watcher kind.Endpoint) (record { later = []; whole = refl })
    (0, (omega arith, refl))) [
      | inl stood ↦ (let low = stood.1.0 in absurd (omega (arith, low)))
      | inr asks ↦ absurd (let no : step.Tick ≡ step.Admit = asks.asks.heard in cc)
    ]

-- the observer that such a lookup asks to be
abbrev observes : Observer
observes = observer_of observes_nobody.step observing

-- one is added, and is not told so
abbrev untold : Row
untold = row_of step.Admit (spelling observing) false [] (note.Watched observes ∷ [])

-- An end theorem: nothing here cites it.
pub untold_falls : ObserversStand (untold ∷ []) → ⊥
unfolding machine_on_literals
untold_falls h =
    elim (h.begins [] untold observes (record { later = []; whole = refl })
    (0, (omega arith, refl))) [
      | inl stood ↦ (let low = stood.1.0 in absurd (omega (arith, low)))
      | inr asks ↦ (let low = asks.told.1.0 in absurd (omega (arith, low)))
    ]

-- ---- observers that end

-- a row that makes its peer an observer, and tells it so
abbrev watched : Row
watched =
    row_of step.Admit (spelling observing) false ((peer 1, spelling with_observe) ∷ [])
    (note.Watched observes ∷ note.Formed (peer 1) (193 ∷ []) [] None ∷ [])

-- a tick drops an observer to whom no notification is in flight
abbrev drops : Row
drops = row_of step.Tick [] false [] (note.Unwatched (peer 1) (193 ∷ []) ∷ [])

-- An end theorem: nothing here cites it.
pub drops_falls : ObserversStand (drops ∷ watched ∷ []) → ⊥
unfolding machine_on_literals
drops_falls h =
    elim (h.ends (watched ∷ []) drops observes
    (record { later = []; whole = refl }) (0, (omega arith, refl))) [
      | inl stands ↦ (let low = stands.1.0 in absurd (omega (arith, low)))
      | inr ends ↦ by ends
    ]
  where
    by : EndsObserving (watched ∷ []) drops observes → ⊥
    by (asks_anew it) = absurd (let no : step.Tick ≡ step.Admit = it.asks.heard in cc)
    by (rejects_notification it) = absurd (let no : step.Tick ≡ step.Admit = it.heard in cc)
    by (never_acknowledges it) =
        let none : ◌≡◌ {A = Option Flight} None (Some it.notification) = it.flies in absurd cc

-- a tick drops an observer whose notification was sent once
abbrev notified : Row
notified = row_of step.Tick [] false [] (note.Formed (peer 1) (193 ∷ []) [] (Some 7) ∷ [])

-- An end theorem: nothing here cites it.
pub drops_early_falls : ObserversStand (drops ∷ notified ∷ watched ∷ []) → ⊥
unfolding machine_on_literals
drops_early_falls h =
    elim (h.ends (notified ∷ watched ∷ []) drops observes
    (record { later = []; whole = refl }) (0, (omega arith, refl))) [
      | inl stands ↦ (let low = stands.1.0 in absurd (omega (arith, low)))
      | inr ends ↦ by ends
    ]
  where
    agains : Option Flight → ℕ
    agains None = 9
    agains (Some f) = length f.again

    by : EndsObserving (notified ∷ watched ∷ []) drops observes → ⊥
    by (asks_anew it) = absurd (let no : step.Tick ≡ step.Admit = it.asks.heard in cc)
    by (rejects_notification it) = absurd (let no : step.Tick ≡ step.Admit = it.heard in cc)
    by (never_acknowledges it) =
        let none : ◌≡◌ {A = ℕ} 0 (length it.notification.again) = ap agains it.flies in
        let sent : 4 ≤ length it.notification.again = it.sent in
        absurd (omega (arith, none, sent))

-- CON 0.01 m=0010 t=c2 [6 01][11 rd-lookup][11 ep]: it asks to observe no more, under another token
abbrev cancelling : Message
cancelling = record {
  kind = Con;
  code = codes_of.get;
  mid = 16;
  token = 194 ∷ [];
  options =
      (table.observe, 1 ∷ [])
      ∷ (table.uri_path, codes "rd-lookup")
      ∷ (table.uri_path, codes "ep")
      ∷ [];
  payload = [];
}

-- and ends the observer under the first
abbrev cancels_another : Row
cancels_another =
    row_of step.Admit (spelling cancelling) false []
    (note.Unwatched (peer 1) (193 ∷ []) ∷ [])

-- An end theorem: nothing here cites it.
pub cancels_another_falls : ObserversStand (cancels_another ∷ watched ∷ []) → ⊥
unfolding machine_on_literals
cancels_another_falls h =
    elim (h.ends (watched ∷ []) cancels_another observes
    (record { later = []; whole = refl }) (0, (omega arith, refl))) [
      | inl stands ↦ (let low = stands.1.0 in absurd (omega (arith, low)))
      | inr ends ↦ by ends
    ]
  where
    head : List ℕ → ℕ
    head [] = 0
    head (c ∷ others) = c

    different : ◌≡◌ {A = ℕ} 193 194 → ⊥
    different e = absurd (omega (arith, e))

    of_request : (m : Message) → cancelling ≡ m → 193 ∷ [] ≡ m.token → ⊥
    of_request m is same =
        different (ap head (same ∙ ap (λ (x : Message). x.token) (sym is)))

    by : EndsObserving (watched ∷ []) cancels_another observes → ⊥
    by (asks_anew it) =
        of_request it.request
        (same_message cancelling it.request
        (let read : reading (spelling cancelling) ≡ Ok it.request = it.asks.read in read)) it.token
    by (rejects_notification it) =
        let none : ◌≡◌ {A = Option Flight} None (Some it.notification) = it.flies in absurd cc
    by (never_acknowledges it) =
        let none : ◌≡◌ {A = Option Flight} None (Some it.notification) = it.flies in absurd cc

-- CON 0.01 m=0010 t=c1 [6 01][11 rd-lookup][11 ep]: it asks to observe no more
abbrev deregistering : Message
deregistering = record {
  kind = Con;
  code = codes_of.get;
  mid = 16;
  token = 193 ∷ [];
  options =
      (table.observe, 1 ∷ [])
      ∷ (table.uri_path, codes "rd-lookup")
      ∷ (table.uri_path, codes "ep")
      ∷ [];
  payload = [];
}

-- where memory runs out, a cancellation ends nobody
abbrev starved_cancels : Row
starved_cancels =
    row_of step.Admit (spelling deregistering) true []
    (note.Unwatched (peer 1) (193 ∷ []) ∷ [])

-- An end theorem: nothing here cites it.
pub starved_cancels_falls : ObserversStand (starved_cancels ∷ watched ∷ []) → ⊥
unfolding machine_on_literals
starved_cancels_falls h =
    elim (h.ends (watched ∷ []) starved_cancels observes
    (record { later = []; whole = refl }) (0, (omega arith, refl))) [
      | inl stands ↦ (let low = stands.1.0 in absurd (omega (arith, low)))
      | inr ends ↦ by ends
    ]
  where
    by : EndsObserving (watched ∷ []) starved_cancels observes → ⊥
    by (asks_anew it) = absurd (false≢true (sym it.ample))
    by (rejects_notification it) =
        let none : ◌≡◌ {A = Option Flight} None (Some it.notification) = it.flies in absurd cc
    by (never_acknowledges it) =
        let none : ◌≡◌ {A = Option Flight} None (Some it.notification) = it.flies in absurd cc

-- ---- observers that do not end

-- and observes on
abbrev stays_cancelled : Row
stays_cancelled = row_of step.Admit (spelling deregistering) false [] []

-- An end theorem: nothing here cites it.
pub stays_cancelled_falls : ObserversStand (stays_cancelled ∷ watched ∷ []) → ⊥
unfolding machine_on_literals
stays_cancelled_falls h =
    let none : ◌≡◌ {A = Option Observer} (Some observes) None =
    h.cancels (watched ∷ []) stays_cancelled deregistering
    (record { later = []; whole = refl })
    (record {
      asks = record {
        heard = refl;
        read = refl;
        asks = refl;
        lookup = refl;
        first = refl;
        heeded = refl;
        unrefused = refl;
      };
      deregisters = refl;
      ample = refl;
    }) in
    absurd cc

-- RST m=0007: it rejects the notification in flight, and observes on
abbrev stays_rejected : Row
stays_rejected = row_of step.Admit (spelling (empty_message Rst 7)) false [] []

-- An end theorem: nothing here cites it.
pub stays_rejected_falls :
    ObserversStand (stays_rejected ∷ notified ∷ watched ∷ []) → ⊥
unfolding machine_on_literals
stays_rejected_falls h =
    h.leaves (notified ∷ watched ∷ []) stays_rejected observes
    (record { later = []; whole = refl })
    (inl (record {
      heard = refl;
      message = empty_message Rst 7;
      read = refl;
      resets = refl;
      peer = refl;
      notification = record { mid = 7; formed = formed; again = [] };
      flies = refl;
      mid = refl;
    })) (0, (omega arith, refl)) (0, (omega arith, refl))
  where
    formed : Event
    formed = record {
      place = 1;
      moment = 0;
      word = 0;
      note = note.Formed (peer 1) (193 ∷ []) [] (Some 7);
    }
