-- The events of a journal that a table of exchanges stands for (RFC 7252 section 4.5).
use Rattle.std.specs.Prelude.{
  ◌≡◌,
  ◌≢◌,
  ℕ,
  ◌≤◌,
  ◌<◌,
  Bool,
  true,
  false,
  List,
  ◌∷◌,
  length,
  Option,
  Some,
  None,
}
use Rattle.rd_base.specs.declared.peers.Peer.{Peer}
use Rattle.event_model.specs.declared.notes.Note.TheVariants as note
use Rattle.event_model.specs.Events.{Event}
use Rattle.event_model.specs.AdmissionOrder.{IsOrderly, NoneAfter, IsNewPlace}
use Rattle.event_model.specs.Repeats.{
  max_exchanges,
  repeated,
  settled,
  is_full_of_exchanges,
  exchanges_at,
}
use Rattle.exchange_core.specs.declared.writes.Keyed.{Keyed}
use Rattle.exchange_core.specs.declared.writes.Keyed.TheVariants as keyed
use Rattle.exchange_core.specs.Table.{Table, admitted_now, young, repeating}

-- A table that stands for events at a moment. Those of its exchanges that are young then are the
-- ones stored then by the events, with their answers.
pub record ExchangesStandFor (moment : ℕ) (events : List Event) (t : Table) : Type 0 where
  pub kept : young moment t.exchanges ≡ exchanges_at moment events

-- Returns the answer to a new write, by whether the table is full.
abbrev pub keyed_new : Bool → Keyed
keyed_new true = keyed.FullExchanges
keyed_new false = keyed.Fresh

-- Returns the answer to a write: to a duplicate by the admission that it repeats, and to a new one
-- by whether there is room.
abbrev pub keyed_as : Option Event → ℕ → List Event → Keyed
keyed_as (Some first) moment events = repeating (settled first.place events)
keyed_as None moment events = keyed_new (is_full_of_exchanges moment events)

-- Returns the answer to a write of a peer under a Message ID after these events.
unfoldable pub keyed_after : ℕ → Peer → ℕ → List Event → Keyed
keyed_after moment peer mid events = keyed_as (repeated moment peer mid events) moment events

-- A write of a peer under a Message ID that was looked up in a table at a moment, and the answer
-- that it would get. The table still stands for the same events.
pub record IsFoundAt (now : ℕ) (peer : Peer) (mid : ℕ) (before after : Table) (answer : Keyed) :
    Type 0 where
  -- It would get the answer that it gets after those events.
  pub answered : (events : List Event)
      → IsOrderly events
      → NoneAfter now events
      → ExchangesStandFor now events before
      → answer ≡ keyed_after now peer mid events
  -- The events do not change.
  pub aside : (events : List Event)
      → ExchangesStandFor now events before
      → ExchangesStandFor now events after
  -- A duplicate changes nothing.
  pub repeated : answer ≢ keyed.Fresh → answer ≢ keyed.FullExchanges → after ≡ before
  -- The table was changed at no later moment.
  pub moment : after.moment ≤ now

-- A write of a peer under a Message ID that was passed to a table at a moment. It gets this answer,
-- and the table then stands for these events. This holds for all events that the table stood for at
-- that moment.
pub record IsKeyedAt (now : ℕ) (peer : Peer) (mid : ℕ) (before after : Table) (answer : Keyed) :
    Type 0 where
  -- It gets the answer that it gets after those events.
  pub answered : (events : List Event)
      → IsOrderly events
      → NoneAfter now events
      → ExchangesStandFor now events before
      → answer ≡ keyed_after now peer mid events
  -- An admitted write is one more event.
  pub admitted : (events : List Event) (e : Event)
      → answer ≡ keyed.Fresh
      → e.note ≡ note.Admitted peer mid
      → e.moment ≡ now
      → IsNewPlace e.place events
      → ExchangesStandFor now events before → ExchangesStandFor now (e ∷ events) after
  -- Any other write does not change the events.
  pub aside : (events : List Event)
      → answer ≢ keyed.Fresh
      → ExchangesStandFor now events before
      → ExchangesStandFor now events after
  -- A duplicate changes nothing.
  pub repeated : answer ≢ keyed.Fresh → answer ≢ keyed.FullExchanges → after ≡ before
  -- The table was changed at no later moment.
  pub moment : after.moment ≤ now

-- A write of a peer under a Message ID that is new at a moment, with room for it in the remaining
-- table. It would be answered `Fresh`, and it is once it is the latest of the exchanges.
pub record MayBeAdmitted (now : ℕ) (peer : Peer) (mid : ℕ) (before after : Table) : Type 0 where
  pub found : IsFoundAt now peer mid before after keyed.Fresh
  pub room : length after.exchanges < max_exchanges
  -- The table was changed now.
  pub moment : after.moment ≡ now
  pub admitted : (more : Table)
      → more.exchanges ≡ admitted_now peer mid now ∷ after.exchanges
      → more.moment ≡ after.moment
      → IsKeyedAt now peer mid before more keyed.Fresh
