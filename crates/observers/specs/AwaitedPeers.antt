-- The peers to which notifications are in flight. The table stores them separately, so that it
-- finds an observer that is due without a pass over all observers for each.
use Rattle.std.specs.Prelude.{
  ◌≡◌,
  ℕ,
  ◌≤◌,
  zero,
  suc,
  Bool,
  List,
  [],
  ◌∷◌,
  length,
  is_some,
  if◌then◌else◌,
}
use Rattle.std.specs.List.{list_any}
use Rattle.rd_base.specs.declared.peers.Peer.{Peer}
use Rattle.event_model.specs.Same.{is_same_peer}
use Rattle.observers.specs.Standing.{Standing, is_awaited}

-- Returns the peers of the observers to which a notification is in flight.
abbrev pub awaited_of : List Standing → List Peer
awaited_of [] = []
awaited_of (w ∷ ws) = if is_some w.flight then w.peer ∷ awaited_of ws else awaited_of ws

-- Returns how many notifications are in flight.
abbrev pub flights_of : List Standing → ℕ
flights_of [] = zero
flights_of (w ∷ ws) = if is_some w.flight then suc (flights_of ws) else flights_of ws

-- States that these are the peers to which notifications are in flight: a peer is among them if and
-- only if one is in flight to it.
abbrev pub Tells : List Standing → List Peer → Type 0
Tells ws peers = (peer : Peer) → list_any (λ q. is_same_peer q peer) peers ≡ is_awaited peer ws

-- The peers to which notifications are in flight, with no more of them than notifications in
-- flight.
pub record AreAwaited (ws : List Standing) (peers : List Peer) : Type 0 where
  pub tells : (peer : Peer) → list_any (λ q. is_same_peer q peer) peers ≡ is_awaited peer ws
  pub few : length peers ≤ flights_of ws
