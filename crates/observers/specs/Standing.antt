-- The observers of a table: which one is found, and what changes (RFC 7641 section 4).
use Rattle.std.specs.Prelude.{
  ℕ,
  ◌+◌,
  zero,
  suc,
  Bool,
  false,
  not,
  ◌&&◌,
  ◌||◌,
  ◌==◌,
  List,
  [],
  ◌∷◌,
  drop,
  Option,
  Some,
  None,
  is_some,
  if◌then◌else◌,
}
use Rattle.std.specs.List.{list_any}
use Rattle.rd_base.specs.declared.peers.Peer.{Peer}
use Rattle.event_model.specs.Same.{is_same_peer, is_same_request}
use Rattle.event_model.specs.Flights.{Sent}
use Rattle.exchange_core.specs.declared.resends.Again.{Again}
use Rattle.exchange_core.specs.declared.resends.Again.TheVariants as again
use Rattle.exchange_core.specs.Retransmissions.{kept_due, kept_after}

-- An observer as the table stores it: who it is, the slot of its query, and whether it is due. It
-- also has the body last built for it, and its notification in flight.
pub record Standing : Type 0 where
  pub peer : Peer
  pub token : List ℕ
  pub slot : ℕ
  pub key : List ℕ
  pub szx : ℕ
  pub due : Bool
  pub last : List ℕ
  pub flight : Option Sent

-- Returns whether this is the observer of this peer and token.
abbrev pub is_named : Peer → List ℕ → Standing → Bool
is_named peer token w = is_same_request (peer, token) (w.peer, w.token)

-- Returns whether there is a message and it has this Message ID.
abbrev pub is_sent_as : ℕ → Option Sent → Bool
is_sent_as mid None = false
is_sent_as mid (Some s) = mid == s.mid

-- Returns whether a notification with this Message ID is in flight to this observer, and the
-- observer is of this peer.
abbrev pub has_notification : Peer → ℕ → Standing → Bool
has_notification peer mid w = is_same_peer peer w.peer && is_sent_as mid w.flight

-- Returns whether a notification is in flight to one of the observers of a peer.
abbrev pub is_awaited : Peer → List Standing → Bool
is_awaited peer ws = list_any (λ w. is_same_peer w.peer peer && is_some w.flight) ws

-- Returns whether the observer is due, and no notification is in flight to its peer (RFC 7252
-- section 4.7, NSTART).
abbrev pub is_ready : List Standing → Standing → Bool
is_ready ws w = w.due && not (is_awaited w.peer ws)

-- Returns the number of the first observer that passes a test. The numbers count from `i`.
abbrev pub first_from : (Standing → Bool) → ℕ → List Standing → Option ℕ
first_from test i [] = None
first_from test i (w ∷ ws) = if test w then Some i else first_from test (i + 1) ws

-- Returns the first index, from a number on, of an observer that is due and whose peer has no
-- notification in flight.
unfoldable pub next_ready : ℕ → List Standing → Option ℕ
next_ready from ws = first_from (is_ready ws) from (drop from ws)

-- Returns an observer after a slot was marked: it is due if it was due or has that slot.
abbrev pub marked : ℕ → Standing → Standing
marked slot w = record w { due = w.due || w.slot == slot }

-- Returns an observer after a notification with a body was built for it.
abbrev pub notified : Sent → List ℕ → Standing → Standing
notified sent body w = record w { due = false; last = body; flight = Some sent }

-- Returns an observer after its listing was found unchanged.
abbrev pub seen : Standing → Standing
seen w = record w { due = false }

-- Returns an observer after its notification was acknowledged.
abbrev pub landed : Standing → Standing
landed w = record w { flight = None }

-- Returns what is due for a notification in flight. Nothing is due if there is none.
abbrev pub due_of : ℕ → Option Sent → Again
due_of now None = again.Wait
due_of now (Some s) = kept_due now s.resend

-- Returns the notification after what was due for it was done.
abbrev pub kept_of : ℕ → Option Sent → Option Sent
kept_of now None = None
kept_of now (Some s) = Some (record s { resend = kept_after (kept_due now s.resend) now s.resend })

-- Returns an observer after what was due for its notification was done.
abbrev pub timed : ℕ → Standing → Standing
timed now w = record w { flight = kept_of now w.flight }

-- Returns the observers after the one with an index was changed.
abbrev pub changed_at : (Standing → Standing) → ℕ → List Standing → List Standing
changed_at change i [] = []
changed_at change zero (w ∷ ws) = change w ∷ ws
changed_at change (suc i) (w ∷ ws) = w ∷ changed_at change i ws
