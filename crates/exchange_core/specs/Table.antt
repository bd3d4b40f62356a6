-- The exchanges of the table, the latest first: which one is found, and what changes.
use Rattle.std.specs.Prelude.{
  ℕ,
  ◌≤◌,
  Bool,
  ◌&&◌,
  ◌==◌,
  List,
  [],
  ◌∷◌,
  find,
  filter,
  Option,
  Some,
  None,
  option_and_then,
  if◌then◌else◌,
}
use Rattle.rd_base.specs.declared.moments.Moment.{Moment}
use Rattle.rd_base.specs.declared.peers.Peer.{Peer}
use Rattle.event_model.specs.Same.{is_same_peer}
use Rattle.event_model.specs.Events.{is_young}
use Rattle.event_model.specs.Repeats.{Exchange}
use Rattle.exchange_core.specs.declared.writes.Keyed.{Keyed}
use Rattle.exchange_core.specs.declared.writes.Keyed.TheVariants as keyed

-- What a table of exchanges shows: the latest moment passed to a call that changed it, and its
-- exchanges, the latest first.
pub record Table : Type 0 where
  pub moment : ℕ
  pub exchanges : List Exchange

-- Returns a write of a peer under a Message ID that is admitted at a moment and is in progress.
abbrev pub admitted_now : Peer → ℕ → ℕ → Exchange
admitted_now peer mid moment = record { peer = peer; mid = mid; moment = moment; reply = None }

-- Returns whether the exchange is of a write of this peer under this Message ID.
abbrev pub is_with : Peer → ℕ → Exchange → Bool
is_with peer mid x = is_same_peer x.peer peer && x.mid == mid

-- Returns whether the exchange is of that write, and was admitted at this moment.
abbrev pub is_admitted_at : Peer → ℕ → ℕ → Exchange → Bool
is_admitted_at peer mid moment x = is_with peer mid x && x.moment == moment

-- Returns whether the exchange is of that write, and was admitted at this moment if one is given.
abbrev pub is_sought : Peer → ℕ → Option Moment → Exchange → Bool
is_sought peer mid None x = is_with peer mid x
is_sought peer mid (Some moment) x = is_admitted_at peer mid moment.0 x

-- Returns the exchanges that are young at a moment.
abbrev pub young : ℕ → List Exchange → List Exchange
young now xs = filter (λ x. is_young now x.moment) xs

-- States that the first exchange was admitted at this moment or before, and each other one no later
-- than the one before it in the list.
abbrev pub InOrder : ℕ → List Exchange → Type 0
InOrder last [] = Unit {0}
InOrder last (x ∷ xs) = (x.moment ≤ last) × InOrder x.moment xs

-- Returns the answer to a duplicate of a write that has this answer, or is in progress.
abbrev pub repeating : Option (List ℕ) → Keyed
repeating None = keyed.InFlight
repeating (Some reply) = keyed.Kept reply

-- Returns that answer if the exchange is young, and none otherwise.
abbrev pub repeating_young : ℕ → Exchange → Option Keyed
repeating_young now x = if is_young now x.moment then Some (repeating x.reply) else None

-- Returns the answer to a duplicate of the latest exchange with this peer and Message ID, if that
-- one is young.
unfoldable pub repeat_among : ℕ → Peer → ℕ → List Exchange → Option Keyed
repeat_among now peer mid xs = option_and_then (repeating_young now) (find (is_with peer mid) xs)

-- Returns an exchange with its reply.
abbrev pub answered : List ℕ → Exchange → Exchange
answered reply x = record x { reply = Some reply }
