-- The fetches of the table, in the order in which they started: which one is found, and what
-- changes.
use Rattle.std.specs.Prelude.{◌≡◌, ℕ, Bool, false, List, find, Option, Some, None}
use Rattle.rd_base.specs.declared.peers.Peer.{Peer}
use Rattle.message_model.specs.Message.{Message}
use Rattle.event_model.specs.Same.{is_same_peer}
use Rattle.event_model.specs.Fetches.{Fetch}
use Rattle.simple_registration.specs.declared.hearing.Heard.{Heard}
use Rattle.simple_registration.specs.declared.hearing.Heard.TheVariants as heard
use Rattle.simple_registration.specs.Running.{is_answered_by}

-- What a table of fetches shows: the fetches in progress, in the order in which they started, and
-- how many were started, modulo 2^64.
pub record Table : Type 0 where
  pub fetches : List Fetch
  pub started : ℕ

-- Returns whether the fetch is of a peer.
abbrev pub is_of : Peer → Fetch → Bool
is_of peer f = is_same_peer f.peer peer

-- Returns whether there is a fetch and it passes a test.
abbrev pub some_passes : (Fetch → Bool) → Option Fetch → Bool
some_passes test None = false
some_passes test (Some f) = test f

-- Returns whether a response belongs to the fetch of a peer among these.
abbrev pub belongs_among : Peer → Message → List Fetch → Bool
belongs_among peer m fs = some_passes (is_answered_by m) (find (is_of peer) fs)

-- States that a response leaves the table unchanged, unless the next block is requested or the
-- fetch ends.
abbrev pub IsKeptAfter : Heard → Table → Table → Type 0
IsKeptAfter (heard.Next ask) before after = Unit {0}
IsKeptAfter heard.Ended before after = Unit {0}
IsKeptAfter _ before after = after ≡ before
