-- Challenges: a peer proves that it receives at its address by returning the value of an Echo
-- option that was sent there (RFC 9175 sections 2.3 and 2.6).
use Rattle.std.specs.Prelude.{
  ℕ,
  ◌%◌,
  ◌^◌,
  Bool,
  true,
  false,
  ◌&&◌,
  nat_lt,
  List,
  ◌++◌,
  length,
  take,
  filter,
  filter_map,
  Option,
  Some,
  None,
  bytes_eq,
}
use Rattle.std.specs.Int.{bytes_high_first}
use Rattle.rd_base.specs.declared.peers.Peer.{Peer}
use Rattle.event_model.specs.declared.limits.TheConstants.{MAX_CHALLENGES}
use Rattle.event_model.specs.declared.notes.Note.{Note}
use Rattle.event_model.specs.declared.notes.Note.TheVariants as note
use Rattle.event_model.specs.Same.{is_same_peer}
use Rattle.event_model.specs.Events.{Event, last_event, events_since, is_young}

-- The number of latest challenges that can be answered.
abbrev pub max_challenges : ℕ
max_challenges = MAX_CHALLENGES

-- Returns whether a note is a challenge.
abbrev pub is_challenge : Note → Bool
is_challenge (note.Challenged peer value) = true
is_challenge _ = false

-- Returns whether a note is a challenge of this peer.
abbrev pub is_challenge_of : Peer → Note → Bool
is_challenge_of peer (note.Challenged p value) = is_same_peer p peer
is_challenge_of peer _ = false

-- Returns whether a note is a challenge with this value.
abbrev pub is_with_value : List ℕ → Note → Bool
is_with_value value (note.Challenged p v) = bytes_eq v value
is_with_value value _ = false

-- Returns the challenges, the latest first.
unfoldable pub challenges : List Event → List Event
challenges events = filter (λ e. is_challenge e.note) events

-- Returns how many challenges were made, modulo 2^32.
unfoldable pub challenges_made : List Event → ℕ
challenges_made events = length (challenges events) % 2 ^ 32

-- Returns the value of the next challenge, in a row with a word: the word, and how many challenges
-- were made before, each in four octets. No two of the 2^32 latest have the same value. A sender
-- that does not see the value does not know the word (RFC 9175 section 2.3).
unfoldable pub next_challenge : ℕ → List Event → List ℕ
next_challenge word events =
    bytes_high_first 4 word ++ bytes_high_first 4 (challenges_made events)

-- Returns whether fewer than 1,024 challenges were made after the last one of the peer.
abbrev pub is_among_latest : Peer → List Event → Bool
is_among_latest peer events =
    nat_lt (length (challenges (events_since (is_challenge_of peer) events))) max_challenges

-- Returns whether a value answers the last challenge of its peer at a moment: that challenge is
-- young enough, and has this value.
abbrev pub is_answered_by : ℕ → List ℕ → Option Event → Bool
is_answered_by now value None = false
is_answered_by now value (Some e) = is_young now e.moment && is_with_value value e.note

-- Returns whether a value proves at a moment that the peer receives at its address. It answers the
-- last challenge of that peer, which is among the latest 1,024 (RFC 9175 section 2.3).
unfoldable pub is_good : ℕ → Peer → List ℕ → List Event → Bool
is_good now peer value events =
    is_among_latest peer events
    && is_answered_by now value (last_event (is_challenge_of peer) events)

-- A challenge that can be answered: the peer that it was sent to, its value, and its moment.
pub record Challenge : Type 0 where
  pub peer : Peer
  pub value : List ℕ
  pub moment : ℕ

-- Returns the challenge that a note makes at a moment.
abbrev pub challenge_noted : ℕ → Note → Option Challenge
challenge_noted moment (note.Challenged peer value) =
    Some (record { peer = peer; value = value; moment = moment })
challenge_noted moment _ = None

-- Returns the latest 1,024 challenges, the latest first.
unfoldable pub latest_challenges : List Event → List Challenge
latest_challenges events =
    take max_challenges (filter_map (λ e. challenge_noted e.moment e.note) events)
