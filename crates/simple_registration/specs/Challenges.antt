-- The table of challenges, and the events that it stands for (RFC 9175 section 2.3).
use Rattle.std.specs.Prelude.{◌≡◌, ℕ, Bool, List, ◌++◌}
use Rattle.std.specs.Int.{bytes_high_first}
use Rattle.rd_base.specs.declared.peers.Peer.{Peer}
use Rattle.event_model.specs.Same.{is_same_peer}
use Rattle.event_model.specs.Events.{Event}
use Rattle.event_model.specs.Challenges.{Challenge, challenges_made, latest_challenges}

-- What a table of challenges shows: the latest ones, the latest first, and how many were issued,
-- modulo 2^32.
pub record ChallengeTable : Type 0 where
  pub challenges : List Challenge
  pub made : ℕ

-- A table that stands for events: its challenges are the latest ones, and it counts those that were
-- issued.
pub record ChallengesStandFor (events : List Event) (t : ChallengeTable) : Type 0 where
  pub latest : t.challenges ≡ latest_challenges events
  pub made : t.made ≡ challenges_made events

-- Returns whether the challenge was issued to a peer.
abbrev pub is_to : Peer → Challenge → Bool
is_to peer c = is_same_peer c.peer peer

-- Returns the value of a challenge in a row with a word, after `made` earlier ones. Each of the two
-- numbers takes four octets.
abbrev pub value_of : ℕ → ℕ → List ℕ
value_of word made = bytes_high_first 4 word ++ bytes_high_first 4 made

-- Returns a challenge that is issued at a moment.
abbrev pub challenge_made : ℕ → Peer → List ℕ → Challenge
challenge_made moment peer value = record { peer = peer; value = value; moment = moment }
