-- A test of whether a request can be sent in one datagram.
use Rattle.std.specs.Prelude.{
  ℕ,
  Bool,
  true,
  ◌&&◌,
  ◌||◌,
  ◌==◌,
  nat_le,
  List,
  [],
  ◌∷◌,
  length,
}
use Rattle.message_model.specs.declared.messages.TheConstants.{MAX_MESSAGE_SIZE}
use Rattle.message_model.specs.Codes as codes_of
use Rattle.message_model.specs.Message.{Opt, last_number, longest_value}
use Rattle.client_model.specs.declared.asks.Ask.{Ask}
use Rattle.client_model.specs.Requests.{ask_size}

-- Returns whether options can be written one after another, after one with the number `before`:
-- their numbers do not fall, and each option can be written (RFC 7252 section 3.1).
abbrev pub can_follow : ℕ → List Opt → Bool
can_follow before [] = true
can_follow before (option ∷ options) =
    nat_le before option.0
    && (nat_le option.0 last_number
    && (nat_le (length option.1) longest_value && can_follow option.0 options))

-- Returns whether a request can be sent in one datagram (RFC 7252 section 4.6).
abbrev pub can_be_sent : Ask → Bool
can_be_sent ask =
    (ask.code == codes_of.post || ask.code == codes_of.delete)
    && (can_follow 0 ask.options && nat_le (ask_size ask) MAX_MESSAGE_SIZE)
