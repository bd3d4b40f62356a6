-- The requests of a client of a directory (RFC 9176 section 5): their purposes, their messages, and
-- which can be sent.
use Rattle.std.specs.Prelude.{
  ℕ,
  ◌≡◌,
  ◌+◌,
  ◌≤◌,
  ◌==◌,
  ◌⊎◌,
  List,
  [],
  ◌∷◌,
  length,
  ⊤,
  if◌then◌else◌,
}
use Rattle.rd_base.specs.declared.peers.Peer.{Peer}
use Rattle.message_model.specs.declared.messages.TheConstants.{MAX_MESSAGE_SIZE}
use Rattle.message_model.specs.declared.messages.Kind4.TheVariants.{Con}
use Rattle.message_model.specs.Message.{Message, Opt, last_number, longest_value}
use Rattle.message_model.specs.Spelling.{options_spelling, payload_spelling}
use Rattle.message_model.specs.Codes as codes_of
use Rattle.message_model.specs.OptionTable as table
use Rattle.message_model.specs.OptionTable.{stands_in}
use Rattle.client_model.specs.declared.asks.TheConstants.{TOKEN_SIZE}
use Rattle.client_model.specs.declared.asks.Ask.{Ask}
use Rattle.client_model.specs.declared.asks.Purpose.{Purpose}
use Rattle.client_model.specs.declared.asks.Purpose.TheVariants as purpose

-- Returns the purpose of an ask. A DELETE removes, a POST with a Content-Format registers, and any
-- other POST refreshes (RFC 9176 sections 5, 5.3.1 and 5.3.2).
abbrev pub purpose_of : Ask → Purpose
purpose_of ask =
    if ask.code == codes_of.delete then purpose.Remove
    else if stands_in table.content_format ask.options then purpose.Register
    else purpose.Refresh

-- A request: its directory, its purpose, its Message ID and its token.
pub record Request : Type 0 where
  pub to : Peer
  pub purpose : Purpose
  pub mid : ℕ
  pub token : List ℕ

-- A request that was made, with its moment and the word that determines its initial timeout.
pub record Asked : Type 0 where
  pub request : Request
  pub at : ℕ
  pub word : ℕ

-- Returns the request of an ask.
abbrev pub request_of : Ask → ℕ → List ℕ → Request
request_of ask mid token = record {
  to = ask.to;
  purpose = purpose_of ask;
  mid = mid;
  token = token;
}

-- Returns its message, which is confirmable (RFC 7252 section 4.2).
abbrev pub message_of : Ask → ℕ → List ℕ → Message
message_of ask mid token = record {
  kind = Con;
  code = ask.code;
  mid = mid;
  token = token;
  options = ask.options;
  payload = ask.payload;
}

-- Returns how many octets its datagram has, whatever its Message ID and its token (RFC 7252 section
-- 3). These are the four of a header, and those of the token, its options and its payload.
abbrev pub ask_size : Ask → ℕ
ask_size ask =
    4
    + TOKEN_SIZE
    + length (options_spelling 0 ask.options)
    + length (payload_spelling ask.payload)

-- States that options can be spelled after one of that number: the numbers never fall, and each
-- option can be spelled (RFC 7252 section 3.1).
abbrev pub CanFollow : ℕ → List Opt → Type 0
CanFollow before [] = ⊤
CanFollow before (option ∷ options) =
    (before ≤ option.0)
    × (option.0 ≤ last_number)
    × (length option.1 ≤ longest_value)
    × CanFollow option.0 options

-- An ask that can be sent in one datagram (RFC 7252 section 4.6).
pub record CanBeSent (ask : Ask) : Type 0 where
  pub code : (ask.code ≡ codes_of.post) ⊎ (ask.code ≡ codes_of.delete)
  pub options : CanFollow 0 ask.options
  pub size : ask_size ask ≤ MAX_MESSAGE_SIZE
