-- The parts of a fetch that may be sent and registered (RFC 9176 section 5.1).
use Rattle.std.specs.Prelude.{◌≡◌, ℕ, ◌≤◌, List, length, Option}
use Rattle.message_model.specs.declared.blocks.Block.{Block}
use Rattle.message_model.specs.FetchRequests.{fetch_request}
use Rattle.message_model.specs.Message.{longest_token}
use Rattle.message_model.specs.Spelling.{spelling}
use Rattle.coap_message.specs.PartialMessages.{longest_datagram}
use Rattle.record_model.specs.AllowedParameters.{AreAllowed}
use Rattle.simple_registration.specs.declared.hearing.Heard.{Heard}
use Rattle.simple_registration.specs.declared.hearing.Heard.TheVariants as heard

-- A request that can be sent: the request of a fetch under its Message ID. Its token is no longer
-- than a token may be, and it is no longer than a datagram may be.
pub record IsSendable (mid : ℕ) (octets : List ℕ) : Type 0 where
  pub token : List ℕ
  pub block : Option Block
  pub short : length token ≤ longest_token
  pub spelled : octets ≡ spelling (fetch_request mid token block)
  pub fits : length octets ≤ longest_datagram

-- States that the next request can be sent and the parameters of a whole body are allowed, where
-- the result has them.
abbrev pub IsSoundHeard : ℕ → Heard → Type 0
IsSoundHeard mid (heard.Next ask) = IsSendable mid ask.bytes
IsSoundHeard mid (heard.Whole params body) = AreAllowed params
IsSoundHeard mid _ = Unit {0}
