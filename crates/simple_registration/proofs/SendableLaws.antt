-- Requests of fetches can be sent.
use Rattle.std.proofs.Common.{◌≡◌, ℕ, ◌≤◌, List, length, Option}
use Rattle.message_model.specs.declared.blocks.Block.{Block}
use Rattle.message_model.specs.FetchRequests.{fetch_request}
use Rattle.message_model.specs.Message.{longest_token}
use Rattle.message_model.specs.Spelling.{spelling}
use Rattle.coap_message.specs.PartialMessages.{longest_datagram}
use Rattle.simple_registration.specs.Sendable.{IsSendable}

-- the octets of one that fits into a datagram
pub request-IsSendable : (mid : ℕ) (token octets : List ℕ) (b : Option Block)
    → length token ≤ longest_token
    → octets ≡ spelling (fetch_request mid token b)
    → length octets ≤ longest_datagram
    → IsSendable mid octets
request-IsSendable mid token octets b short spelled fits = record {
  token = token;
  block = b;
  short = short;
  spelled = spelled;
  fits = fits;
}
