-- The result of a call on a fetch, and the fetch after it.
use Rattle.std.specs.Prelude.{◌≡◌, ℕ, false, List, [], Some, None}
use Rattle.rd_base.specs.declared.peers.Peer.{Peer}
use Rattle.rd_base.specs.declared.parameters.RegParams.{RegParams}
use Rattle.message_model.specs.declared.blocks.Block.{Block}
use Rattle.message_model.specs.Message.{Message}
use Rattle.message_model.specs.Spelling.{spelling}
use Rattle.message_model.specs.FetchRequests.{fetch_request}
use Rattle.message_model.specs.Responses.{block_in}
use Rattle.event_model.specs.Fetches.{Fetch}
use Rattle.simple_registration.specs.declared.asks.Ask.{Ask}
use Rattle.simple_registration.specs.declared.hearing.Heard.{Heard}
use Rattle.simple_registration.specs.declared.hearing.Heard.TheVariants as heard
use Rattle.simple_registration.specs.Running.{sent_first, with_next}

-- Returns the octets of the first request of a fetch.
abbrev pub first_octets : ℕ → List ℕ → List ℕ
first_octets mid token = spelling (fetch_request mid token None)

-- Returns a fetch that starts at a moment, in a row with a word: nothing is stored yet.
abbrev pub fetch_started : ℕ → ℕ → ℕ → Peer → List ℕ → RegParams → Fetch
fetch_started now word mid peer token params = record {
  peer = peer;
  token = token;
  params = params;
  number = 0;
  asked = now;
  waits = sent_first now word mid (first_octets mid token);
  acknowledged = false;
  body = [];
  tag = None;
}

-- Returns the request that starts a fetch.
abbrev pub first_ask : ℕ → Peer → List ℕ → Ask
first_ask mid peer token = record { peer = peer; bytes = first_octets mid token }

-- States what a response leaves of a fetch. If the next block is requested, the block of the
-- response is stored; otherwise nothing changes.
abbrev pub IsLeftBy : Heard → ℕ → ℕ → ℕ → Message → Fetch → Fetch → Type 0
IsLeftBy (heard.Next ask) now word mid m before after =
    (b : Block) → block_in m ≡ Some b → after ≡ with_next now word mid m b before
IsLeftBy _ now word mid m before after = after ≡ before
