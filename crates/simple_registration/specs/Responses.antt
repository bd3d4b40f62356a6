-- What a response means for its fetch (RFC 9176 section 5.1, RFC 7959 section 2.4).
use Rattle.std.specs.Prelude.{ℕ, ◌+◌, Bool, true, false, ◌&&◌, List, Option, Some, None, bytes_eq}
use Rattle.rd_base.specs.declared.peers.Peer.{Peer}
use Rattle.rd_base.specs.declared.parameters.RegParams.{RegParams}
use Rattle.message_model.specs.declared.blocks.Block.{Block}
use Rattle.message_model.specs.Message.{Message}
use Rattle.message_model.specs.Codes as codes_of
use Rattle.message_model.specs.Spelling.{spelling}
use Rattle.message_model.specs.FetchRequests.{fetch_request}
use Rattle.message_model.specs.Responses.{has_mid_of}
use Rattle.simple_registration.specs.declared.hearing.Heard.{Heard}
use Rattle.simple_registration.specs.declared.hearing.Heard.TheVariants as heard

-- Returns whether the response has the token of a request and, if it is piggybacked, its Message ID
-- (RFC 7252 section 5.3.2).
abbrev pub has_names_of : Message → List ℕ → ℕ → Bool
has_names_of m token mid = bytes_eq m.token token && has_mid_of m.kind m.mid mid

-- Returns the block after one, of the same size, as it is requested.
abbrev pub block_after : Block → Block
block_after b = record { num = b.num + 1; more = false; szx = b.szx }

-- Returns the octets of the request for the block after one.
abbrev pub request_after : ℕ → List ℕ → Block → List ℕ
request_after mid token b = spelling (fetch_request mid token (Some (block_after b)))

-- Returns the result of a block that is stored. If more follow, the next one is requested under a
-- Message ID; otherwise the body is whole.
abbrev pub heard_part : Bool → Block → ℕ → Peer → List ℕ → RegParams → List ℕ → Heard
heard_part true b mid peer token params body =
    heard.Next (record { peer = peer; bytes = request_after mid token b })
heard_part false b mid peer token params body = heard.Whole params body

-- Returns the result of a response that is neither ignored nor ends the fetch. Without a block, it
-- has the whole body.
abbrev pub heard_block : Option Block → ℕ → Peer → List ℕ → RegParams → List ℕ → Heard
heard_block None mid peer token params body = heard.Whole params body
heard_block (Some b) mid peer token params body = heard_part b.more b mid peer token params body

-- Returns the result of a response: it is ignored, or it ends the fetch, or its block is stored.
abbrev pub heard_by : Bool → Bool → Heard → Heard
heard_by true ends collected = heard.Passed
heard_by false true collected = heard.Ended
heard_by false false collected = collected
