-- A sentence of the headline, about what is fetched and uploaded: nothing is invented (RFC 9176
-- section 5.1, RFC 7959 sections 2.4 and 2.5).
use Rattle.std.specs.Prelude.{◌≡◌, true, false, ℕ, ◌+◌, ◌<◌, Bool, List, length, Option, Some}
use Rattle.std.specs.List.{list_any, IsAmong}
use Rattle.rd_base.specs.declared.peers.Peer.{Peer}
use Rattle.rd_base.specs.declared.parameters.RegParams.{RegParams}
use Rattle.message_model.specs.declared.blocks.Block.{Block}
use Rattle.message_model.specs.FetchRequests.{fetch_request}
use Rattle.message_model.specs.Request.{queries_in}
use Rattle.message_model.specs.RequestKey.{key_in}
use Rattle.message_model.specs.Responses.{block_in, tag_in, is_elsewhere}
use Rattle.message_model.specs.Spelling.{spelling}
use Rattle.record_model.specs.Parameters.{registration_values}
use Rattle.event_model.specs.declared.notes.Note.{Note}
use Rattle.event_model.specs.declared.notes.Note.TheVariants as note
use Rattle.event_model.specs.Same.{is_same_peer}
use Rattle.event_model.specs.Fetches.{
  max_fetches,
  fetches,
  is_fetching,
  next_token,
  gathered,
  collected,
}
use Rattle.journal_model.specs.declared.steps.Step.{Step}
use Rattle.journal_model.specs.declared.rows.Row.{Row}
use Rattle.journal_model.specs.Journal.{events}
use Rattle.journal_model.specs.Requests.{sent_block, number_of}
use Rattle.journal_model.specs.Responses.{more_follow, ends_fetch}
use Rattle.journal_model.specs.AskedChanges.{IsCollected}
use Rattle.journal_model.specs.PlacedRows.{Within, Placed, Commits}
use Rattle.journal_model.specs.FetchCompletions.{AnswersFetch}
use Rattle.journal_model.specs.AdmittedWrites.{AdmittedAt}
use Rattle.headline_law.specs.AnsweredChallenges.{ShowsAddress}

-- A row that commits a simple registration that answered its challenge, and has this peer and these
-- parameters. The token is the number of fetches with this one, so no earlier fetch has it. No
-- fetch with the peer runs, and there is room for one more.
pub record StartsFor (before : List Row) (r : Row) (peer : Peer) (token : List ℕ)
    (params : RegParams) : Type 0 where
  pub admission : Placed
  pub within : Within before admission.before admission.row
  pub commits : Commits r (length admission.before)
  pub shows : ShowsAddress admission
  pub peer_is : peer ≡ admission.row.step.peer
  pub params_are : params ≡ registration_values (queries_in shows.message)
  pub token_is : token ≡ next_token (events before)
  pub none_runs : is_fetching peer (events before) ≡ false
  pub room : length (fetches (events before)) < max_fetches

-- A row that sends this peer the GET of a fetch, with this token and Message ID, which requests the
-- block with this number.
pub record SendsRequest (r : Row) (peer : Peer) (token : List ℕ) (mid number : ℕ) : Type 0 where
  pub block : Option Block
  pub among : IsAmong r.sent (peer, spelling (fetch_request mid token block))
  pub number_is : number_of block ≡ number

-- Returns whether a note gathers a block of the fetch with a peer.
abbrev pub gathers_from : Peer → Note → Bool
gathers_from peer (note.Gathered p octets tag) = is_same_peer p peer
gathers_from peer _ = false

-- A step that handles a response to the last request of the running fetch with this peer. That
-- request has this token and these parameters. The response brings a block that more blocks follow,
-- and this is the number of the next.
pub record GoesOnWith (before : List Row) (s : Step) (peer : Peer) (token : List ℕ)
    (params : RegParams) (number : ℕ) : Type 0 where
  pub answers : AnswersFetch before s
  pub peer_is : peer ≡ s.peer
  pub token_is : token ≡ answers.request.token
  pub params_are : params ≡ answers.request.params
  pub block : Block
  pub block_is : block_in answers.message ≡ Some block
  pub more : block.more ≡ true
  pub next : number ≡ block.num + 1

-- A row that commits a write of this peer that an earlier row admitted. Its request has this key,
-- and its payload is the block with this number. The block begins where the collected octets end,
-- and more blocks follow.
pub record CameInWrite (before : List Row) (r : Row) (peer : Peer) (key : List ℕ) (number : ℕ)
    (octets : List ℕ) : Type 0 where
  pub place : ℕ
  pub commits : Commits r place
  pub admitted : AdmittedAt before place r.step
  pub peer_is : peer ≡ r.step.peer
  pub key_is : key ≡ key_in admitted.message
  pub block : Block
  pub block_is : sent_block admitted.message ≡ Some block
  pub number_is : number ≡ block.num
  pub more : block.more ≡ true
  pub collected : List ℕ
  pub joins : IsCollected (Some block) before r.moment.0 r.step admitted.message collected
  pub octets_are : octets ≡ admitted.message.payload

-- A step that handles a response to the last request of the running fetch with this peer. The
-- response has this payload, which begins where the collected octets end, and this entity tag.
-- Nothing in it ends the fetch, and more blocks follow.
pub record CameInResponse (before : List Row) (s : Step) (peer : Peer) (octets : List ℕ)
    (tag : Option (List ℕ)) : Type 0 where
  pub answers : AnswersFetch before s
  pub peer_is : peer ≡ s.peer
  pub octets_are : octets ≡ answers.message.payload
  pub tag_is : tag ≡ tag_in answers.message
  pub joins : is_elsewhere (block_in answers.message) (length (collected s.peer (events before)))
      ≡ false
  pub whole : ends_fetch answers.message (gathered s.peer (events before))
      (length (collected s.peer (events before)))
      ≡ false
  pub more : more_follow (block_in answers.message) ≡ true

-- The sentence: nothing is invented. What is fetched was requested, and what is collected arrived.
pub record NothingInvented (rows : List Row) : Type 0 where
  -- A fetch starts only in the row that commits a simple registration that answered its challenge
  -- (RFC 9176 section 5.1).
  pub starts : (before : List Row) (r : Row) (peer : Peer) (token : List ℕ) (mid : ℕ)
      (params : RegParams)
      → Within rows before r
      → IsAmong r.notes (note.Asked peer token mid params 0)
      → StartsFor before r peer token params
  -- A fetch continues only if a response to its last request brought a block that more blocks
  -- follow. It then requests the next block (RFC 7959 section 2.4).
  pub goes_on : (before : List Row) (r : Row) (peer : Peer) (token : List ℕ) (mid : ℕ)
      (params : RegParams) (number : ℕ)
      → Within rows before r
      → IsAmong r.notes (note.Asked peer token mid params number)
      → 0 < number
      → GoesOnWith before r.step peer token params number
  -- That block is gathered in the same row.
  pub gathers : (before : List Row) (r : Row) (peer : Peer) (token : List ℕ) (mid : ℕ)
      (params : RegParams) (number : ℕ)
      → Within rows before r
      → IsAmong r.notes (note.Asked peer token mid params number)
      → 0 < number
      → list_any (gathers_from peer) r.notes ≡ true
  -- Each request that is noted is sent.
  pub sends : (before : List Row) (r : Row) (peer : Peer) (token : List ℕ) (mid : ℕ)
      (params : RegParams) (number : ℕ)
      → Within rows before r
      → IsAmong r.notes (note.Asked peer token mid params number)
      → SendsRequest r peer token mid number
  -- A block of an upload arrived in the write of its peer that the row commits (RFC 7959 section
  -- 2.5).
  pub uploaded : (before : List Row) (r : Row) (peer : Peer) (key : List ℕ) (number : ℕ)
      (octets : List ℕ)
      → Within rows before r
      → IsAmong r.notes (note.Piece peer key number octets)
      → CameInWrite before r peer key number octets
  -- A block of a fetch arrived in the response that the row handles (RFC 7959 section 2.4).
  pub gathered : (before : List Row) (r : Row) (peer : Peer) (octets : List ℕ)
      (tag : Option (List ℕ))
      → Within rows before r
      → IsAmong r.notes (note.Gathered peer octets tag)
      → CameInResponse before r.step peer octets tag
