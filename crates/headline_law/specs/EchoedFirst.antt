-- A sentence of the headline, about Echo. The directory sends a request only to a peer that
-- answered a challenge (RFC 9176 section 5.1, RFC 9175 sections 2.3 and 2.6).
use Rattle.std.specs.Prelude.{◌≡◌, true, ℕ, Bool, List, [], ◌∷◌, Option, Ok}
use Rattle.std.specs.List.{IsAmong}
use Rattle.rd_base.specs.declared.peers.Peer.{Peer}
use Rattle.message_model.specs.declared.blocks.Block.{Block}
use Rattle.message_model.specs.declared.messages.Role.TheVariants as role
use Rattle.message_model.specs.declared.requests.Path.TheVariants as path
use Rattle.message_model.specs.Codes as codes_of
use Rattle.message_model.specs.Message.{Message, role_of}
use Rattle.message_model.specs.FetchRequests.{fetch_request}
use Rattle.message_model.specs.Reading.{reading}
use Rattle.message_model.specs.Spelling.{spelling}
use Rattle.message_model.specs.OptionTable as table
use Rattle.message_model.specs.Request.{path_in}
use Rattle.event_model.specs.declared.notes.Note.TheVariants as note
use Rattle.event_model.specs.Challenges.{next_challenge}
use Rattle.journal_model.specs.declared.steps.StepKind.TheVariants as step
use Rattle.journal_model.specs.declared.rows.Row.{Row}
use Rattle.journal_model.specs.Journal.{events}
use Rattle.journal_model.specs.PlacedRows.{Within}
use Rattle.journal_model.specs.CarriedBlocks.{Sent}
use Rattle.headline_law.specs.AnsweredChallenges.{ShownBefore}

-- Returns whether the code of a message is a method code. GET has 0.01, and no code of a request is
-- greater than 0.31 (RFC 7252 sections 5.8 and 12.1).
abbrev pub is_request : Message → Bool
is_request m = codes_of.is_request_code m.code

-- Octets that encode the request of a fetch. It is a confirmable GET of `/.well-known/core`, with
-- no further option except Block2 (RFC 9176 section 5.1).
pub record IsFetchRequest (octets : List ℕ) : Type 0 where
  pub mid : ℕ
  pub token : List ℕ
  pub block : Option Block
  pub octets_are : octets ≡ spelling (fetch_request mid token block)

-- A row that sends a peer 4.01 with a value in Echo, and no other option (RFC 9175 section 2.3).
pub record SendsEcho (r : Row) (peer : Peer) (value : List ℕ) : Type 0 where
  pub octets : List ℕ
  pub among : IsAmong r.sent (peer, octets)
  pub message : Message
  pub read : reading octets ≡ Ok message
  pub code : message.code ≡ codes_of.unauthorized
  pub options : message.options ≡ (table.echo, value) ∷ []

-- A row that challenges a peer by a value. It handles a simple registration of that peer, and sends
-- it the value. The value consists of the random word of the step and the number of challenges made
-- before.
pub record IsChallenge (before : List Row) (r : Row) (peer : Peer) (value : List ℕ) : Type 0 where
  pub heard : r.step.kind ≡ step.Admit
  pub message : Message
  pub read : reading r.step.datagram ≡ Ok message
  pub asks : role_of message.kind message.code ≡ role.Request
  pub simple : path_in message ≡ path.SimpleRd
  pub to : peer ≡ r.step.peer
  pub value_is : value ≡ next_challenge r.step.word (events before)
  pub sends : SendsEcho r peer value

-- The sentence: the directory sends a request only if a challenge was answered.
pub record EchoedFirst (rows : List Row) : Type 0 where
  -- Each request that is sent is a GET (RFC 7252 section 5.8.1).
  pub method : (sent : Sent rows)
      → is_request sent.message ≡ true
      → sent.message.code ≡ codes_of.get
  -- It requests the links of a device, and nothing else (RFC 9176 section 5.1).
  pub fetches : (sent : Sent rows)
      → is_request sent.message ≡ true
      → IsFetchRequest sent.octets
  -- It goes to an address and port from which an earlier row admitted a simple registration. That
  -- registration answered the last challenge sent there (RFC 9175 section 2.6).
  pub shown : (sent : Sent rows)
      → is_request sent.message ≡ true
      → ShownBefore sent.here.before sent.peer
  -- Each challenge that is noted is sent to its peer, in answer to a simple registration. Its value
  -- consists of the random word of the row and the number of challenges before it (RFC 9175 section
  -- 2.3).
  pub challenged : (before : List Row) (r : Row) (peer : Peer) (value : List ℕ)
      → Within rows before r
      → IsAmong r.notes (note.Challenged peer value)
      → IsChallenge before r peer value
