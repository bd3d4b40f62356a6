-- The fifth sentence of the headline, about every datagram that a row sends. It can be read and
-- fits a link. A response has the peer and the token of its request, and a notification those of
-- its observer. A body that is noted as built is sent.
use Rattle.std.specs.Prelude.{◌≡◌, ◌⊎◌, ℕ, ◌≤◌, Bool, true, false, List, length, Option, Some, Ok}
use Rattle.std.specs.List.{IsAmong}
use Rattle.rd_base.specs.declared.peers.Peer.{Peer}
use Rattle.message_model.specs.declared.messages.Role.{Role}
use Rattle.message_model.specs.declared.messages.Role.TheVariants as role
use Rattle.message_model.specs.Message.{Message, role_of}
use Rattle.message_model.specs.Reading.{reading}
use Rattle.event_model.specs.declared.notes.Note.TheVariants as note
use Rattle.event_model.specs.declared.notes.Observer.{Observer}
use Rattle.journal_model.specs.declared.steps.Step.{Step}
use Rattle.journal_model.specs.declared.steps.StepKind.{StepKind}
use Rattle.journal_model.specs.declared.steps.StepKind.TheVariants as step
use Rattle.journal_model.specs.declared.rows.Row.{Row}
use Rattle.journal_model.specs.MessageSizes.{longest_datagram}
use Rattle.journal_model.specs.Requests.{asked_block, number_of}
use Rattle.journal_model.specs.PlacedRows.{Within, Placed, admits}
use Rattle.journal_model.specs.AskedListings.{observer_named}
use Rattle.journal_model.specs.CarriedBlocks.{is_content, IsBlockOf, Sent}

-- A datagram that a row of a journal sends.
pub record Datagram (rows : List Row) : Type 0 where
  pub here : Placed
  pub within : Within rows here.before here.row
  pub peer : Peer
  pub octets : List ℕ
  pub among : IsAmong here.row.sent (peer, octets)

-- Octets that can be read as a message, and fit a datagram.
pub record IsFitting (octets : List ℕ) : Type 0 where
  pub message : Message
  pub read : reading octets ≡ Ok message
  pub short : length octets ≤ longest_datagram

-- Returns whether the role of a message is to respond.
abbrev pub is_response_role : Role → Bool
is_response_role role.Ping = false
is_response_role role.Acknowledgement = false
is_response_role role.Reset = false
is_response_role role.Request = false
is_response_role role.Response = true
is_response_role role.Ignored = false

-- Returns whether the message is a response.
abbrev pub is_response : Message → Bool
is_response m = is_response_role (role_of m.kind m.code)

-- A step whose datagram is a request, the token of which a response has.
pub record AnswersRequest (s : Step) (m : Message) : Type 0 where
  pub request : Message
  pub read : reading s.datagram ≡ Ok request
  pub asks : role_of request.kind request.code ≡ role.Request
  pub token : m.token ≡ request.token

-- A step whose datagram is a duplicate of a request: an earlier row admitted one of the same peer
-- with the same Message ID. A response has the token of that one.
pub record AnswersRepeat (before : List Row) (s : Step) (m : Message) : Type 0 where
  pub again : Message
  pub read : reading s.datagram ≡ Ok again
  pub asks : role_of again.kind again.code ≡ role.Request
  pub first : Placed
  pub within : Within before first.before first.row
  pub request : Message
  pub first_read : reading first.row.step.datagram ≡ Ok request
  pub peer : first.row.step.peer ≡ s.peer
  pub mid : request.mid ≡ again.mid
  pub admitted : admits first.row.step.peer request.mid first.row ≡ true
  pub token : m.token ≡ request.token

-- A response that goes to the peer of the step, and has the token of its request, or of the write
-- that this duplicates.
pub record IsAnswer (here : Placed) (peer : Peer) (m : Message) : Type 0 where
  pub to : peer ≡ here.row.step.peer
  pub answers : AnswersRequest here.row.step m ⊎ AnswersRepeat here.before here.row.step m

-- A response that is a 2.05 to an observer, with its peer and its token.
pub record IsNotification (here : Placed) (peer : Peer) (m : Message) : Type 0 where
  pub content : is_content m ≡ true
  pub observer : Observer
  pub named : observer_named (peer, m.token) here.before ≡ Some observer

-- States that in a tick each response is a notification, that a beginning sends none, and that in
-- any other row it is an answer.
abbrev pub IsAddressed : StepKind → Placed → Peer → Message → Type 0
IsAddressed step.Admit here peer m = IsAnswer here peer m
IsAddressed step.Look here peer m = IsAnswer here peer m
IsAddressed (step.Commit place) here peer m = IsAnswer here peer m
IsAddressed (step.Keep body tag) here peer m = IsAnswer here peer m
IsAddressed step.Tick here peer m = IsNotification here peer m
IsAddressed (step.Begin first) here peer m = ⊥

-- A message that is a 2.05 and carries the first block of a body. This is the block that its own
-- Block2 names, or the whole body if it has none.
pub record CarriesFirst (m : Message) (body : List ℕ) : Type 0 where
  pub content : is_content m ≡ true
  pub number : number_of (asked_block m) ≡ 0
  pub block : IsBlockOf (asked_block m) body m.payload

-- A row that sends a peer a message with a token that carries the first block of a body.
pub record SendsFirst (r : Row) (peer : Peer) (token body : List ℕ) : Type 0 where
  pub octets : List ℕ
  pub among : IsAmong r.sent (peer, octets)
  pub message : Message
  pub read : reading octets ≡ Ok message
  pub token_is : message.token ≡ token
  pub carries : CarriesFirst message body

-- The sentence: what a row sends goes to its requester.
-- - `fitting`: each datagram that a row sends can be read, and has at most 1,280 octets.
-- - `addressed`: each response in it has the peer and the token of its request. In a tick it is a
--   2.05 with those of an observer.
-- - `formed`: a row that notes that it built a body for an observer sends that peer a message with
--   that token. The message carries the first block of that body.
pub record SendsToWhoAsked (rows : List Row) : Type 0 where
  pub fitting : (datagram : Datagram rows) → IsFitting datagram.octets
  pub addressed : (sent : Sent rows)
      → is_response sent.message ≡ true
      → IsAddressed sent.here.row.step.kind sent.here sent.peer sent.message
  pub formed : (before : List Row) (r : Row) (peer : Peer) (token body : List ℕ) (mid : Option ℕ)
      → Within rows before r
      → IsAmong r.notes (note.Formed peer token body mid) → SendsFirst r peer token body

-- States that a look, a commit or a keep is made for a request, the message in its datagram. A keep
-- has a tag of eight octets. Nothing is required of the other steps.
abbrev pub IsForRequest : StepKind → Message → Type 0
IsForRequest step.Admit m = Unit {0}
IsForRequest step.Look m = role_of m.kind m.code ≡ role.Request
IsForRequest (step.Commit place) m = role_of m.kind m.code ≡ role.Request
IsForRequest (step.Keep body tag) m = (role_of m.kind m.code ≡ role.Request) × (length tag ≡ 8)
IsForRequest step.Tick m = Unit {0}
IsForRequest (step.Begin first) m = Unit {0}

-- States that each look, commit and keep of a journal is made for a request, if its datagram can be
-- read. Each such keep has a tag of eight octets.
abbrev pub AreForRequests : List Row → Type 0
AreForRequests rows =
    (before : List Row) (r : Row) (m : Message) → Within rows before r
    → reading r.step.datagram ≡ Ok m → IsForRequest r.step.kind m
