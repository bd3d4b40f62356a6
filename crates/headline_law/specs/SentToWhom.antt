-- A sentence of the headline, about the recipients of what the directory sends except responses. A
-- request goes only to the peer of a fetch that runs. A Reset or an empty acknowledgement goes only
-- to the sender of the message that it answers.
use Rattle.std.specs.Prelude.{
  ◌≡◌,
  ◌⊎◌,
  ℕ,
  Bool,
  true,
  false,
  ◌&&◌,
  ◌==◌,
  List,
  ◌∷◌,
  Option,
  Some,
  is_some,
  is_none,
  bytes_eq,
  Result,
  Ok,
  Err,
}
use Rattle.std.specs.List.{list_any, IsAmong}
use Rattle.rd_base.specs.declared.peers.Peer.{Peer}
use Rattle.message_model.specs.declared.blocks.Block.{Block}
use Rattle.message_model.specs.declared.messages.Kind4.{Kind4}
use Rattle.message_model.specs.declared.messages.Kind4.TheVariants.{Con}
use Rattle.message_model.specs.declared.messages.Role.{Role}
use Rattle.message_model.specs.declared.messages.Role.TheVariants as role
use Rattle.message_model.specs.declared.messages.Unread.{Unread}
use Rattle.message_model.specs.declared.messages.Unread.TheVariants as unread
use Rattle.message_model.specs.Message.{Message, role_of}
use Rattle.message_model.specs.Reading.{reading}
use Rattle.message_model.specs.FetchRequests.{fetch_request}
use Rattle.event_model.specs.declared.notes.Note.{Note}
use Rattle.event_model.specs.declared.notes.Note.TheVariants as note
use Rattle.event_model.specs.Same.{is_same_peer}
use Rattle.event_model.specs.Fetches.{is_fetching, is_request_to}
use Rattle.journal_model.specs.declared.steps.Step.{Step}
use Rattle.journal_model.specs.declared.steps.StepKind.TheVariants as step
use Rattle.journal_model.specs.declared.rows.Row.{Row}
use Rattle.journal_model.specs.Journal.{events}
use Rattle.journal_model.specs.Requests.{number_of}
use Rattle.journal_model.specs.PlacedRows.{Placed, last_row}
use Rattle.journal_model.specs.CarriedBlocks.{Sent}
use Rattle.journal_model.specs.Responses.{fetch_of}

-- ---- requests

-- Returns whether a note says that the fetch of a peer requests the block with a number. The
-- request has the token and the Message ID of a message.
abbrev pub is_asking : Peer → Message → ℕ → Note → Bool
is_asking peer m number (note.Asked p token mid params n) =
    is_same_peer p peer && bytes_eq token m.token && mid == m.mid && n == number
is_asking peer m number _ = false

-- A row that requests the device's own links, while its fetch of that peer runs. The request is a
-- GET of `/.well-known/core`. Its block, its token and its Message ID are those that the row notes
-- (RFC 9176 section 5.1, RFC 7959 section 2.4).
pub record AsksOfFetch (here : Placed) (peer : Peer) (m : Message) : Type 0 where
  pub block : Option Block
  pub request : m ≡ fetch_request m.mid m.token block
  pub noted : list_any (is_asking peer m (number_of block)) here.row.notes ≡ true
  pub runs : is_fetching peer (events (here.row ∷ here.before)) ≡ true

-- A tick that retransmits octets to a peer while its fetch runs. The row that made the last request
-- to that peer sent it the same octets (RFC 7252 section 4.2).
pub record AsksAgain (here : Placed) (peer : Peer) (octets : List ℕ) : Type 0 where
  pub ticks : here.row.step.kind ≡ step.Tick
  pub runs : is_fetching peer (events here.before) ≡ true
  pub first : Placed
  pub last : last_row (λ r. list_any (is_request_to peer) r.notes) here.before ≡ Some first
  pub same : IsAmong first.row.sent (peer, octets)

-- ---- Resets and acknowledgements

-- Returns whether the message is confirmable.
abbrev pub is_con : Kind4 → Bool
is_con Con = true
is_con _ = false

-- Returns whether a message wants an acknowledgement and nothing else. Such a message is a response
-- to the last request of the running fetch with its sender (RFC 7252 section 5.2.2).
abbrev pub is_response_for : List Row → Step → Message → Role → Bool
is_response_for before s m role.Response = is_some (fetch_of s m (events before))
is_response_for before s m _ = false

-- Returns whether a message is rejected: it is a ping, or a response that belongs to no such
-- request (RFC 7252 sections 4.2 and 4.3).
abbrev pub is_out_of_place : List Row → Step → Message → Role → Bool
is_out_of_place before s m role.Ping = true
is_out_of_place before s m role.Response = is_none (fetch_of s m (events before))
is_out_of_place before s m _ = false

-- Returns whether the message in a datagram is confirmable, and is acknowledged with a Message ID.
abbrev pub is_acknowledged : List Row → Step → ℕ → Result Message Unread → Bool
is_acknowledged before s mid (Err fault) = false
is_acknowledged before s mid (Ok m) =
    is_con m.kind && m.mid == mid && is_response_for before s m (role_of m.kind m.code)

-- Returns whether the message in a datagram is confirmable, and is rejected with a Message ID. A
-- confirmable message with a format error is rejected too (RFC 7252 section 4.2).
abbrev pub is_rejected : List Row → Step → ℕ → Result Message Unread → Bool
is_rejected before s mid (Err (unread.Format Con m)) = m == mid
is_rejected before s mid (Err _) = false
is_rejected before s mid (Ok m) =
    is_con m.kind && m.mid == mid && is_out_of_place before s m (role_of m.kind m.code)

-- A Reset that goes to the sender of the datagram that its row handled, and has the Message ID of
-- that message. That message is rejected.
pub record Rejects (here : Placed) (peer : Peer) (m : Message) : Type 0 where
  pub heard : here.row.step.kind ≡ step.Admit
  pub to : peer ≡ here.row.step.peer
  pub rejected :
      is_rejected here.before here.row.step m.mid (reading here.row.step.datagram) ≡ true

-- An empty acknowledgement that goes to the sender of the datagram that its row handled, and has
-- the Message ID of that message. That message is acknowledged.
pub record Acknowledges (here : Placed) (peer : Peer) (m : Message) : Type 0 where
  pub heard : here.row.step.kind ≡ step.Admit
  pub to : peer ≡ here.row.step.peer
  pub acknowledged :
      is_acknowledged here.before here.row.step m.mid (reading here.row.step.datagram) ≡ true

-- ---- the sentence

-- States that a message with this role goes only where it may. The directory sends no ping, and no
-- message that receivers ignore. SendsToWhoAsked is about responses.
abbrev pub GoesToWhom : Role → Placed → Peer → List ℕ → Message → Type 0
GoesToWhom role.Ping here peer octets m = ⊥
GoesToWhom role.Acknowledgement here peer octets m = Acknowledges here peer m
GoesToWhom role.Reset here peer octets m = Rejects here peer m
GoesToWhom role.Request here peer octets m = AsksOfFetch here peer m ⊎ AsksAgain here peer octets
GoesToWhom role.Response here peer octets m = Unit {0}
GoesToWhom role.Ignored here peer octets m = ⊥

-- The sentence about what the directory sends except responses. A request is a GET for the fetch of
-- its peer, which runs, or is retransmitted while it runs. A Reset or an empty acknowledgement goes
-- to the sender of the confirmable message that its row handled, with its Message ID. Nothing else
-- is sent.
pub record SentToWhom (rows : List Row) : Type 0 where
  pub goes : (sent : Sent rows)
      → GoesToWhom (role_of sent.message.kind sent.message.code) sent.here sent.peer sent.octets
      sent.message
