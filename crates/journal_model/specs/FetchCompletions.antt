-- Responses that complete a fetch: they bring the end of a whole body (RFC 9176 section 5.1).
use Rattle.std.specs.Prelude.{◌≡◌, Bool, true, false, List, length, Some, Ok}
use Rattle.std.specs.List.{list_any}
use Rattle.rd_base.specs.declared.peers.Peer.{Peer}
use Rattle.message_model.specs.declared.messages.Role.TheVariants as role
use Rattle.message_model.specs.Message.{Message, role_of}
use Rattle.message_model.specs.Codes as codes_of
use Rattle.message_model.specs.Reading.{reading}
use Rattle.message_model.specs.Responses.{block_in, is_elsewhere}
use Rattle.event_model.specs.declared.notes.Note.{Note}
use Rattle.event_model.specs.declared.notes.Note.TheVariants as note
use Rattle.event_model.specs.Same.{is_same_peer}
use Rattle.event_model.specs.Fetches.{Request, gathered, collected}
use Rattle.journal_model.specs.declared.steps.Step.{Step}
use Rattle.journal_model.specs.declared.steps.StepKind.TheVariants as step
use Rattle.journal_model.specs.declared.rows.Row.{Row}
use Rattle.journal_model.specs.Journal.{events}
use Rattle.journal_model.specs.Responses.{fetch_of, more_follow, ends_fetch}

-- Returns whether a note ends the fetch of a peer.
abbrev pub is_end_of_fetch : Peer → Note → Bool
is_end_of_fetch peer (note.Ceased p) = is_same_peer p peer
is_end_of_fetch peer _ = false

-- A datagram that is handled after rows and is a response to the last request of the running fetch
-- with its peer.
pub record AnswersFetch (before : List Row) (s : Step) : Type 0 where
  pub kind : s.kind ≡ step.Admit
  pub message : Message
  pub read : reading s.datagram ≡ Ok message
  pub response : role_of message.kind message.code ≡ role.Response
  pub request : Request
  pub fetch : fetch_of s message (events before) ≡ Some request

-- A response that brings the end of a whole body. It is a 2.05 and begins where what was collected
-- ends. No more follows, and nothing in it ends the fetch without a registration.
pub record EndsBody (before : List Row) (s : Step) (m : Message) : Type 0 where
  pub content : m.code ≡ codes_of.content
  pub joins : is_elsewhere (block_in m) (length (collected s.peer (events before))) ≡ false
  pub last : more_follow (block_in m) ≡ false
  pub whole : ends_fetch m (gathered s.peer (events before))
      (length (collected s.peer (events before))) ≡ false

-- A row whose response completed the fetch: it brought the end of a whole body, and the row ends
-- the fetch.
pub record IsCompletion (before : List Row) (r : Row) : Type 0 where
  pub answers : AnswersFetch before r.step
  pub body : EndsBody before r.step answers.message
  pub ended : list_any (is_end_of_fetch r.step.peer) r.notes ≡ true
