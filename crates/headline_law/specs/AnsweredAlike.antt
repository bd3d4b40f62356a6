-- A sentence of the headline, about the answers to writes. Each write is answered once, as its
-- request wants it, and a duplicate is answered by the same octets.
use Rattle.std.specs.Prelude.{
  ◌≡◌,
  ◌⊎◌,
  ℕ,
  ◌≤◌,
  ◌==◌,
  ◌||◌,
  Bool,
  true,
  false,
  List,
  [],
  ◌∷◌,
  length,
  map,
  filter,
  filter_map,
  Option,
  Some,
  None,
  codes,
  decimal,
  Result,
  Ok,
  Err,
}
use Rattle.std.specs.List.{IsAmong}
use Rattle.rd_base.specs.declared.peers.Peer.{Peer}
use Rattle.rd_base.specs.declared.parameters.RegParams.{RegParams}
use Rattle.rd_base.specs.declared.submitted_links.SubmittedLink.{SubmittedLink}
use Rattle.message_model.specs.declared.messages.Kind4.{Kind4}
use Rattle.message_model.specs.declared.messages.Kind4.TheVariants.{Con, Non, Ack, Rst}
use Rattle.message_model.specs.declared.messages.Role.TheVariants as role
use Rattle.message_model.specs.declared.messages.Unread.{Unread}
use Rattle.message_model.specs.Codes as codes_of
use Rattle.message_model.specs.Message.{Message, Opt, role_of}
use Rattle.message_model.specs.OptionTable as table
use Rattle.message_model.specs.Reading.{reading}
use Rattle.message_model.specs.Request.{path_in}
use Rattle.history_model.specs.declared.entries.Change.TheVariants as change
use Rattle.history_model.specs.declared.entries.Entry.{Entry}
use Rattle.event_model.specs.declared.notes.Note.{Note}
use Rattle.event_model.specs.declared.notes.Note.TheVariants as note
use Rattle.event_model.specs.Events.{Event}
use Rattle.event_model.specs.Repeats.{repeated, settled}
use Rattle.journal_model.specs.declared.steps.StepKind.{StepKind}
use Rattle.journal_model.specs.declared.steps.StepKind.TheVariants as step
use Rattle.journal_model.specs.declared.rows.Row.{Row}
use Rattle.journal_model.specs.Journal.{events, entries, entries_of}
use Rattle.journal_model.specs.Requests.{is_write, method_of, refusal_of_request}
use Rattle.journal_model.specs.Changes.{number_after}
use Rattle.journal_model.specs.PlacedRows.{Within, Placed, Commits, code_sent}
use Rattle.journal_model.specs.CarriedBlocks.{Sent}
use Rattle.journal_model.specs.SentDatagrams.{is_response}

-- ---- one answer, as the request wants it

-- Returns the message that was read, if one was.
abbrev pub message_read : Result Message Unread → Option Message
message_read (Err fault) = None
message_read (Ok m) = Some m

-- Returns the responses among datagrams, in order.
abbrev pub responses_in : List (Peer × List ℕ) → List Message
responses_in sent = filter is_response (filter_map (λ d. message_read (reading d.1)) sent)

-- States that an answer has the type and the Message ID that its request wants. A confirmable
-- request is answered in the acknowledgement, which has its Message ID. Any other request is
-- answered in a non-confirmable message (RFC 7252 sections 5.2.1 and 5.2.3).
abbrev pub IsOfType : Kind4 → ℕ → Message → Type 0
IsOfType Con mid answer = (answer.kind ≡ Ack) × (answer.mid ≡ mid)
IsOfType Non mid answer = answer.kind ≡ Non
IsOfType Ack mid answer = answer.kind ≡ Non
IsOfType Rst mid answer = answer.kind ≡ Non

-- An answer that has the type and the Message ID that its request wants, and its token (RFC 7252
-- section 5.3.1).
pub record IsAnswerLike (request answer : Message) : Type 0 where
  pub type : IsOfType request.kind request.mid answer
  pub token : answer.token ≡ request.token

-- The row of a commit, which sends its peer one response: the answer to the request. Unless memory
-- ran out, the exchange stores its octets (RFC 7252 section 4.5).
pub record AnswersOnce (r : Row) (place : ℕ) (request : Message) : Type 0 where
  pub answer : Message
  pub one : responses_in r.sent ≡ answer ∷ []
  pub like : IsAnswerLike request answer
  pub octets : List ℕ
  pub read : reading octets ≡ Ok answer
  pub sent : IsAmong r.sent (r.step.peer, octets)
  pub keeps : r.starved ≡ false → IsAmong r.notes (note.Settled place octets)

-- ---- duplicate writes

-- A row that handles a duplicate write, and the octets with which the first admission of the write
-- was answered (RFC 7252 section 4.5).
pub record RepeatsReply (here : Placed) (peer : Peer) (octets : List ℕ) : Type 0 where
  pub heard : here.row.step.kind ≡ step.Admit
  pub to : peer ≡ here.row.step.peer
  pub request : Message
  pub read : reading here.row.step.datagram ≡ Ok request
  pub first : Event
  pub repeats :
      repeated here.row.moment.0 here.row.step.peer request.mid (events here.before) ≡ Some first
  pub reply : settled first.place (events here.before) ≡ Some octets

-- Returns these octets to a peer, or nothing if there are none.
abbrev pub sent_to : Peer → Option (List ℕ) → List (Peer × List ℕ)
sent_to peer None = []
sent_to peer (Some octets) = (peer, octets) ∷ []

-- A row that handles a write that meets no refusal, and in which memory did not run out.
pub record HearsWrite (r : Row) (m : Message) : Type 0 where
  pub heard : r.step.kind ≡ step.Admit
  pub read : reading r.step.datagram ≡ Ok m
  pub asks : role_of m.kind m.code ≡ role.Request
  pub unrefused : refusal_of_request m ≡ None
  pub writes : is_write (path_in m) (method_of m.code) ≡ true
  pub ample : r.starved ≡ false

-- ---- how an exchange begins and ends

-- A row that admits a write. It handles the write, which meets no refusal, and memory suffices. It
-- sends nothing and notes nothing else, since the commit is to answer (RFC 7252 section 4.5).
pub record AdmitsWrite (r : Row) (peer : Peer) (mid : ℕ) : Type 0 where
  pub request : Message
  pub hears : HearsWrite r request
  pub from : peer ≡ r.step.peer
  pub mid_is : mid ≡ request.mid
  pub silent : r.sent ≡ []
  pub alone : r.notes ≡ note.Admitted peer mid ∷ []

-- A row that ends an exchange without an answer that is stored. It commits the write of the
-- exchange, memory ran out in it, and it sends 5.00. It notes nothing else (RFC 7252 section 4.5).
pub record FailsWrite (r : Row) (place : ℕ) : Type 0 where
  pub commits : Commits r place
  pub starved : r.starved ≡ true
  pub sent : code_sent r.sent ≡ codes_of.internal_server_error
  pub alone : r.notes ≡ note.Failed place ∷ []

-- ---- if memory runs out

-- States that the step is made for the request in its datagram.
abbrev pub IsForDatagram : StepKind → Type 0
IsForDatagram step.Tick = ⊥
IsForDatagram (step.Begin first) = ⊥
IsForDatagram _ = Unit {0}

-- States what a step notes if memory ran out. A commit notes that its write failed. Any other step
-- notes nothing.
abbrev pub NotesOutOfMemory : StepKind → List Note → Type 0
NotesOutOfMemory (step.Commit place) notes = notes ≡ note.Failed place ∷ []
NotesOutOfMemory _ notes = notes ≡ []

-- A row that answers 5.00, and changes nothing.
pub record RunsOut (r : Row) : Type 0 where
  pub sent : code_sent r.sent ≡ codes_of.internal_server_error
  pub notes : NotesOutOfMemory r.step.kind r.notes

-- ---- answers that say what was done

-- Returns whether the code says that a write was done, or that a block of it was accepted: 2.01,
-- 2.02, 2.04 or 2.31.
abbrev pub is_code_of_write : ℕ → Bool
is_code_of_write code =
    code == codes_of.created || code == codes_of.deleted || code == codes_of.changed
    || code == codes_of.continue

-- ---- locations

-- Returns the values of the Location-Path options, in order (RFC 7252 section 5.10.7).
abbrev pub location_named : List Opt → List (List ℕ)
location_named options = map (λ o. o.1) (filter (λ o. o.0 == table.location_path) options)

-- A row that enters one registration, and an answer that names its location. The location is `rd`,
-- followed by the number that the history with this entry gives it (RFC 9176 section 5).
pub record NamesEntry (here : Placed) (answer : Message) : Type 0 where
  pub entry : Entry
  pub params : RegParams
  pub links : List SubmittedLink
  pub entered : entries_of here.row ≡ entry ∷ []
  pub registers : entry.change ≡ change.Register params links
  pub located : location_named answer.options
      ≡ codes "rd"
      ∷ decimal (number_after params.name here.row.moment.0 (entries (here.row ∷ here.before)))
      ∷ []

-- ---- the sentence

-- States that the step is no tick. In a tick each response is a notification.
abbrev pub IsNotOfTick : StepKind → Type 0
IsNotOfTick step.Tick = ⊥
IsNotOfTick _ = Unit {0}

-- The sentence about the answers to writes. In a tick each response is a 2.05, as SendsToWhoAsked
-- says.
-- - `once`: a commit sends exactly one response, of the type and with the Message ID and the token
--   that its request wants. Its exchange stores that response.
-- - `single`, `alike`: each other row that is made for a request sends at most one response, and of
--   that type, unless the request is a duplicate write.
-- - `again`: a duplicate write is answered by the octets that its exchange stores, or by nothing,
--   and nothing is noted of it.
-- - `kept`: what an exchange stores was noted by its own commit, which sent it.
-- - `admitted`: a row that admits handles a write, and sends nothing.
-- - `failed`: a write fails only in its own commit, if memory ran out, and with 5.00.
-- - `starved`: if memory ran out, a row that is made for a request answers 5.00 and changes
--   nothing.
-- - `commits`: a response that says that a write was done is in a commit, unless it is such a
--   stored answer.
-- - `located`: a 2.01 names the location of the registration that its row entered, unless it is
--   such a stored answer.
pub record AnsweredAlike (rows : List Row) : Type 0 where
  pub once : (before : List Row) (r : Row) (place : ℕ) (m : Message)
      → Within rows before r
      → Commits r place
      → reading r.step.datagram ≡ Ok m
      → AnswersOnce r place m
  pub single : (before : List Row) (r : Row) (m : Message)
      → Within rows before r
      → IsNotOfTick r.step.kind
      → reading r.step.datagram ≡ Ok m
      → role_of m.kind m.code ≡ role.Request
      → length (responses_in r.sent) ≤ 1
  pub alike : (sent : Sent rows) (request : Message)
      → is_response sent.message ≡ true
      → IsNotOfTick sent.here.row.step.kind
      → reading sent.here.row.step.datagram ≡ Ok request
      → IsAnswerLike request sent.message ⊎ RepeatsReply sent.here sent.peer sent.octets
  pub again : (before : List Row) (r : Row) (m : Message) (first : Event)
      → Within rows before r
      → HearsWrite r m
      → repeated r.moment.0 r.step.peer m.mid (events before) ≡ Some first
      → (r.sent ≡ sent_to r.step.peer (settled first.place (events before))) × (r.notes ≡ [])
  pub kept : (before : List Row) (r : Row) (place : ℕ) (octets : List ℕ)
      → Within rows before r
      → IsAmong r.notes (note.Settled place octets)
      → Commits r place × IsAmong r.sent (r.step.peer, octets)
  pub admitted : (before : List Row) (r : Row) (peer : Peer) (mid : ℕ)
      → Within rows before r
      → IsAmong r.notes (note.Admitted peer mid)
      → AdmitsWrite r peer mid
  pub failed : (before : List Row) (r : Row) (place : ℕ)
      → Within rows before r
      → IsAmong r.notes (note.Failed place)
      → FailsWrite r place
  pub starved : (before : List Row) (r : Row) (m : Message)
      → Within rows before r
      → IsForDatagram r.step.kind
      → reading r.step.datagram ≡ Ok m
      → role_of m.kind m.code ≡ role.Request
      → r.starved ≡ true
      → RunsOut r
  pub commits : (sent : Sent rows)
      → IsNotOfTick sent.here.row.step.kind
      → is_code_of_write sent.message.code ≡ true
      → ((place : ℕ) × Commits sent.here.row place)
      ⊎ RepeatsReply sent.here sent.peer sent.octets
  pub located : (sent : Sent rows)
      → IsNotOfTick sent.here.row.step.kind
      → sent.message.code ≡ codes_of.created
      → NamesEntry sent.here sent.message ⊎ RepeatsReply sent.here sent.peer sent.octets
