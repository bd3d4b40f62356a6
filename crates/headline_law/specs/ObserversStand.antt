-- A sentence of the headline, about observers. A response that carries Observe makes its peer an
-- observer of what it requested, and an observer ends only for a reason.
use Rattle.std.specs.Prelude.{
  ◌≡◌,
  ◌⊎◌,
  ℕ,
  ◌<◌,
  ◌≤◌,
  Bool,
  true,
  false,
  List,
  ◌∷◌,
  length,
  Some,
  None,
  Ok,
}
use Rattle.std.specs.List.{IsAmong}
use Rattle.rd_base.specs.declared.peers.Peer.{Peer}
use Rattle.message_model.specs.declared.messages.Role.TheVariants as role
use Rattle.message_model.specs.Message.{Message, role_of}
use Rattle.message_model.specs.OptionTable as table
use Rattle.message_model.specs.OptionTable.{stands_in}
use Rattle.message_model.specs.Reading.{reading}
use Rattle.message_model.specs.Request.{path_in, observe_in}
use Rattle.event_model.specs.declared.notes.Note.TheVariants as note
use Rattle.event_model.specs.declared.notes.Observer.{Observer}
use Rattle.event_model.specs.Observers.{observers}
use Rattle.event_model.specs.Flights.{Flight, max_again, deadline, flight}
use Rattle.journal_model.specs.declared.steps.Step.{Step}
use Rattle.journal_model.specs.declared.steps.StepKind.{StepKind}
use Rattle.journal_model.specs.declared.steps.StepKind.TheVariants as step
use Rattle.journal_model.specs.declared.rows.Row.{Row}
use Rattle.journal_model.specs.Journal.{events}
use Rattle.journal_model.specs.Requests.{
  register,
  deregister,
  is_heeded,
  is_later_block,
  is_lookup,
  refusal_of_request,
}
use Rattle.journal_model.specs.Lookups.{observer_of}
use Rattle.journal_model.specs.PlacedRows.{Within, Placed}
use Rattle.journal_model.specs.AskedListings.{observer_named}
use Rattle.journal_model.specs.CarriedBlocks.{Sent}
use Rattle.journal_model.specs.SentDatagrams.{is_response}

-- ---- requests

-- A step that handles a lookup of a first block that meets no refusal. The Observe value of the
-- lookup begins or ends an observation (RFC 7641 sections 2 and 4.1).
pub record AsksOfObservation (s : Step) (request : Message) : Type 0 where
  pub heard : s.kind ≡ step.Admit
  pub read : reading s.datagram ≡ Ok request
  pub asks : role_of request.kind request.code ≡ role.Request
  pub lookup : is_lookup (path_in request) ≡ true
  pub first : is_later_block request ≡ false
  pub heeded : is_heeded (observe_in request) ≡ true
  pub unrefused : refusal_of_request request ≡ None

-- ---- answers that carry Observe

-- Returns whether the message carries an Observe option.
abbrev pub carries_observe : Message → Bool
carries_observe m = stands_in table.observe m.options

-- A response whose row handles a lookup with Observe 0. After that row there is an observer with
-- the peer and the token of the response. Its query and its block size are those of the request
-- (RFC 7641 sections 3.1 and 4.1).
pub record MakesObserver (here : Placed) (peer : Peer) (answer : Message) : Type 0 where
  pub request : Message
  pub asks : AsksOfObservation here.row.step request
  pub registers : observe_in request ≡ Some register
  pub stands : observer_named (peer, answer.token) (here.row ∷ here.before)
      ≡ Some (observer_of here.row.step request)

-- States that a response that carries Observe makes an observer. It says nothing of ticks, whose
-- responses are notifications. SendsToWhoAsked says that these go to observers.
abbrev pub ObservesSo : StepKind → Placed → Peer → Message → Type 0
ObservesSo step.Tick here peer answer = Unit {0}
ObservesSo _ here peer answer = MakesObserver here peer answer

-- ---- how an observer ends

-- An observer whose peer sends another request with its token, to observe anew or to stop. Memory
-- did not run out in the row of that request (RFC 7641 sections 3.6 and 4.1).
pub record AsksAnew (r : Row) (o : Observer) : Type 0 where
  pub request : Message
  pub asks : AsksOfObservation r.step request
  pub ample : r.starved ≡ false
  pub peer : o.peer ≡ r.step.peer
  pub token : o.token ≡ request.token

-- An observer whose peer rejects the notification that is in flight to it (RFC 7641 section 3.6).
pub record RejectsNotification (before : List Row) (r : Row) (o : Observer) : Type 0 where
  pub heard : r.step.kind ≡ step.Admit
  pub message : Message
  pub read : reading r.step.datagram ≡ Ok message
  pub resets : role_of message.kind message.code ≡ role.Reset
  pub peer : o.peer ≡ r.step.peer
  pub notification : Flight
  pub flies : flight o (events before) ≡ Some notification
  pub mid : message.mid ≡ notification.mid

-- An observer whose notification in flight was retransmitted as often as allowed, and whose last
-- timeout has ended (RFC 7252 section 4.2, RFC 7641 section 4.5).
pub record NeverAcknowledges (before : List Row) (r : Row) (o : Observer) : Type 0 where
  pub ticks : r.step.kind ≡ step.Tick
  pub notification : Flight
  pub flies : flight o (events before) ≡ Some notification
  pub sent : max_again ≤ length notification.again
  pub waited : deadline notification.formed notification.again ≤ r.moment.0

-- The three reasons for which an observer ends.
pub data EndsObserving (before : List Row) (r : Row) (o : Observer) : Type 0 where
  asks_anew : AsksAnew r o → EndsObserving before r o
  rejects_notification : RejectsNotification before r o → EndsObserving before r o
  never_acknowledges : NeverAcknowledges before r o → EndsObserving before r o

-- ---- notifications in flight

-- A row that handles an acknowledgement of this peer, with this Message ID (RFC 7252 section 4.2).
pub record HearsAcknowledgement (r : Row) (peer : Peer) (mid : ℕ) : Type 0 where
  pub heard : r.step.kind ≡ step.Admit
  pub message : Message
  pub read : reading r.step.datagram ≡ Ok message
  pub acknowledges : role_of message.kind message.code ≡ role.Acknowledgement
  pub from : peer ≡ r.step.peer
  pub mid_is : mid ≡ message.mid

-- A tick that finds that the timeout of a notification has ended. The notification is in flight to
-- an observer, and was retransmitted fewer than four times (RFC 7252 section 4.2).
pub record WaitedOnce (before : List Row) (r : Row) (peer : Peer) (mid : ℕ) : Type 0 where
  pub ticks : r.step.kind ≡ step.Tick
  pub observer : Observer
  pub stands : IsAmong (observers (events before)) observer
  pub peer_is : peer ≡ observer.peer
  pub notification : Flight
  pub flies : flight observer (events before) ≡ Some notification
  pub mid_is : mid ≡ notification.mid
  pub sent : length notification.again < max_again
  pub waited : deadline notification.formed notification.again ≤ r.moment.0

-- ---- the sentence

-- A row that handles a lookup with Observe 0 that asks to be this observer. The row confirms it by
-- a response with its token that carries Observe (RFC 7641 section 4.1).
pub record AsksToBe (r : Row) (o : Observer) : Type 0 where
  pub request : Message
  pub asks : AsksOfObservation r.step request
  pub registers : observe_in request ≡ Some register
  pub is : o ≡ observer_of r.step request
  pub octets : List ℕ
  pub told : IsAmong r.sent (o.peer, octets)
  pub answer : Message
  pub answer_read : reading octets ≡ Ok answer
  pub token : answer.token ≡ o.token
  pub carries : carries_observe answer ≡ true

-- A row that handles a lookup with Observe 1, and in which memory did not run out (RFC 7641 section
-- 3.6).
pub record Cancels (r : Row) (request : Message) : Type 0 where
  pub asks : AsksOfObservation r.step request
  pub deregisters : observe_in request ≡ Some deregister
  pub ample : r.starved ≡ false

-- The sentence about who observes.
-- - `observed`: take a response that carries Observe. After its row its peer observes, under its
--   token, exactly what it requested.
-- - `begins`: an observer asked to observe, and got a response that says so.
-- - `ends`: an observer ends only if its peer asks anew under its token, rejects the notification
--   in flight, or never acknowledges it.
-- - `leaves`: it does end if its notification is rejected or never acknowledged.
-- - `cancels`: after a cancellation nobody observes under its token.
-- - `landed`, `again`: a notification is noted as acknowledged only if its peer acknowledges it,
--   and as retransmitted only if its timeout has ended.
pub record ObserversStand (rows : List Row) : Type 0 where
  pub observed : (sent : Sent rows)
      → is_response sent.message ≡ true
      → carries_observe sent.message ≡ true
      → ObservesSo sent.here.row.step.kind sent.here sent.peer sent.message
  pub begins : (before : List Row) (r : Row) (o : Observer)
      → Within rows before r
      → IsAmong (observers (events (r ∷ before))) o
      → IsAmong (observers (events before)) o ⊎ AsksToBe r o
  pub ends : (before : List Row) (r : Row) (o : Observer)
      → Within rows before r
      → IsAmong (observers (events before)) o
      → IsAmong (observers (events (r ∷ before))) o ⊎ EndsObserving before r o
  pub leaves : (before : List Row) (r : Row) (o : Observer)
      → Within rows before r
      → RejectsNotification before r o ⊎ NeverAcknowledges before r o
      → IsAmong (observers (events before)) o
      → IsAmong (observers (events (r ∷ before))) o
      → ⊥
  pub cancels : (before : List Row) (r : Row) (request : Message)
      → Within rows before r
      → Cancels r request
      → observer_named (r.step.peer, request.token) (r ∷ before) ≡ None
  pub landed : (before : List Row) (r : Row) (peer : Peer) (mid : ℕ)
      → Within rows before r
      → IsAmong r.notes (note.Landed peer mid)
      → HearsAcknowledgement r peer mid
  pub again : (before : List Row) (r : Row) (peer : Peer) (mid : ℕ)
      → Within rows before r
      → IsAmong r.notes (note.Again peer mid)
      → WaitedOnce before r peer mid
