-- What a step does, and what it sends: responses, Resets and acknowledgements, and which Message
-- IDs they have (RFC 7252 sections 4.2, 4.3, 4.4 and 5.2).
use Rattle.std.specs.Prelude.{ℕ, ◌+◌, ◌*◌, ◌%◌, List, [], ◌∷◌, ◌++◌}
use Rattle.rd_base.specs.declared.peers.Peer.{Peer}
use Rattle.message_model.specs.declared.messages.Kind4.{Kind4}
use Rattle.message_model.specs.declared.messages.Kind4.TheVariants.{Con, Non, Ack, Rst}
use Rattle.message_model.specs.Message.{Message, Opt}
use Rattle.message_model.specs.Codes as codes_of
use Rattle.message_model.specs.Spelling.{spelling}
use Rattle.event_model.specs.declared.notes.Note.{Note}
use Rattle.journal_model.specs.declared.limits.TheConstants.{WORKER_MIDS}
use Rattle.journal_model.specs.declared.steps.Step.{Step}

-- The effects of a step: the datagrams that it sends, what it notes, and how many Message IDs it
-- draws.
pub record Effects : Type 0 where
  pub sent : List (Peer × List ℕ)
  pub notes : List Note
  pub drew : ℕ

-- The effects of a step that does nothing.
abbrev pub nothing : Effects
nothing = record { sent = []; notes = []; drew = 0 }

-- Does one thing, and then another.
abbrev pub joined : Effects → Effects → Effects
joined first second = record {
  sent = first.sent ++ second.sent;
  notes = first.notes ++ second.notes;
  drew = first.drew + second.drew;
}

-- Sends nothing, and notes this.
abbrev pub noting : List Note → Effects
noting notes = record { sent = []; notes = notes; drew = 0 }

-- Sends these octets to a peer.
abbrev pub sending : Peer → List ℕ → Effects
sending peer octets = record { sent = (peer, octets) ∷ []; notes = []; drew = 0 }

-- The number of Message IDs that each worker has.
abbrev pub worker_mids : ℕ
worker_mids = WORKER_MIDS

-- Returns the Message ID that a worker draws after `drawn` others.
abbrev pub mid_of : ℕ → ℕ → ℕ
mid_of worker drawn = worker_mids * worker + drawn % worker_mids

-- The contents of a response: its code, its options in order, and its payload.
pub record Reply : Type 0 where
  pub code : ℕ
  pub options : List Opt
  pub payload : List ℕ

-- Returns a response with a code alone.
abbrev pub bare : ℕ → Reply
bare code = record { code = code; options = []; payload = [] }

-- Returns a response with a diagnostic payload (RFC 7252 section 5.5.2).
abbrev pub diagnostic : ℕ → List ℕ → Reply
diagnostic code word = record { code = code; options = []; payload = word }

-- Returns the type of the response to a request. A confirmable request is answered in the
-- acknowledgement, and any other in a non-confirmable message (RFC 7252 section 5.2).
abbrev pub answer_kind : Kind4 → Kind4
answer_kind Con = Ack
answer_kind _ = Non

-- Returns the Message ID of a response. The acknowledgement has that of the request, and any other
-- response draws one.
abbrev pub answer_mid : Step → Message → Kind4 → ℕ
answer_mid s m Con = m.mid
answer_mid s m _ = mid_of s.worker s.drawn

-- Returns how many Message IDs the response to a request draws.
abbrev pub drawn_for : Kind4 → ℕ
drawn_for Con = 0
drawn_for _ = 1

-- Returns the response to a request, with its token (RFC 7252 section 5.3.1).
abbrev pub answer : Step → Message → Reply → Message
answer s m reply = record {
  kind = answer_kind m.kind;
  code = reply.code;
  mid = answer_mid s m m.kind;
  token = m.token;
  options = reply.options;
  payload = reply.payload;
}

-- Answers a request, and notes this.
unfoldable pub answering : Step → Message → Reply → List Note → Effects
answering s m reply notes = record {
  sent = (s.peer, spelling (answer s m reply)) ∷ [];
  notes = notes;
  drew = drawn_for m.kind;
}

-- Answers a request 5.00 because memory ran out (RFC 7252 section 5.9.3.1).
abbrev pub without_memory : Step → Message → Effects
without_memory s m = answering s m (bare codes_of.internal_server_error) []

-- Returns a message without code, token, options and payload (RFC 7252 section 4.1).
abbrev pub empty_message : Kind4 → ℕ → Message
empty_message kind mid = record {
  kind = kind;
  code = codes_of.empty;
  mid = mid;
  token = [];
  options = [];
  payload = [];
}

-- Sends a Reset of a message (RFC 7252 section 4.2).
abbrev pub resetting : Step → ℕ → Effects
resetting s mid = sending s.peer (spelling (empty_message Rst mid))

-- Sends an empty acknowledgement of a message (RFC 7252 section 4.2).
abbrev pub acknowledging : Step → ℕ → Effects
acknowledging s mid = sending s.peer (spelling (empty_message Ack mid))
