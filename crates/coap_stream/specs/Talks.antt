-- The responses of a conversation: each message of a connection with the calls that it led to and
-- the octets that were written for it (RFC 8323 sections 3.3, 3.4 and 5).
use Rattle.std.specs.Prelude.{◌≡◌, ℕ, ◌+◌, ◌==◌, Bool, true, false, List, [], ◌∷◌, ◌++◌}
use Rattle.std.specs.Prelude.{length, Option, Some, None, Result, Ok, Err, nat_lt}
use Rattle.std.specs.Prelude.{if◌then◌else◌, ⊤}
use Rattle.udp_link.specs.Links.{Datagram}
use Rattle.message_model.specs.Spelling.{spelling, payload_spelling, options_spelling}
use Rattle.message_model.specs.Reading.{reading}
use Rattle.message_model.specs.Message.{Message}
use Rattle.message_model.specs.declared.messages.Unread.{Unread}
use Rattle.coap_message.specs.PartialMessages.{longest_datagram}
use Rattle.event_model.specs.Same.{is_same_peer}
use Rattle.stream_model.specs.declared.signals.TheConstants as signals
use Rattle.stream_model.specs.Messages.{stream_spelling}
use Rattle.stream_reader.specs.Shown.{Shown}
use Rattle.rd_seat.specs.Callers.{Hears, TicksWhere}
use Rattle.coap_stream.specs.declared.lines.Line.{Line}
use Rattle.coap_stream.specs.declared.lines.Manner.{Manner}
use Rattle.coap_stream.specs.declared.lines.Manner.TheVariants as manner
use Rattle.coap_stream.specs.declared.purposes.Meant.{Meant}
use Rattle.coap_stream.specs.declared.purposes.Meant.TheVariants as meant
use Rattle.coap_stream.specs.declared.refusing.Unasked.{Unasked}
use Rattle.coap_stream.specs.declared.talked.TalkEnd.{TalkEnd}
use Rattle.coap_stream.specs.declared.talked.TalkEnd.TheVariants as end_as
use Rattle.coap_stream.specs.Requests.{
  meant_by,
  heard_as,
  number_asked,
  unasked_of,
  unasked_code,
  unasked_diagnostic,
}
use Rattle.coap_stream.specs.Calls.{Call, calls_sent}
use Rattle.coap_stream.specs.Manners.{
  saying,
  opening_by,
  pong_by,
  abort_by,
  is_due,
  usual_size,
  size_after,
  sized_by,
  too_long_in,
}

-- ---- what is written

-- Returns the octets of the CSM that begins a connection (RFC 8323 section 5.3).
abbrev pub opening : Line → List ℕ
opening line = opening_by line.manner

-- Returns what is written last. An Abort follows a bad message (RFC 8323 section 5.6), whose cause
-- may be this option. A Release follows the last possible request (RFC 8323 section 5.5). Otherwise
-- nothing more is written.
abbrev pub farewell : Line → TalkEnd → Option ℕ → List ℕ
farewell line (end_as.Refused why) bad = abort_by line.manner bad
farewell line end_as.Spent bad = saying signals.RELEASE [] []
farewell line _ bad = []

-- Returns the octets of the message in a datagram, without its type and Message ID (RFC 8323
-- section 3.2).
abbrev pub carried : Message → List ℕ
carried m = stream_spelling (record {
  code = m.code;
  token = m.token;
  tail = options_spelling 0 m.options ++ payload_spelling m.payload;
})

abbrev pub carried_in : Result Message Unread → List ℕ
carried_in (Ok m) = carried m
carried_in (Err why) = []

-- Returns these octets of a datagram, or none if it is longer than a datagram may be.
abbrev pub carried_of : List ℕ → List ℕ
carried_of datagram =
    if nat_lt longest_datagram (length datagram) then [] else carried_in (reading datagram)

-- Returns how many octets a message to the peer may have, if the manner keeps to what it accepts.
abbrev pub most_by : Manner → ℕ → Option ℕ
most_by manner.Plain most = None
most_by manner.Full most = Some most

-- Returns whether so many octets are more than these.
abbrev pub is_beyond : Option ℕ → ℕ → Bool
is_beyond None size = false
is_beyond (Some most) size = nat_lt most size

-- Returns the octets of a datagram if they are not too many, and otherwise those of a 5.00.
abbrev pub carried_within : Option ℕ → List ℕ → List ℕ
carried_within most datagram =
    if is_beyond most (length (carried_of datagram)) then too_long_in (reading datagram)
    else carried_of datagram

-- Returns what is written of a datagram to a peer that accepts so many octets. It is nothing if the
-- datagram is not for this peer.
abbrev pub reply_of : Line → ℕ → Datagram → List ℕ
reply_of line most d =
    if is_same_peer d.0 line.peer then carried_within (most_by line.manner most) d.1 else []

-- Returns the replies: what is written of the datagrams for this peer, in order.
abbrev pub replies_to : Line → ℕ → List Datagram → List ℕ
replies_to line most [] = []
replies_to line most (d ∷ ds) = reply_of line most d ++ replies_to line most ds

-- ---- one message

-- A message with the calls of the seat that it led to, and the octets that were written for it. It
-- also counts the datagrams that came out of ticks and were dropped.
pub record Exchange : Type 0 where
  pub message : Shown
  pub calls : List Call
  pub written : List ℕ
  pub dropped : ℕ

-- A message that is answered at once with these octets.
pub record Says (octets : List ℕ) (e : Exchange) : Type 0 where
  pub calls : e.calls ≡ []
  pub written : e.written ≡ octets
  pub dropped : e.dropped ≡ 0

-- A message for which the seat handles this datagram and does its job at once, and the replies are
-- written. Time passes when it is due.
pub record Asks (line : Line) (number most : ℕ) (datagram : List ℕ) (e : Exchange)
    : Type 0 where
  pub heard : List Call
  pub ticks : List Call
  pub whole : e.calls ≡ ticks ++ heard
  pub hears : Hears line.peer datagram heard
  pub due : TicksWhere (is_due line.manner number) ticks
  pub written : e.written ≡ replies_to line most (calls_sent heard)
  pub dropped : e.dropped ≡ length (calls_sent ticks)

-- States how a request is answered, given how many requests were passed to the seat before, and how
-- many octets the peer accepts. If there is a reason, it is answered without a seat.
abbrev pub AnswersRequest : Line → ℕ → ℕ → Option Unasked → Exchange → Type 0
AnswersRequest line before most (Some why) e =
    Says (saying (unasked_code why) e.message.token (unasked_diagnostic why)) e
AnswersRequest line before most None e =
    Asks line (before + 1) most
    (spelling (sized_by line.manner most (heard_as before e.message))) e

-- States how a message is answered, by its purpose.
abbrev pub AnswersAs : Line → ℕ → ℕ → Meant → Exchange → Type 0
AnswersAs line before most meant.Passed e = Says [] e
AnswersAs line before most meant.Ping e = Says (pong_by line.manner e.message) e
AnswersAs line before most meant.Release e = Says [] e
AnswersAs line before most meant.Abort e = Says [] e
AnswersAs line before most meant.Request e =
    AnswersRequest line before most (unasked_of (heard_as before e.message)) e

abbrev pub Answers : Line → ℕ → ℕ → Exchange → Type 0
Answers line before most e = AnswersAs line before most (meant_by e.message.code) e

-- ---- all of them, the last first

-- Returns how many requests a message passes to the seat.
abbrev pub asked_as : Meant → Option Unasked → ℕ
asked_as meant.Passed why = 0
asked_as meant.Ping why = 0
asked_as meant.Release why = 0
asked_as meant.Abort why = 0
asked_as meant.Request why = number_asked why

abbrev pub asked_by : ℕ → Shown → ℕ
asked_by before message =
    asked_as (meant_by message.code) (unasked_of (heard_as before message))

-- Returns how many requests all messages pass to the seat.
abbrev pub asked_of : List Exchange → ℕ
asked_of [] = 0
asked_of (e ∷ earlier) = asked_of earlier + asked_by (asked_of earlier) e.message

-- Returns how many octets the peer accepts after all messages.
abbrev pub size_of_all : List Exchange → ℕ
size_of_all [] = usual_size
size_of_all (e ∷ earlier) = size_after (size_of_all earlier) e.message

abbrev pub dropped_of : List Exchange → ℕ
dropped_of [] = 0
dropped_of (e ∷ earlier) = dropped_of earlier + e.dropped

abbrev pub calls_of : List Exchange → List Call
calls_of [] = []
calls_of (e ∷ earlier) = e.calls ++ calls_of earlier

abbrev pub written_of : List Exchange → List ℕ
written_of [] = []
written_of (e ∷ earlier) = written_of earlier ++ e.written

-- The most requests of one conversation.
abbrev pub most_asked : ℕ
most_asked = 65_536

-- Returns how the message ends the connection, if it does (RFC 8323 sections 5.5 and 5.6).
abbrev pub ends_by : Meant → Option TalkEnd
ends_by meant.Release = Some end_as.Released
ends_by meant.Abort = Some end_as.Aborted
ends_by _ = None

-- Returns how the conversation ends, given what the message says and whether the last possible
-- request was passed to the seat.
abbrev pub end_by : Option TalkEnd → Bool → Option TalkEnd
end_by (Some end) spent = Some end
end_by None true = Some end_as.Spent
end_by None false = None

-- Returns how the last of these messages ends the conversation, if it does.
abbrev pub ended_by : List Exchange → Option TalkEnd
ended_by [] = None
ended_by (e ∷ earlier) =
    end_by (ends_by (meant_by e.message.code)) (asked_of (e ∷ earlier) == most_asked)

-- States that each message is answered, and that none before it ended the conversation.
abbrev pub AreAnswered : Line → List Exchange → Type 0
AreAnswered line [] = ⊤
AreAnswered line (e ∷ earlier) =
    AreAnswered line earlier
    × (ended_by earlier ≡ None)
    × Answers line (asked_of earlier) (size_of_all earlier) e
