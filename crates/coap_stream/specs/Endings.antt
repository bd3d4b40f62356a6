-- How a conversation ends, and what it did until then (RFC 8323 sections 3.3 and 5).
use Rattle.std.specs.Prelude.{
  ◌≡◌,
  ℕ,
  ◌<◌,
  ◌≤◌,
  List,
  [],
  ◌∷◌,
  ◌++◌,
  length,
  reverse,
  take,
}
use Rattle.std.specs.Prelude.{Option, Some, None, Result, Ok, Err, ⊤}
use Rattle.std.specs.Io.KnownBytes.{Appends, Consumes, IsAtEnd}
use Rattle.rd_base.specs.declared.peers.Peer.{Peer}
use Rattle.rd_base.specs.Outside.{Rose}
use Rattle.rd_base.specs.declared.outside.Source as sources
use Rattle.rd_base.specs.declared.outside.Sink as sinks
use Rattle.udp_link.specs.declared.clocks.Clock as clocks
use Rattle.stream_model.specs.declared.messages.StreamBad.{StreamBad}
use Rattle.stream_model.specs.Streams.{Stream, stream_of}
use Rattle.stream_model.specs.declared.messages.Judged.TheVariants as judged
use Rattle.stream_reader.specs.Reading.{Held, held_as}
use Rattle.stream_reader.specs.Shown.{shown_in}
use Rattle.rd_seat.specs.Seats.{SeatSeen}
use Rattle.rd_seat.specs.Callers.{CallerSeen, caller_seen}
use Rattle.coap_stream.specs.declared.talked.TalkEnd.{TalkEnd}
use Rattle.coap_stream.specs.declared.talked.TalkEnd.TheVariants as end_as
use Rattle.coap_stream.specs.declared.talked.TalkFault.{TalkFault}
use Rattle.coap_stream.specs.declared.talked.TalkFault.TheVariants as fault
use Rattle.coap_stream.specs.declared.talked.Talked.{Talked}
use Rattle.coap_stream.specs.declared.lines.Line.{Line}
use Rattle.coap_stream.specs.Made.{CallsMade}
use Rattle.coap_stream.specs.Manners.{bad_option_in, full_line, plain_line}
use Rattle.coap_stream.specs.Talks.{
  Exchange,
  AreAnswered,
  asked_of,
  dropped_of,
  calls_of,
  written_of,
  ended_by,
  opening,
  farewell,
}

-- ---- what contracts see of it

-- What a source shows.
pub record SourceSeen : Type 0 where
  pub left : Option (List ℕ)
  pub faults : ℕ

abbrev pub source_seen : {S : Type 0} → sources.Ghosts S → S → SourceSeen
source_seen g source = record { left = g.left source; faults = g.faults source }

-- What a conversation uses: its seat and its clock, its input, and its output.
pub record TalkSeen : Type 0 where
  pub caller : CallerSeen
  pub source : SourceSeen
  pub holds : Option (List ℕ)
  pub write_faults : ℕ

abbrev pub talk_seen : {K C : Type 0} → sinks.Ghosts K → clocks.Ghosts C → SourceSeen
    → SeatSeen → K → C → TalkSeen
talk_seen k c source seat out clock = record {
  caller = caller_seen c seat clock;
  source = source;
  holds = k.holds out;
  write_faults = k.faults out;
}

-- ---- how it ends

-- States that these octets, the last first, are those of the messages.
abbrev pub AreShown : List (List ℕ) → List Exchange → Type 0
AreShown [] [] = ⊤
AreShown (octets ∷ earlier) (e ∷ es) = (shown_in octets ≡ Some e.message)
    × AreShown earlier es
AreShown [] (e ∷ es) = ⊥
AreShown (octets ∷ earlier) [] = ⊥

-- Messages, the last first, that are the first ones of the stream.
pub record AreFirst (messages : List (List ℕ)) (s : Stream) : Type 0 where
  pub more : List (List ℕ)
  pub all : s.messages ≡ reverse messages ++ more

-- Messages that are all of the stream, and what follows them.
pub record AreAll (messages : List (List ℕ)) (why : Option StreamBad) (s : Stream) : Type 0 where
  pub all : s.messages ≡ reverse messages
  pub follows : s.fault ≡ why

-- States how the conversation ended, by the octets that were read, the messages in them that were
-- answered, and what is left to be read. It ended between two messages or within one, at the end of
-- the source; at a bad message, whatever follows it; or as its last message says.
abbrev pub EndsSo : TalkEnd → List ℕ → List (List ℕ) → List Exchange → Option (List ℕ)
    → Type 0
EndsSo end_as.Closed taken messages es left =
    AreAll messages None (stream_of taken)
    × ((stream_of taken).rest ≡ [])
    × IsAtEnd left
    × (ended_by es ≡ None)
EndsSo end_as.Cut taken messages es left =
    AreAll messages None (stream_of taken)
    × (0 < length (stream_of taken).rest)
    × IsAtEnd left
    × (ended_by es ≡ None)
EndsSo (end_as.Refused why) taken messages es left =
    ((further : List ℕ) → AreAll messages (Some why) (stream_of (taken ++ further)))
    × (ended_by es ≡ None)
EndsSo end taken messages es left = ended_by es ≡ Some end

-- ---- what is written last

-- Octets of a bad message, as a reader holds them, among those that were read. If it is a CSM, the
-- first of its critical options is the cause (RFC 8323 section 5.2).
pub record IsCaused (why : StreamBad) (taken : List ℕ) (bad : Option ℕ) : Type 0 where
  pub held : Held
  pub spent : List ℕ
  pub more : List ℕ
  pub among : taken ≡ spent ++ (held.pending ++ more)
  pub verdict : held_as held ≡ judged.Bad why
  pub option : bad ≡ bad_option_in held.pending

abbrev pub IsCause : TalkEnd → List ℕ → Option ℕ → Type 0
IsCause (end_as.Refused why) taken bad = IsCaused why taken bad
IsCause end taken bad = bad ≡ None

-- Returns the option that was the cause, by what the reader holds.
abbrev pub cause_by : TalkEnd → Held → Option ℕ
cause_by (end_as.Refused why) held = bad_option_in held.pending
cause_by end held = None

-- The octets that are written last.
pub record IsFarewell (line : Line) (end : TalkEnd) (taken octets : List ℕ) : Type 0 where
  pub bad : Option ℕ
  pub cause : IsCause end taken bad
  pub octets_are : octets ≡ farewell line end bad

-- ---- what is written in all

-- States that a prefix of these octets was written.
abbrev pub WritesFront : Option (List ℕ) → List ℕ → Option (List ℕ) → Type 0
WritesFront before octets now =
    (n : ℕ) × (n ≤ length octets) × Appends before now (take n octets)

-- States what was to be written when a write failed: the responses to the messages, followed, if
-- the conversation had ended, by its last message.
abbrev pub WasSaying : Line → Option TalkEnd → List ℕ → List (List ℕ) → List Exchange
    → Option (List ℕ) → List ℕ → Type 0
WasSaying line None taken messages es left octets = octets ≡ opening line ++ written_of es
WasSaying line (Some end) taken messages es left octets =
    EndsSo end taken messages es left
    × (last : List ℕ)
    × IsFarewell line end taken last
    × (octets ≡ opening line ++ (written_of es ++ last))

-- States that the answers were written, and the last message behind them.
abbrev pub WritesAll : Line → TalkEnd → List ℕ → List Exchange → Option (List ℕ)
    → Option (List ℕ) → Type 0
WritesAll line end taken es before after =
    (last : List ℕ)
    × IsFarewell line end taken last
    × Appends before after (opening line ++ (written_of es ++ last))

-- States the result of a conversation, by the octets that were read and the messages in them that
-- were answered.
abbrev pub Concludes : Line → List ℕ → List (List ℕ) → List Exchange → TalkSeen → TalkSeen
    → Result Talked TalkFault → Type 0
Concludes line taken messages es before after (Ok talked) =
    EndsSo talked.end taken messages es after.source.left
    × (talked.asked ≡ asked_of es)
    × (talked.dropped ≡ dropped_of es)
    × WritesAll line talked.end taken es before.holds after.holds
    × (after.write_faults ≡ before.write_faults)
    × (after.source.faults ≡ before.source.faults)
Concludes line taken messages es before after (Err fault.Read) =
    Appends before.holds after.holds (opening line ++ written_of es)
    × (ended_by es ≡ None)
    × (before.source.faults ≤ after.source.faults)
    × Rose before.source.faults after.source.faults
    × (after.write_faults ≡ before.write_faults)
Concludes line taken messages es before after (Err fault.Write) =
    ((end : Option TalkEnd)
    × (octets : List ℕ)
    × WasSaying line end taken messages es after.source.left octets
    × WritesFront before.holds octets after.holds)
    × (before.write_faults ≤ after.write_faults)
    × Rose before.write_faults after.write_faults
    × (after.source.faults ≡ before.source.faults)
Concludes line taken messages es before after (Err fault.Starved) =
    (es ≡ [])
    × Appends before.holds after.holds []
    × (after.source ≡ before.source)
    × (after.write_faults ≡ before.write_faults)

-- A conversation over a line.
pub record TalksOver (line : Line) (before after : TalkSeen) (result : Result Talked TalkFault)
    : Type 0 where
  -- The octets that were read.
  pub taken : List ℕ
  pub read : Consumes before.source.left after.source.left taken
  -- Their first messages are answered, in order, whatever follows the octets that were read.
  pub messages : List (List ℕ)
  pub exchanges : List Exchange
  pub shown : AreShown messages exchanges
  pub first : (further : List ℕ) → AreFirst messages (stream_of (taken ++ further))
  pub answered : AreAnswered line exchanges
  -- Each call changed the seat from the state in which the one before it left it, with the moments
  -- and words that the clock returned, in order.
  pub made : CallsMade (calls_of exchanges) before.caller after.caller
  -- The conversation ended as its result says.
  pub concludes : Concludes line taken messages exchanges before after result

-- A conversation with a peer, as `converse` holds it.
abbrev pub Talks : Peer → TalkSeen → TalkSeen → Result Talked TalkFault → Type 0
Talks peer before after result = TalksOver (plain_line peer) before after result

-- A conversation with a peer, as `attend` holds it.
abbrev pub Attends : Peer → TalkSeen → TalkSeen → Result Talked TalkFault → Type 0
Attends peer before after result = TalksOver (full_line peer) before after result
