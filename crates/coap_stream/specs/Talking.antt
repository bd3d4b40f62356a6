-- A conversation so far: the invariants of its loops.
use Rattle.std.specs.Prelude.{
  ◌≡◌,
  ◌+◌,
  ◌<◌,
  ◌==◌,
  ◌++◌,
  ℕ,
  Bool,
  true,
  false,
  List,
  [],
}
use Rattle.std.specs.Prelude.{length, reverse, Option, Some, None, Result, Ok, Err, ⊤}
use Rattle.std.specs.Io.KnownBytes.{Consumes}
use Rattle.coap_stream.specs.declared.lines.Line.{Line}
use Rattle.stream_model.specs.declared.messages.Judged.TheVariants as judged
use Rattle.stream_model.specs.declared.messages.StreamBad.{StreamBad}
use Rattle.stream_model.specs.Streams.{Stream, stream_of, partial}
use Rattle.stream_reader.specs.Reading.{Held, held_as, stream_after}
use Rattle.stream_reader.specs.Shown.{Shown}
use Rattle.rd_seat.specs.Callers.{CallerSeen}
use Rattle.coap_stream.specs.declared.talked.TalkEnd.{TalkEnd}
use Rattle.coap_stream.specs.declared.talked.TalkEnd.TheVariants as end_as
use Rattle.coap_stream.specs.declared.talked.TalkFault.{TalkFault}
use Rattle.coap_stream.specs.declared.talked.TalkFault.TheVariants as fault
use Rattle.coap_stream.specs.declared.talked.Talked.{Talked}
use Rattle.coap_stream.specs.declared.talks.Heard.{Heard}
use Rattle.coap_stream.specs.declared.talks.Heard.TheVariants as heard
use Rattle.coap_stream.specs.Requests.{meant_by}
use Rattle.coap_stream.specs.Made.{VoiceSeen, CallsMade, Speaks}
use Rattle.coap_stream.specs.Manners.{size_after}
use Rattle.coap_stream.specs.Answered.{MessageDone}
use Rattle.coap_stream.specs.Talks.{
  Exchange,
  AreAnswered,
  asked_by,
  asked_of,
  dropped_of,
  calls_of,
  written_of,
  ends_by,
  end_by,
  ended_by,
  most_asked,
  opening,
  size_of_all,
}
use Rattle.coap_stream.specs.Endings.{TalkSeen, AreShown, AreFirst, EndsSo}

-- ---- one message

-- The counts of a conversation, and how many octets its peer accepts.
pub record Counts : Type 0 where
  pub asked : ℕ
  pub dropped : ℕ
  pub most : ℕ

-- A complete message that was answered. It ends the conversation as `end` says, if it does.
pub record WasHeard (line : Line) (message : Option Shown) (end : Option TalkEnd)
    (before after : CallerSeen) (voice spoken : VoiceSeen) (counts counted : Counts)
    : Type 0 where
  pub shown : Shown
  pub is : message ≡ Some shown
  pub done : MessageDone line counts.asked counts.most shown before after voice spoken
      counts.dropped counted.dropped
  pub asked : counted.asked ≡ counts.asked + asked_by counts.asked shown
  pub most : counted.most ≡ size_after counts.most shown
  pub ends : end ≡ end_by (ends_by (meant_by shown.code)) (counted.asked == most_asked)

-- ---- all messages so far

-- Returns a stream with these messages, the last first, before its own.
abbrev pub with_messages : List (List ℕ) → Stream → Stream
with_messages messages s = record s { messages = reverse messages ++ s.messages }

abbrev pub voice_of : Bool → TalkSeen → VoiceSeen
voice_of still t = record { holds = t.holds; faults = t.write_faults; open_still = still }

-- A conversation in which messages of what was read were answered.
pub record Answering (line : Line) (before now : TalkSeen) (still : Bool) (counts : Counts)
    (taken : List ℕ) (messages : List (List ℕ)) (exchanges : List Exchange) : Type 0 where
  pub read : Consumes before.source.left now.source.left taken
  pub read_faults : now.source.faults ≡ before.source.faults
  pub shown : AreShown messages exchanges
  pub answered : AreAnswered line exchanges
  pub made : CallsMade (calls_of exchanges) before.caller now.caller
  pub written : Speaks (voice_of true before) (opening line ++ written_of exchanges)
      (voice_of still now)
  pub asked : counts.asked ≡ asked_of exchanges
  pub dropped : counts.dropped ≡ dropped_of exchanges
  pub most : counts.most ≡ size_of_all exchanges

-- Octets that stand among others, before these.
pub record IsAmong (taken octets behind : List ℕ) : Type 0 where
  pub spent : List ℕ
  pub whole : taken ≡ spent ++ (octets ++ behind)

-- A bad message that a reader holds.
pub record HoldsBad (why : StreamBad) (taken : List ℕ) (held : Held) : Type 0 where
  pub more : List ℕ
  pub among : IsAmong taken held.pending more
  pub verdict : held_as held ≡ judged.Bad why

-- States that the reader holds the message that ended the conversation, if it is bad.
abbrev pub HoldsCause : TalkEnd → List ℕ → Held → Type 0
HoldsCause (end_as.Refused why) taken held = HoldsBad why taken held
HoldsCause end taken held = ⊤

-- A conversation that continues. What was read so far begins with these messages, all of which are
-- answered. The rest is what the reader finds in the remaining octets of the last piece and in any
-- that follow.
pub record TalksSo (line : Line) (before now : TalkSeen) (counts : Counts) (held : Held)
    (rest : List ℕ) : Type 0 where
  pub taken : List ℕ
  pub messages : List (List ℕ)
  pub exchanges : List Exchange
  pub answering : Answering line before now true counts taken messages exchanges
  pub stream : (further : List ℕ)
      → stream_of (taken ++ further)
      ≡ with_messages messages (stream_after held (rest ++ further))
  pub goes_on : ended_by exchanges ≡ None
  -- The octets that the reader holds are the last before the rest.
  pub among : IsAmong taken held.pending rest

-- A conversation that ends as `end` says.
pub record TalksTo (line : Line) (before now : TalkSeen) (counts : Counts) (held : Held)
    (end : TalkEnd) : Type 0 where
  pub taken : List ℕ
  pub messages : List (List ℕ)
  pub exchanges : List Exchange
  pub answering : Answering line before now true counts taken messages exchanges
  pub first : (further : List ℕ) → AreFirst messages (stream_of (taken ++ further))
  pub ends : EndsSo end taken messages exchanges now.source.left
  pub cause : HoldsCause end taken held

-- A conversation in which a write failed.
pub record TalksUntil (line : Line) (before now : TalkSeen) (counts : Counts) : Type 0 where
  pub taken : List ℕ
  pub messages : List (List ℕ)
  pub exchanges : List Exchange
  pub answering : Answering line before now false counts taken messages exchanges
  pub first : (further : List ℕ) → AreFirst messages (stream_of (taken ++ further))

-- ---- after a piece

-- States how the conversation ends if nothing more comes: the last message is complete, or it is
-- not.
abbrev pub WouldEnd : TalkEnd → Stream → Type 0
WouldEnd end_as.Closed s = s ≡ partial []
WouldEnd end_as.Cut s = (rest : List ℕ) × (0 < length rest) × (s ≡ partial rest)
WouldEnd _ s = ⊥

-- States the result of a piece.
abbrev pub IsHeard : Heard → Line → TalkSeen → TalkSeen → Counts → Held → Type 0
IsHeard (heard.Open end) line before now counts held =
    TalksSo line before now counts held [] × WouldEnd end (stream_after held [])
IsHeard (heard.Ended end) line before now counts held = TalksTo line before now counts held end
IsHeard heard.Failed line before now counts held = TalksUntil line before now counts

-- Returns whether the conversation continues.
abbrev pub is_open : Heard → Bool
is_open (heard.Open end) = true
is_open _ = false

-- Returns whether no write failed.
abbrev pub is_still : Heard → Bool
is_still heard.Failed = false
is_still _ = true

-- Returns the result: this one if no write failed, and otherwise that a write failed.
abbrev pub told_if : Bool → Talked → Result Talked TalkFault
told_if true talked = Ok talked
told_if false talked = Err fault.Write
