-- The course of a request over a connection, and how it ends.
use Rattle.std.specs.Prelude.{
  ◌≡◌,
  ◌<◌,
  ◌≤◌,
  ◌⊎◌,
  ℕ,
  ◌+◌,
  ◌*◌,
  Bool,
  false,
  List,
  [],
  ◌++◌,
  length,
  reverse,
  Option,
  Some,
  None,
  Ok,
  Err,
  ⊤,
}
use Rattle.std.specs.Io.KnownBytes.{Consumes, IsAtEnd, Keeps}
use Rattle.rd_base.specs.Outside.{Rose}
use Rattle.rd_base.specs.declared.outside.Source as sources
use Rattle.rd_base.specs.declared.outside.Sink as sinks
use Rattle.stream_model.specs.declared.messages.Judged.{Judged}
use Rattle.stream_model.specs.declared.messages.Judged.TheVariants as judged
use Rattle.stream_model.specs.Faults.{longest_message}
use Rattle.stream_model.specs.Streams.{Stream}
use Rattle.stream_reader.specs.Reading.{Held, at_beginning, held_as, stream_after}
use Rattle.client_model.specs.Requests.{Request}
use Rattle.stream_registrant.specs.declared.answers.Unanswered.TheVariants as unanswered
use Rattle.stream_registrant.specs.declared.hearing.Step.{Step}
use Rattle.stream_registrant.specs.declared.hearing.Step.TheVariants as step
use Rattle.stream_registrant.specs.Answers.{End, verdict}
use Rattle.stream_registrant.specs.Saying.{
  Voice,
  Says,
  BreaksOff,
  abort,
  said_of,
  voice_seen,
}

-- ---- what contracts see of a connection

-- A session: what its reader holds, the octets that were read and not yet used, and whether its CSM
-- was sent.
pub record SessionSeen : Type 0 where
  pub held : Held
  pub rest : List ℕ
  pub is_open : Bool

-- Returns the session of a new connection.
abbrev pub at_opening : SessionSeen
at_opening = record { held = at_beginning; rest = []; is_open = false }

-- Returns a session with other octets that are not yet used.
abbrev pub with_rest : SessionSeen → List ℕ → SessionSeen
with_rest s rest = record s { rest = rest }

-- States that a session differs at most in the octets that are not yet used.
abbrev pub IsKept : SessionSeen → SessionSeen → Type 0
IsKept before now = now ≡ with_rest before now.rest

-- Returns the stream that the session finds in what it has and in these further octets.
abbrev pub ahead : SessionSeen → List ℕ → Stream
ahead s further = stream_after s.held (s.rest ++ further)

-- A session, its source and its sink.
pub record Seen : Type 0 where
  pub session : SessionSeen
  pub left : Option (List ℕ)
  pub read_faults : ℕ
  pub voice : Voice

abbrev pub seen : {S K : Type 0} → sources.Ghosts S → sinks.Ghosts K → SessionSeen → S → K
    → Seen
seen s k session source out = record {
  session = session;
  left = s.left source;
  read_faults = s.faults source;
  voice = voice_seen k out;
}

-- ---- what was read

-- Returns a stream with these messages, the last first, before its own.
abbrev pub with_messages : List (List ℕ) → Stream → Stream
with_messages messages s = record s { messages = reverse messages ++ s.messages }

-- Messages that were taken, the last first. They are the first ones of what the session had and of
-- what was read, whatever follows, and the rest is still ahead.
pub record Takes (messages : List (List ℕ)) (before now : Seen) : Type 0 where
  pub taken : List ℕ
  pub read : Consumes before.left now.left taken
  pub stream : (further : List ℕ)
      → ahead before.session (taken ++ further)
      ≡ with_messages messages (ahead now.session further)

-- ---- how a request ends

-- States that a count of failed reads rose.
abbrev pub CountsFailed : ℕ → ℕ → Type 0
CountsFailed before now = (before ≤ now) × Rose before now

-- Returns the Abort that follows a message with this verdict: one follows a bad message.
abbrev pub abort_by : Judged → List ℕ
abort_by (judged.Bad why) = abort
abort_by _ = []

-- Returns what is written in all: the first octets, what is written for messages, and an Abort
-- after a bad message.
abbrev pub all_said : List ℕ → List (List ℕ) → Judged → List ℕ
all_said first messages j = first ++ (said_of messages ++ abort_by j)

-- States that a request ended because of its messages. What was to be written was written.
abbrev pub EndsBy : Option End → Request → List ℕ → List (List ℕ) → Seen → Seen → Type 0
EndsBy end r first messages before now =
    (verdict r messages ≡ end)
    × Says (first ++ said_of messages) before.voice now.voice

-- States how a request ended, by the messages that were taken and the first octets to be written.
-- No message decides before the last.
abbrev pub Concludes : Request → List ℕ → List (List ℕ) → Seen → Seen → End → Type 0
Concludes r first messages before now (Ok a) =
    EndsBy (Some (Ok a)) r first messages before now
    × (now.read_faults ≡ before.read_faults)
Concludes r first messages before now (Err unanswered.Released) =
    EndsBy (Some (Err unanswered.Released)) r first messages before now
    × (now.read_faults ≡ before.read_faults)
Concludes r first messages before now (Err unanswered.Aborted) =
    EndsBy (Some (Err unanswered.Aborted)) r first messages before now
    × (now.read_faults ≡ before.read_faults)
Concludes r first messages before now (Err unanswered.Closed) =
    EndsBy None r first messages before now
    × IsAtEnd now.left
    × (now.session.rest ≡ [])
    × (now.read_faults ≡ before.read_faults)
Concludes r first messages before now (Err (unanswered.Bad why)) =
    (verdict r messages ≡ None)
    × (held_as now.session.held ≡ judged.Bad why)
    × Says (all_said first messages (judged.Bad why)) before.voice now.voice
    × (now.read_faults ≡ before.read_faults)
Concludes r first messages before now (Err unanswered.Read) =
    EndsBy None r first messages before now
    × CountsFailed before.read_faults now.read_faults
Concludes r first messages before now (Err unanswered.Write) =
    (verdict r messages ≡ None)
    × BreaksOff (all_said first messages (held_as now.session.held)) before.voice now.voice
    × (now.read_faults ≡ before.read_faults)
Concludes r first messages before now (Err unanswered.Starved) =
    Says (first ++ said_of messages) before.voice now.voice
    × (now.read_faults ≡ before.read_faults)
Concludes r first messages before now (Err unanswered.Size) = ⊥

-- A request that ended so.
pub record Ends (r : Request) (first : List ℕ) (before now : Seen) (end : End) : Type 0 where
  pub messages : List (List ℕ)
  pub takes : Takes messages before now
  pub concludes : Concludes r first messages before now end

-- A request that waits for its answer: no message ended it.
pub record Waits (r : Request) (first : List ℕ) (before now : Seen) : Type 0 where
  pub messages : List (List ℕ)
  pub takes : Takes messages before now
  pub ends : EndsBy None r first messages before now
  pub unfailed : now.read_faults ≡ before.read_faults

-- States the result of a read: octets that come next, the end of the source, or a failure.
abbrev pub IsRead : Option (List ℕ)
    → Option (List ℕ)
    → ℕ
    → ℕ
    → List ℕ
    → Step
    → Type 0
IsRead left left_now faults faults_now rest step.Waits =
    Consumes left left_now rest × (faults_now ≡ faults)
IsRead left left_now faults faults_now rest (step.Over (Err unanswered.Closed)) =
    Consumes left left_now []
    × (rest ≡ [])
    × IsAtEnd left_now
    × (faults_now ≡ faults)
IsRead left left_now faults faults_now rest (step.Over (Err unanswered.Read)) =
    Keeps left left_now × (rest ≡ []) × CountsFailed faults faults_now
IsRead left left_now faults faults_now rest (step.Over _) = ⊥

-- Returns a number that falls with each step: the reads that will still return octets, and the
-- octets that are not yet used.
abbrev pub source_turns : {S : Type 0} → sources.Ghosts S → S → SessionSeen → ℕ
source_turns g source session = g.turns source * 1_153 + length session.rest

-- States the result of a step of a request that waits.
abbrev pub IsStepped : Request → List ℕ → Seen → Seen → Step → Type 0
IsStepped r first before now step.Waits = Waits r first before now
IsStepped r first before now (step.Over end) = Ends r first before now end

-- ---- the whole

-- States that nothing happened because the message of the request is too long, or because memory
-- ran out.
abbrev pub IsUnsent : ℕ → Seen → Seen → End → Type 0
IsUnsent size before now end =
    (now ≡ before)
    × (((end ≡ Err unanswered.Size) × (longest_message < size)) ⊎ (end ≡ Err unanswered.Starved))

-- A request that was sent and ended so. Its message is not too long.
pub record IsSent (r : Request) (opening request : List ℕ) (before now : Seen) (end : End)
    : Type 0 where
  pub short : length request ≤ longest_message
  pub ends : Ends r (opening ++ request) before now end

-- States the result of a request: it was not sent, or it was and ended so.
abbrev pub IsTold : Request → List ℕ → List ℕ → Seen → Seen → End → Type 0
IsTold r opening request before now end =
    IsUnsent (length request) before now end ⊎ IsSent r opening request before now end

-- ---- by the octets

-- Returns how all messages of a stream end a request.
abbrev pub verdict_in : Request → Stream → Option End
verdict_in r s = verdict r (reverse s.messages)

-- States that a request ended as the verdict says, unless a read or a write failed, memory ran out,
-- or the request was too long. Without a verdict, it ended at the end of the source or at a bad
-- message.
abbrev pub Decides : Option End → End → Type 0
Decides v (Ok a) = v ≡ Some (Ok a)
Decides v (Err unanswered.Released) = v ≡ Some (Err unanswered.Released)
Decides v (Err unanswered.Aborted) = v ≡ Some (Err unanswered.Aborted)
Decides v (Err unanswered.Closed) = v ≡ None
Decides v (Err (unanswered.Bad why)) = v ≡ None
Decides v (Err _) = ⊤

-- States that of the octets that the source had, in whatever pieces they came.
abbrev pub IsDecided : Request → Option (List ℕ) → SessionSeen → End → Type 0
IsDecided r None s end = ⊤
IsDecided r (Some octets) s end = Decides (verdict_in r (ahead s octets)) end
