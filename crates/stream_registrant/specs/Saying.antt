-- What is written to a connection (RFC 8323 sections 3.2 and 5). All lists of messages have the
-- last one first.
use Rattle.std.specs.Prelude.{
  ◌≡◌,
  ◌<◌,
  ◌≤◌,
  ℕ,
  Bool,
  true,
  false,
  List,
  [],
  ◌∷◌,
  ◌++◌,
  length,
  take,
  Option,
  Some,
  None,
  Result,
  Ok,
  Err,
  ⊤,
}
use Rattle.std.specs.Io.KnownBytes.{Appends}
use Rattle.rd_base.specs.Outside.{Rose}
use Rattle.rd_base.specs.declared.outside.Sink as sinks
use Rattle.message_model.specs.Spelling.{options_spelling, payload_spelling}
use Rattle.stream_model.specs.declared.signals.TheConstants as signals
use Rattle.stream_model.specs.Faults.{longest_message}
use Rattle.stream_model.specs.Messages.{StreamMessage, stream_spelling}
use Rattle.stream_reader.specs.Shown.{Shown, shown_in}
use Rattle.client_model.specs.declared.asks.Ask.{Ask}
use Rattle.stream_registrant.specs.declared.answers.Unanswered.{Unanswered}
use Rattle.stream_registrant.specs.declared.answers.Unanswered.TheVariants as unanswered
use Rattle.stream_registrant.specs.declared.signs.Sign.{Sign}
use Rattle.stream_registrant.specs.declared.signs.Sign.TheVariants as sign
use Rattle.stream_registrant.specs.Answers.{sign_of}

-- ---- the octets

-- Returns the octets of a signal with this token, without options.
abbrev pub signal : ℕ → List ℕ → List ℕ
signal code token = stream_spelling (record { code = code; token = token; tail = [] })

-- Returns the octets of the CSM that begins a connection (RFC 8323 section 5.3), or none if it was
-- sent before.
abbrev pub opening : Bool → List ℕ
opening true = []
opening false = signal signals.CSM []

-- Returns the message of an ask with this token: the code, the options and the payload of the ask
-- (RFC 8323 section 3.2).
abbrev pub request_message : Ask → List ℕ → StreamMessage
request_message ask token = record {
  code = ask.code;
  token = token;
  tail = options_spelling 0 ask.options ++ payload_spelling ask.payload;
}

abbrev pub request_octets : Ask → List ℕ → List ℕ
request_octets ask token = stream_spelling (request_message ask token)

-- Returns the octets of a Pong with this token (RFC 8323 section 5.4).
abbrev pub pong : List ℕ → List ℕ
pong token = signal signals.PONG token

-- Returns the octets of an Abort (RFC 8323 section 5.6).
abbrev pub abort : List ℕ
abort = signal signals.ABORT []

-- Returns what is written for a message: a Pong for a Ping.
abbrev pub said_as : Sign → List ℕ → List ℕ
said_as sign.Ping token = pong token
said_as _ token = []

abbrev pub said_by : Shown → List ℕ
said_by s = said_as (sign_of s.code) s.token

abbrev pub said_in : Option Shown → List ℕ
said_in None = []
said_in (Some s) = said_by s

-- Returns what is written for messages, each as its octets.
unfoldable pub said_of : List (List ℕ) → List ℕ
said_of [] = []
said_of (octets ∷ before) = said_of before ++ said_in (shown_in octets)

-- ---- how it was written

-- An output: the octets that it took, if contracts see them, and how many writes failed.
pub record Voice : Type 0 where
  pub holds : Option (List ℕ)
  pub faults : ℕ

abbrev pub voice_seen : {K : Type 0} → sinks.Ghosts K → K → Voice
voice_seen g out = record { holds = g.holds out; faults = g.faults out }

-- Octets that were all written.
pub record Says (octets : List ℕ) (before now : Voice) : Type 0 where
  pub written : Appends before.holds now.holds octets
  pub unfailed : now.faults ≡ before.faults

-- Octets a prefix of which was written, since a write failed and was counted.
pub record BreaksOff (octets : List ℕ) (before now : Voice) : Type 0 where
  pub count : ℕ
  pub within : count ≤ length octets
  pub written : Appends before.holds now.holds (take count octets)
  pub never_less : before.faults ≤ now.faults
  pub rose : Rose before.faults now.faults

-- States that all octets were written, or a prefix of them.
abbrev pub IsSaid : List ℕ → Voice → Voice → Bool → Type 0
IsSaid octets before now true = Says octets before now
IsSaid octets before now false = BreaksOff octets before now

-- ---- the beginning

-- States that the octets begin with a CSM, unless it was sent before, and the message of a request,
-- or that this message is too long (RFC 8323 section 5.3.1).
abbrev pub IsFlight : Bool → Ask → List ℕ → Option ℕ → List ℕ → Type 0
IsFlight is_open ask token (Some end) octets =
    (take end octets ≡ opening is_open ++ request_octets ask token)
    × (length (request_octets ask token) ≤ longest_message)
IsFlight is_open ask token None octets = longest_message < length (request_octets ask token)

-- States that an opening and a request were written, or why they were not.
abbrev pub IsBegun : List ℕ → List ℕ → Voice → Voice → Result ⊤ Unanswered → Type 0
IsBegun first request before now (Ok done) =
    Says (first ++ request) before now × (length request ≤ longest_message)
IsBegun first request before now (Err unanswered.Size) =
    (now ≡ before) × (longest_message < length request)
IsBegun first request before now (Err unanswered.Starved) = now ≡ before
IsBegun first request before now (Err unanswered.Write) =
    BreaksOff (first ++ request) before now × (length request ≤ longest_message)
IsBegun first request before now (Err _) = ⊥
