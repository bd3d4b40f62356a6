-- What is done with one message of a connection.
use Rattle.std.proofs.Common.{
  ◌≡◌,
  ℕ,
  ◌+◌,
  ◌≤◌,
  List,
  [],
  ◌++◌,
  Some,
  None,
  refl,
  sym,
  ap,
  subst,
  ◌∙◌,
  arith,
}
use Rattle.coap_stream.specs.declared.lines.Line.{Line}
use Rattle.message_model.specs.Spelling.{spelling}
use Rattle.stream_reader.specs.Shown.{Shown}
use Rattle.coap_stream.specs.declared.purposes.Meant.{Meant}
use Rattle.coap_stream.specs.declared.purposes.Meant.TheVariants as meant
use Rattle.coap_stream.specs.declared.refusing.Unasked.{Unasked}
use Rattle.coap_stream.specs.Requests.{
  heard_as,
  meant_by,
  unasked_of,
  unasked_code,
  unasked_diagnostic,
}
use Rattle.rd_seat.specs.Callers.{CallerSeen, Hears}
use Rattle.rd_seat.proofs.CallLaws.{CallsMade-none}
use Rattle.coap_stream.specs.Calls.{as_they_came, calls_sent}
use Rattle.coap_stream.specs.Talks.{
  Exchange,
  AnswersAs,
  AnswersRequest,
  replies_to,
}
use Rattle.coap_stream.specs.Manners.{saying, sized_by}
use Rattle.coap_stream.specs.Made.{VoiceSeen, IsAsked, Speaks}
use Rattle.coap_stream.specs.Answered.{IsDone, MessageDone, RequestDone}

-- Octets that are written and no call.
abbrev pub says_exchange : Shown → List ℕ → Exchange
says_exchange message octets =
    record { message = message; calls = []; written = octets; dropped = 0 }

pub says_done : (message : Shown) (octets : List ℕ) (a : CallerSeen) (v w : VoiceSeen)
    (dropped dropped_then : ℕ)
    → Speaks v octets w
    → dropped_then ≡ dropped
    → IsDone (says_exchange message octets) a a v w dropped dropped_then
says_done message octets a v w dropped dropped_then speaks same = record {
  made = CallsMade-none as_they_came a;
  written = speaks;
  drops = omega (arith, same);
  few = omega arith;
}

-- A request that is answered without a seat.
pub said_done : (line : Line) (asked most : ℕ) (message : Shown) (why : Unasked) (a : CallerSeen)
    (v w : VoiceSeen) (dropped dropped_then : ℕ)
    → Speaks v (saying (unasked_code why) message.token (unasked_diagnostic why)) w
    → dropped_then ≡ dropped
    → RequestDone line asked most message (Some why) a a v w dropped dropped_then
said_done line asked most message why a v w dropped dropped_then speaks same =
    let octets = saying (unasked_code why) message.token (unasked_diagnostic why) in
    record {
      exchange = says_exchange message octets;
      same = refl;
      answers = record { calls = refl; written = refl; dropped = refl };
      done = says_done message octets a v w dropped dropped_then speaks same;
    }

-- One that is handed to the seat.
pub asked_done : (line : Line) (asked most : ℕ) (message : Shown) (datagram : List ℕ) (n : ℕ)
    (a b : CallerSeen) (v w : VoiceSeen) (dropped dropped_then : ℕ)
    → datagram ≡ spelling (sized_by line.manner most (heard_as asked message))
    → IsAsked line (asked + 1) most datagram n a b v w
    → dropped_then ≡ dropped + n
    → n ≤ 1152
    → RequestDone line asked most message None a b v w dropped dropped_then
asked_done line asked most message datagram n a b v w dropped dropped_then is i drops few = record {
  exchange = record {
    message = message;
    calls = i.ticks ++ i.heard;
    written = replies_to line most (calls_sent i.heard);
    dropped = n;
  };
  same = refl;
  answers = record {
    heard = i.heard;
    ticks = i.ticks;
    whole = refl;
    hears = subst (λ (d : List ℕ). Hears line.peer d i.heard) is i.hears;
    due = i.due;
    written = refl;
    dropped = i.drops;
  };
  done = record { made = i.made; written = i.written; drops = drops; few = few };
}

-- Octets that are said in other words.
pub Speaks-as : (v w : VoiceSeen) (code other : ℕ) (token payload word : List ℕ)
    → code ≡ other
    → payload ≡ word
    → Speaks v (saying code token payload) w
    → Speaks v (saying other token word) w
Speaks-as v w code other token payload word is same speaks =
    subst (λ (n : ℕ). Speaks v (saying n token word) w) is
    (subst (λ (l : List ℕ). Speaks v (saying code token l) w) same speaks)

-- ---- messages

-- A message that leads to no call.
pub message_said : (line : Line) (asked most : ℕ) (message : Shown) (m : Meant) (octets : List ℕ)
    (a : CallerSeen) (v w : VoiceSeen) (dropped : ℕ)
    → meant_by message.code ≡ m
    → AnswersAs line asked most m (says_exchange message octets)
    → Speaks v octets w
    → MessageDone line asked most message a a v w dropped dropped
message_said line asked most message m octets a v w dropped is answers speaks = record {
  exchange = says_exchange message octets;
  same = refl;
  answers =
      subst (λ (x : Meant). AnswersAs line asked most x (says_exchange message octets)) (sym is)
      answers;
  done = says_done message octets a v w dropped dropped speaks refl;
}

-- A request.
pub message_asked : (line : Line) (asked most : ℕ) (message : Shown) (a b : CallerSeen)
    (v w : VoiceSeen) (dropped dropped_then : ℕ)
    → meant_by message.code ≡ meant.Request
    → RequestDone line asked most message (unasked_of (heard_as asked message)) a b v w
    dropped dropped_then
    → MessageDone line asked most message a b v w dropped dropped_then
message_asked line asked most message a b v w dropped dropped_then is r =
    let e = r.exchange in
    let means : meant_by e.message.code ≡ meant.Request =
    ap (λ (s : Shown). meant_by s.code) r.same ∙ is in
    record {
      exchange = e;
      same = r.same;
      answers =
          subst (λ (x : Meant). AnswersAs line asked most x e) (sym means)
          (subst (λ (s : Shown). AnswersRequest line asked most (unasked_of (heard_as asked s)) e)
          (sym r.same) r.answers);
      done = r.done;
    }
