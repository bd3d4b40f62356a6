-- What a message of the directory means for a request: whether it answers the request, or ends the
-- connection (RFC 8323 sections 3.4 and 5, RFC 9176 section 5). All lists of messages have the last
-- one first.
use Rattle.std.specs.Prelude.{
  ℕ,
  ◌==◌,
  List,
  [],
  ◌∷◌,
  Option,
  Some,
  None,
  Result,
  Ok,
  Err,
  option_map,
  if◌then◌else◌,
}
use Rattle.message_model.specs.declared.messages.Kind4.TheVariants.{Non}
use Rattle.message_model.specs.Message.{Message}
use Rattle.message_model.specs.Request.{echo_in}
use Rattle.stream_model.specs.declared.signals.TheConstants as signals
use Rattle.stream_reader.specs.Shown.{Shown, shown_in}
use Rattle.client_model.specs.declared.asks.Ask.{Ask}
use Rattle.client_model.specs.declared.outcomes.Outcome.{Outcome}
use Rattle.client_model.specs.Requests.{Request, request_of}
use Rattle.client_model.specs.Verdicts.{decided_in}
use Rattle.stream_registrant.specs.declared.answers.Answer.{Answer}
use Rattle.stream_registrant.specs.declared.answers.Unanswered.{Unanswered}
use Rattle.stream_registrant.specs.declared.answers.Unanswered.TheVariants as unanswered
use Rattle.stream_registrant.specs.declared.meanings.Pending.{Pending}
use Rattle.stream_registrant.specs.declared.signs.Sign.{Sign}
use Rattle.stream_registrant.specs.declared.signs.Sign.TheVariants as sign

-- ---- the request

-- Returns the request of an ask with this token. A message of a connection has no Message ID (RFC
-- 8323 section 3.2), so the number is of no account.
abbrev pub request_over : Ask → List ℕ → Request
request_over ask token = request_of ask 0 token

-- Returns the request that waits for its answer.
abbrev pub request_in : Pending → Request
request_in p = record { to = p.to; purpose = p.purpose; mid = 0; token = p.token }

-- ---- one message

-- Returns a message of a connection in the form of a datagram: non-confirmable, with any Message ID
-- (RFC 8323 section 3.4).
abbrev pub as_message : Shown → Message
as_message s = record {
  kind = Non;
  code = s.code;
  mid = 0;
  token = s.token;
  options = s.options;
  payload = s.payload;
}

-- Returns the answer with this outcome, and with the Echo of the message (RFC 9175 section 2.2.1).
abbrev pub answer_with : Message → Outcome → Answer
answer_with m o = record { outcome = o; echo = echo_in m }

-- Returns the answer that a message gives to a request, if it gives one.
abbrev pub answer_of : Request → Message → Option Answer
answer_of r m = option_map (answer_with m) (decided_in r (Some m))

abbrev pub answer_in : Request → Shown → Option Answer
answer_in r s = answer_of r (as_message s)

-- Returns what a code says to a client (RFC 8323 section 5).
abbrev pub sign_of : ℕ → Sign
sign_of c =
    if c == signals.PING then sign.Ping
    else if c == signals.RELEASE then sign.Release
    else if c == signals.ABORT then sign.Abort
    else sign.Other

-- The end of a request over a connection.
abbrev pub End : Type 0
End = Result Answer Unanswered

-- Returns how a message ends a request, if it does.
abbrev pub ends_as : Sign → Request → Shown → Option End
ends_as sign.Ping r s = None
ends_as sign.Release r s = Some (Err unanswered.Released)
ends_as sign.Abort r s = Some (Err unanswered.Aborted)
ends_as sign.Other r s = option_map (λ a. Ok a) (answer_in r s)

abbrev pub ends_by : Request → Shown → Option End
ends_by r s = ends_as (sign_of s.code) r s

abbrev pub ends_in : Request → Option Shown → Option End
ends_in r None = None
ends_in r (Some s) = ends_by r s

-- ---- all of them

-- Returns the first of two ends if there is one, and otherwise the second.
abbrev pub or_later : Option End → Option End → Option End
or_later (Some e) later = Some e
or_later None later = later

-- Returns how messages, each as its octets, end a request: as the first that ends it says.
unfoldable pub verdict : Request → List (List ℕ) → Option End
verdict r [] = None
verdict r (octets ∷ before) = or_later (verdict r before) (ends_in r (shown_in octets))
