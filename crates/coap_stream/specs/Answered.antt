-- What was done for one message of a connection.
use Rattle.std.specs.Prelude.{◌≡◌, ◌+◌, ◌≤◌, ℕ, Option}
use Rattle.coap_stream.specs.declared.lines.Line.{Line}
use Rattle.coap_answers.specs.Outboxes.{most_datagrams}
use Rattle.stream_reader.specs.Shown.{Shown}
use Rattle.coap_stream.specs.declared.refusing.Unasked.{Unasked}
use Rattle.rd_seat.specs.Callers.{CallerSeen}
use Rattle.coap_stream.specs.Made.{VoiceSeen, CallsMade, Speaks}
use Rattle.coap_stream.specs.Talks.{Exchange, AnswersRequest, Answers}

-- What was done for a message: its calls were made, its octets were written, and the datagrams that
-- its ticks sent are counted.
pub record IsDone (e : Exchange) (before after : CallerSeen) (voice spoken : VoiceSeen)
    (dropped dropped_then : ℕ) : Type 0 where
  pub made : CallsMade e.calls before after
  pub written : Speaks voice e.written spoken
  pub drops : dropped_then ≡ dropped + e.dropped
  pub few : e.dropped ≤ most_datagrams

-- A request that was answered. It has the reason why it is answered without a seat, if there is
-- one, the number of requests passed to the seat before, and how many octets the peer accepts.
pub record RequestDone (line : Line) (asked most : ℕ) (message : Shown) (why : Option Unasked)
    (before after : CallerSeen) (voice spoken : VoiceSeen) (dropped dropped_then : ℕ)
    : Type 0 where
  pub exchange : Exchange
  pub same : exchange.message ≡ message
  pub answers : AnswersRequest line asked most why exchange
  pub done : IsDone exchange before after voice spoken dropped dropped_then

-- The same of any message.
pub record MessageDone (line : Line) (asked most : ℕ) (message : Shown) (before after : CallerSeen)
    (voice spoken : VoiceSeen) (dropped dropped_then : ℕ) : Type 0 where
  pub exchange : Exchange
  pub same : exchange.message ≡ message
  pub answers : Answers line asked most exchange
  pub done : IsDone exchange before after voice spoken dropped dropped_then
