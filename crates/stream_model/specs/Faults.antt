-- The reasons why a message of a stream is bad, the first reason first (RFC 8323 sections 3.2, 5.2
-- and 5.3).
use Rattle.std.specs.Prelude.{
  ℕ,
  Bool,
  not,
  ◌&&◌,
  ◌||◌,
  ◌==◌,
  nat_lt,
  List,
  length,
  Option,
  Some,
  None,
  if◌then◌else◌,
}
use Rattle.std.specs.List.{list_any}
use Rattle.message_model.specs.Message.{Opt, longest_token}
use Rattle.message_model.specs.Codes.{code, class_of}
use Rattle.message_model.specs.OptionTable.{is_critical}
use Rattle.message_model.specs.Reading.{Tail, tail_at}
use Rattle.stream_model.specs.declared.messages.StreamBad.{StreamBad}
use Rattle.stream_model.specs.declared.messages.StreamBad.TheVariants as bad
use Rattle.stream_model.specs.declared.messages.TheConstants.{MAX_STREAM_MESSAGE}
use Rattle.stream_model.specs.declared.signals.TheConstants as signals
use Rattle.stream_model.specs.Messages.{StreamMessage, lengths_spelling, stream_spelling}

-- The most octets of a message (RFC 8323 section 5.3.1).
abbrev pub longest_message : ℕ
longest_message = MAX_STREAM_MESSAGE

-- Returns why the lengths alone make a message bad, if they do: the token is longer than a token
-- may be, or the message is too long (RFC 8323 sections 3.2 and 5.3.1).
abbrev pub lengths_fault : StreamMessage → Option StreamBad
lengths_fault m =
    if nat_lt longest_token (length m.token) then Some bad.Format
    else if nat_lt longest_message (length (stream_spelling m)) then Some bad.Size
    else None

-- The code of a CSM (RFC 8323 section 5.3).
abbrev pub csm : ℕ
csm = signals.CSM

-- Returns whether a code is that of a signal: class 7 (RFC 8323 section 5).
abbrev pub is_signal : ℕ → Bool
is_signal c = class_of c == 7

-- Returns whether a code is of a reserved class (RFC 7252 section 3), or is that of an unknown
-- signal (RFC 8323 section 5).
abbrev pub is_other_code : ℕ → Bool
is_other_code c =
    class_of c == 1
    || class_of c == 6
    || (is_signal c && (c == code 7 0 || nat_lt signals.ABORT c))

-- Returns whether a critical option is among these (RFC 7252 section 5.4.6).
abbrev pub has_critical : List Opt → Bool
has_critical options = list_any (λ option. is_critical option.0) options

-- Returns why the tail makes a message bad, if it does. It is no list of options with a payload
-- (RFC 7252 section 3), or a signal has a critical option (RFC 8323 section 5.2).
abbrev pub tail_fault : ℕ → Option Tail → Option StreamBad
tail_fault c None = Some bad.Format
tail_fault c (Some tail) = if is_signal c && has_critical tail.0 then Some bad.Signal else None

-- Returns why the code and the tail make a whole message bad, if they do. The first message of a
-- stream has to be a CSM (RFC 8323 section 5.3).
unfoldable pub message_fault : Bool → ℕ → List ℕ → Option StreamBad
message_fault is_first c tail =
    if is_first && not (c == csm) then Some bad.First
    else if is_other_code c then Some bad.Code
    else tail_fault c (tail_at 0 tail)

-- Returns the first of two reasons, if there is one.
abbrev pub first_of : Option StreamBad → Option StreamBad → Option StreamBad
first_of (Some why) later = Some why
first_of None later = later

-- Returns why a message is bad, or nothing if it is good.
abbrev pub fault_of : Bool → StreamMessage → Option StreamBad
fault_of is_first m = first_of (lengths_fault m) (message_fault is_first m.code m.tail)

-- Returns the octets that decide whether a message is bad, if its lengths alone make it bad for
-- this reason or for none.
abbrev pub known_by : Option StreamBad → StreamMessage → List ℕ
known_by (Some why) m = lengths_spelling m
known_by None m = stream_spelling m

-- Returns the octets that decide whether a message is bad: those of its lengths if they alone make
-- it bad, and otherwise all.
abbrev pub known_octets : StreamMessage → List ℕ
known_octets m = known_by (lengths_fault m) m
