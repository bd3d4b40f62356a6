-- The message that octets spell, or the first fault that keeps them from spelling one (RFC 7252
-- section 3).
use Rattle.std.specs.Prelude.{
  ℕ,
  zero,
  suc,
  ◌+◌,
  ◌*◌,
  ◌/◌,
  ◌%◌,
  Bool,
  not,
  ◌&&◌,
  ◌||◌,
  List,
  [],
  ◌∷◌,
  length,
  take,
  drop,
  Option,
  Some,
  None,
  option_and_then,
  Result,
  Ok,
  Err,
  ◌==◌,
  nat_lt,
  if◌then◌else◌,
}
use Rattle.message_model.specs.declared.messages.Kind4.{Kind4}
use Rattle.message_model.specs.declared.messages.Kind4.TheVariants.{Con, Non, Ack, Rst}
use Rattle.message_model.specs.declared.messages.Unread.{Unread}
use Rattle.message_model.specs.declared.messages.Unread.TheVariants as unread
use Rattle.message_model.specs.Numbers.{byte_values}
use Rattle.message_model.specs.Codes.{is_reserved, empty}
use Rattle.message_model.specs.Message.{Message, Opt, longest_token, last_number}
use Rattle.message_model.specs.Spelling.{version, marker, first_extended, first_long, long_nibble}

-- The type of a value that octets begin with, and the octets after it; nothing if they do not begin
-- with one.
abbrev pub Read : Type 0 → Type 0
Read A = Option (A × List ℕ)

-- Returns what the second step gives, if the first gave something.
infixl 10 ◌>>=◌
abbrev pub ◌>>=◌ : {A B : Type 0} → Option A → (A → Option B) → Option B
o >>= f = option_and_then f o

-- Reads one octet.
abbrev pub byte_at : List ℕ → Read ℕ
byte_at [] = None
byte_at (b ∷ bytes) = Some (b, bytes)

-- Reads this many octets.
abbrev pub bytes_at : ℕ → List ℕ → Read (List ℕ)
bytes_at n bytes = if nat_lt (length bytes) n then None else Some (take n bytes, drop n bytes)

-- Returns the type with these two bits (RFC 7252 section 3).
abbrev pub kind_of : ℕ → Kind4
kind_of n = if n == 0 then Con else if n == 1 then Non else if n == 2 then Ack else Rst

-- The header: the four octets that each message begins with (RFC 7252 section 3).
pub record Header : Type 0 where
  pub kind : Kind4
  pub token_length : ℕ
  pub code : ℕ
  pub mid : ℕ

-- Returns the header that four octets encode (RFC 7252 section 3).
abbrev pub header_of : ℕ → ℕ → ℕ → ℕ → Header
header_of first code high low = record {
  kind = kind_of (first / 16 % 4);
  token_length = first % 16;
  code = code;
  mid = high * byte_values + low;
}

-- Reads the header, unless it is cut off or has another version (RFC 7252 section 3).
unfoldable pub header_at : List ℕ → Result (Header × List ℕ) Unread
header_at (first ∷ code ∷ high ∷ low ∷ bytes) =
    if first / 64 == version then Ok (header_of first code high low, bytes) else Err unread.Version
header_at bytes = Err unread.Short

-- Reads a delta or a length: its nibble, extended by the octets after it. The nibble 15 is reserved
-- for the marker (RFC 7252 section 3.1).
unfoldable pub extended_at : ℕ → List ℕ → Read ℕ
extended_at nibble bytes =
    if nat_lt nibble first_extended then Some (nibble, bytes)
    else if nibble == first_extended then (do
      more ← byte_at bytes
      Some (first_extended + more.0, more.1))
    else if nibble == long_nibble then (do
      high ← byte_at bytes
      low ← byte_at high.1
      Some (first_long + (high.0 * byte_values + low.0), low.1))
    else None

-- Reads an option after an option of the number before; its own number is at most 65,535 (RFC 7252
-- section 3.1).
unfoldable pub option_at : ℕ → List ℕ → Read Opt
option_at before bytes = do
  nibbles ← byte_at bytes
  delta ← extended_at (nibbles.0 / 16) nibbles.1
  size ← extended_at (nibbles.0 % 16) delta.1
  value ← bytes_at size.0 size.1
  if nat_lt last_number (before + delta.0)
      then None
      else Some ((before + delta.0, value.0), value.1)

-- The options and the payload that follow a token.
abbrev pub Tail : Type 0
Tail = List Opt × List ℕ

-- Reads what follows the marker: a payload of at least one octet (RFC 7252 section 3).
abbrev pub payload_at : List ℕ → Option Tail
payload_at [] = None
payload_at (b ∷ bytes) = Some ([], b ∷ bytes)

-- Returns a tail with one more option before it.
abbrev pub with_option : Opt → Tail → Tail
with_option option tail = (option ∷ tail.0, tail.1)

-- Reads a tail of at most `n` options: nothing, or the marker and a payload, or an option and a
-- tail after it (RFC 7252 section 3).
unfoldable pub short_tail : ℕ → ℕ → List ℕ → Option Tail
short_tail n before [] = Some ([], [])
short_tail zero before (b ∷ bytes) = if b == marker then payload_at bytes else None
short_tail (suc n) before (b ∷ bytes) = if b == marker then payload_at bytes else do
  option ← option_at before (b ∷ bytes)
  tail ← short_tail n option.0.0 option.1
  Some (with_option option.0 tail)

-- Reads all of the octets as a tail, which has fewer options than octets (RFC 7252 section 3).
unfoldable pub tail_at : ℕ → List ℕ → Option Tail
tail_at before bytes = short_tail (length bytes) before bytes

-- Returns whether there is more than a header: a token, or octets after the header (RFC 7252
-- section 4.1).
abbrev pub is_filled : Header → List ℕ → Bool
is_filled header bytes = not (header.token_length == 0 && length bytes == 0)

-- Returns whether no message has this header: the class is reserved, the token has 9 octets or
-- more, or more than a header has the code 0.00 (RFC 7252 sections 3 and 4.1).
abbrev pub is_bad_header : Header → List ℕ → Bool
is_bad_header header bytes =
    is_reserved header.code
    || nat_lt longest_token header.token_length
    || (header.code == empty && is_filled header bytes)

-- Returns the message with these parts.
abbrev pub message_of : Header → List ℕ → Tail → Message
message_of header token tail = record {
  kind = header.kind;
  code = header.code;
  mid = header.mid;
  token = token;
  options = tail.0;
  payload = tail.1;
}

-- Reads the message that a header and the octets after it spell: a token, then a tail (RFC 7252
-- section 3).
unfoldable pub body_at : Header → List ℕ → Option Message
body_at header bytes = if is_bad_header header bytes then None else do
  token ← bytes_at header.token_length bytes
  tail ← tail_at 0 token.1
  Some (message_of header token.0 tail)

-- Returns the message, or a format error with the type and Message ID of the header if there is
-- none (RFC 7252 section 4.2).
abbrev pub or_format : Header → Option Message → Result Message Unread
or_format header None = Err (unread.Format header.kind header.mid)
or_format header (Some m) = Ok m

-- Returns the message with the header that was read, or the fault of the header.
abbrev pub with_body : Result (Header × List ℕ) Unread → Result Message Unread
with_body (Err fault) = Err fault
with_body (Ok header) = or_format header.0 (body_at header.0 header.1)

-- Returns the message that octets spell, or the first fault: too short, another version, a format
-- error (RFC 7252 section 3).
unfoldable pub reading : List ℕ → Result Message Unread
reading bytes = with_body (header_at bytes)
