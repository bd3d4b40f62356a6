-- Messages of a stream, and the octets that spell them (RFC 8323 section 3.2): one spelling for
-- each message.
use Rattle.std.specs.Prelude.{
  ◌<◌,
  ◌≤◌,
  ◌^◌,
  ℕ,
  ◌+◌,
  ◌-◌,
  ◌*◌,
  ◌/◌,
  ◌%◌,
  nat_lt,
  List,
  [],
  ◌∷◌,
  ◌++◌,
  length,
  if◌then◌else◌,
}
use Rattle.message_model.specs.Numbers.{IsByte, AreBytes, byte_values}
use Rattle.stream_model.specs.declared.messages.TheConstants as bounds

-- A message of a stream: its code, its token, and its tail, which is the options and the payload as
-- they are spelled.
pub record StreamMessage : Type 0 where
  pub code : ℕ
  pub token : List ℕ
  pub tail : List ℕ

-- The least lengths of a tail that need one, two and four more octets.
abbrev pub first_extended : ℕ
first_extended = bounds.FIRST_EXTENDED

abbrev pub first_long : ℕ
first_long = bounds.FIRST_LONG

abbrev pub first_longest : ℕ
first_longest = bounds.FIRST_LONGEST

-- The nibbles that say how many more octets there are: one, two or four.
abbrev pub extended_nibble : ℕ
extended_nibble = 13

abbrev pub long_nibble : ℕ
long_nibble = 14

abbrev pub longest_nibble : ℕ
longest_nibble = 15

-- The parts of a message of a stream: each fits its field.
pub record IsStreamMessage (m : StreamMessage) : Type 0 where
  pub code : IsByte m.code
  pub token_length : length m.token < 16
  pub token : AreBytes m.token
  pub tail_length : length m.tail < first_longest + 2 ^ 32
  pub tail : AreBytes m.tail

-- Returns the nibble of the length of a tail.
unfoldable pub nibble_of : ℕ → ℕ
nibble_of n =
    if nat_lt n first_extended then n
    else if nat_lt n first_long then extended_nibble
    else if nat_lt n first_longest then long_nibble
    else longest_nibble

-- Returns the octets of a number below 2^32, the most significant first.
abbrev pub four_octets : ℕ → List ℕ
four_octets n =
    (n / 16777216) ∷ (n / 65536 % byte_values) ∷ (n / byte_values % byte_values)
    ∷ (n % byte_values) ∷ []

-- Returns the octets that extend that nibble.
unfoldable pub extension_of : ℕ → List ℕ
extension_of n =
    if nat_lt n first_extended then []
    else if nat_lt n first_long then (n - first_extended) ∷ []
    else if nat_lt n first_longest
    then ((n - first_long) / byte_values) ∷ ((n - first_long) % byte_values) ∷ []
    else four_octets (n - first_longest)

-- Returns the octets of both lengths: one octet for that of the tail and that of the token, and
-- what extends the first.
unfoldable pub lengths_spelling : StreamMessage → List ℕ
lengths_spelling m =
    (nibble_of (length m.tail) * 16 + length m.token) ∷ extension_of (length m.tail)

-- Returns the octets of a message: both lengths, the code, the token and the tail.
abbrev pub stream_spelling : StreamMessage → List ℕ
stream_spelling m = lengths_spelling m ++ (m.code ∷ (m.token ++ m.tail))
