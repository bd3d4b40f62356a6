-- The octets that spell a message (RFC 7252 section 3): one spelling for each message.
use Rattle.std.specs.Prelude.{
  ℕ,
  ◌+◌,
  ◌-◌,
  ◌*◌,
  ◌/◌,
  ◌%◌,
  List,
  [],
  ◌∷◌,
  ◌++◌,
  length,
  nat_lt,
  if◌then◌else◌,
}
use Rattle.message_model.specs.declared.messages.TheConstants.{PAYLOAD_MARKER}
use Rattle.message_model.specs.declared.messages.Kind4.{Kind4}
use Rattle.message_model.specs.declared.messages.Kind4.TheVariants.{Con, Non, Ack, Rst}
use Rattle.message_model.specs.Numbers.{byte_values}
use Rattle.message_model.specs.Message.{Message, Opt}

-- The version of the protocol (RFC 7252 section 3).
abbrev pub version : ℕ
version = 1

-- The octet before a payload (RFC 7252 section 3).
abbrev pub marker : ℕ
marker = PAYLOAD_MARKER

-- The first number that one more octet extends, and the nibble that says so (RFC 7252 section 3.1).
abbrev pub first_extended : ℕ
first_extended = 13

-- The first number that two more octets extend (RFC 7252 section 3.1).
abbrev pub first_long : ℕ
first_long = 269

-- The nibble that says that two more octets follow (RFC 7252 section 3.1).
abbrev pub long_nibble : ℕ
long_nibble = 14

-- Returns the two bits of a type (RFC 7252 section 3).
abbrev pub kind_number : Kind4 → ℕ
kind_number Con = 0
kind_number Non = 1
kind_number Ack = 2
kind_number Rst = 3

-- Returns the header: version, type and token length in one octet, the code, and the Message ID in
-- two octets (RFC 7252 section 3).
unfoldable pub header_spelling : Message → List ℕ
header_spelling m =
    (version * 64 + kind_number m.kind * 16 + length m.token)
    ∷ m.code
    ∷ (m.mid / byte_values)
    ∷ (m.mid % byte_values)
    ∷ []

-- Returns the nibble of an option's delta or length (RFC 7252 section 3.1).
unfoldable pub nibble_of : ℕ → ℕ
nibble_of n =
    if nat_lt n first_extended
    then n
    else if nat_lt n first_long
    then first_extended
    else long_nibble

-- Returns the octets that extend that nibble (RFC 7252 section 3.1).
unfoldable pub extension_of : ℕ → List ℕ
extension_of n =
    if nat_lt n first_extended then []
    else if nat_lt n first_long then (n - first_extended) ∷ []
    else ((n - first_long) / byte_values) ∷ ((n - first_long) % byte_values) ∷ []

-- Returns the spelling of an option after an option of the number before: both nibbles, what
-- extends them, and the value (RFC 7252 section 3.1).
unfoldable pub option_spelling : ℕ → Opt → List ℕ
option_spelling before option =
    (nibble_of (option.0 - before) * 16 + nibble_of (length option.1))
    ∷ (extension_of (option.0 - before) ++ (extension_of (length option.1) ++ option.1))

-- Returns the spelling of options after an option of the number before, one after the other (RFC
-- 7252 section 3.1).
unfoldable pub options_spelling : ℕ → List Opt → List ℕ
options_spelling before [] = []
options_spelling before (option ∷ options) =
    option_spelling before option ++ options_spelling option.0 options

-- Returns the payload after its marker; an empty payload has no marker (RFC 7252 section 3).
unfoldable pub payload_spelling : List ℕ → List ℕ
payload_spelling [] = []
payload_spelling (b ∷ bytes) = marker ∷ b ∷ bytes

-- Returns the spelling of a message: the header, the token, the options and the payload (RFC 7252
-- section 3).
unfoldable pub spelling : Message → List ℕ
spelling m =
    header_spelling m ++ (m.token ++ (options_spelling 0 m.options ++ payload_spelling m.payload))
