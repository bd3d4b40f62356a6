-- How many octets spell a message (RFC 7252 section 3), and how many a datagram has at most.
use Rattle.std.specs.Prelude.{ℕ, ◌+◌, ◌-◌, List, [], ◌∷◌, length, nat_lt, if◌then◌else◌}
use Rattle.message_model.specs.declared.messages.TheConstants.{MAX_MESSAGE_SIZE}
use Rattle.message_model.specs.Message.{Message, Opt}
use Rattle.message_model.specs.Spelling.{first_extended, first_long}

-- The most octets of a datagram that the directory sends: every link carries that many (RFC 7252
-- section 4.6, RFC 8200 section 5).
abbrev pub longest_datagram : ℕ
longest_datagram = MAX_MESSAGE_SIZE

-- Returns how many octets extend the nibble of an option's delta or length.
unfoldable pub extension_size : ℕ → ℕ
extension_size n = if nat_lt n first_extended then 0 else if nat_lt n first_long then 1 else 2

-- Returns how many octets spell an option after an option of the number before: one for both
-- nibbles, what extends them, and the value.
abbrev pub option_size : ℕ → Opt → ℕ
option_size before option =
    1 + (extension_size (option.0 - before) + (extension_size (length option.1) + length option.1))

-- Returns how many octets spell options after an option of the number before.
abbrev pub options_size : ℕ → List Opt → ℕ
options_size before [] = 0
options_size before (option ∷ options) = option_size before option + options_size option.0 options

-- Returns how many octets spell a payload: one more for its marker if it is not empty.
abbrev pub payload_size : List ℕ → ℕ
payload_size [] = 0
payload_size (b ∷ bytes) = 1 + length (b ∷ bytes)

-- Returns how many octets spell a message: four of the header, the token, the options and the
-- payload.
abbrev pub message_size : Message → ℕ
message_size m = 4 + (length m.token + (options_size 0 m.options + payload_size m.payload))
