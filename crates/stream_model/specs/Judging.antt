-- The verdict on octets that may become a message of a stream, as they are read: the lengths, and
-- then all (RFC 8323 section 3.2).
use Rattle.std.specs.Prelude.{
  ◌≡◌,
  ◌<◌,
  ℕ,
  ◌+◌,
  ◌*◌,
  ◌/◌,
  ◌%◌,
  Bool,
  ◌==◌,
  nat_lt,
  List,
  [],
  ◌∷◌,
  ◌++◌,
  length,
  take,
  drop,
  Option,
  Some,
  None,
  if◌then◌else◌,
}
use Rattle.message_model.specs.Message.{longest_token}
use Rattle.message_model.specs.Numbers.{byte_values}
use Rattle.stream_model.specs.declared.messages.StreamBad.{StreamBad}
use Rattle.stream_model.specs.declared.messages.StreamBad.TheVariants as bad
use Rattle.stream_model.specs.declared.messages.Judged.{Judged}
use Rattle.stream_model.specs.declared.messages.Judged.TheVariants as judged
use Rattle.stream_model.specs.Messages.{
  first_extended,
  first_long,
  first_longest,
  extended_nibble,
  long_nibble,
}
use Rattle.stream_model.specs.Faults.{longest_message, message_fault}

-- Returns the number of octets that extend a nibble.
unfoldable pub extension_size : ℕ → ℕ
extension_size nibble =
    if nat_lt nibble extended_nibble then 0
    else if nibble == extended_nibble then 1
    else if nibble == long_nibble then 2
    else 4

-- Returns the length that a nibble and the octets that extend it encode.
unfoldable pub length_said : ℕ → List ℕ → ℕ
length_said nibble [] = nibble
length_said nibble (a ∷ []) = first_extended + a
length_said nibble (a ∷ b ∷ []) = first_long + (a * byte_values + b)
length_said nibble (a ∷ b ∷ c ∷ []) = nibble
length_said nibble (a ∷ b ∷ c ∷ d ∷ []) =
    first_longest + (((a * byte_values + b) * byte_values + c) * byte_values + d)
length_said nibble (a ∷ b ∷ c ∷ d ∷ e ∷ more) = nibble

-- Returns the verdict on a message with this fault, or with none.
abbrev pub verdict_by : Option StreamBad → Judged
verdict_by None = judged.Whole
verdict_by (Some why) = judged.Bad why

-- Judges the octets after the lengths: the code, a token of this length, and the tail.
abbrev pub judge_body : Bool → ℕ → List ℕ → Judged
judge_body is_first token [] = judged.More
judge_body is_first token (c ∷ octets) = verdict_by (message_fault is_first c (drop token octets))

-- Judges the octets after the first one. `extension` of them extend its nibble; `token` and `size`
-- are the lengths of the token and of the tail.
abbrev pub judge_lengths : Bool → ℕ → ℕ → ℕ → List ℕ → Judged
judge_lengths is_first extension token size octets =
    if nat_lt longest_token token then judged.Bad bad.Format
    else if nat_lt longest_message (extension + token + size + 2) then judged.Bad bad.Size
    else if nat_lt (length octets) (extension + token + size + 1) then judged.More
    else judge_body is_first token (drop extension octets)

-- Judges the octets after the first one, by its nibbles.
abbrev pub judge_after : Bool → ℕ → ℕ → List ℕ → Judged
judge_after is_first nibble token octets =
    if nat_lt (length octets) (extension_size nibble) then judged.More
    else judge_lengths is_first (extension_size nibble) token
    (length_said nibble (take (extension_size nibble) octets)) octets

-- Judges octets none of whose proper prefixes is a message or a bad one (`FrontsMore`): they are
-- less than a message, a message, or a bad one.
unfoldable pub judge : Bool → List ℕ → Judged
judge is_first [] = judged.More
judge is_first (b ∷ octets) = judge_after is_first (b / 16) (b % 16) octets

-- States that no proper prefix of the octets is a message or a bad one.
abbrev pub FrontsMore : Bool → List ℕ → Type 0
FrontsMore is_first octets =
    (front more : List ℕ)
    → front ++ more ≡ octets
    → 0 < length more
    → judge is_first front ≡ judged.More
