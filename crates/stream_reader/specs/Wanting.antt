-- How many octets of a message are wanted before it has to be judged again (RFC 8323 section 3.2).
use Rattle.std.specs.Prelude.{
  ℕ,
  ◌+◌,
  ◌/◌,
  ◌%◌,
  Bool,
  false,
  nat_lt,
  nat_le,
  List,
  [],
  ◌∷◌,
  length,
  take,
  if◌then◌else◌,
}
use Rattle.message_model.specs.Message.{longest_token}
use Rattle.stream_model.specs.declared.messages.Judged.{Judged}
use Rattle.stream_model.specs.declared.messages.Judged.TheVariants as judged
use Rattle.stream_model.specs.Judging.{extension_size, length_said}

-- Returns how many octets are wanted of a message that begins with these: up to the end of the
-- lengths, and then all of the message.
unfoldable pub wanted_of : List ℕ → ℕ
wanted_of [] = 1
wanted_of (b ∷ octets) =
    if nat_lt (length octets) (extension_size (b / 16)) then extension_size (b / 16) + 1
    else extension_size (b / 16) + b % 16
    + length_said (b / 16) (take (extension_size (b / 16)) octets)
    + 2

-- Returns how many octets are wanted of a message that was judged: none if it is whole or bad.
abbrev pub wanted_by : Judged → List ℕ → ℕ
wanted_by judged.More octets = wanted_of octets
wanted_by judged.Whole octets = 0
wanted_by (judged.Bad why) octets = 0

-- Returns whether the token of the message that octets begin is no longer than a token may be.
abbrev pub has_short_token : List ℕ → Bool
has_short_token [] = false
has_short_token (b ∷ octets) = nat_le (b % 16) longest_token
