-- How the examples write bytes and messages.
use Rattle.std.specs.Prelude.{ℕ, ◌+◌, ◌-◌, ◌*◌, List, [], ◌∷◌, nat_lt, if◌then◌else◌}
use Rattle.message_model.specs.declared.messages.Kind4.TheVariants.{Con}
use Rattle.message_model.specs.Message.{Message, Opt}

-- The value of a hexadecimal digit in lower case.
abbrev pub digit_value : ℕ → ℕ
digit_value digit = if nat_lt digit 97 then digit - 48 else digit - 87

-- Two digits for each byte.
abbrev pub hex : List ℕ → List ℕ
hex [] = []
hex (high ∷ []) = []
hex (high ∷ low ∷ digits) = (digit_value high * 16 + digit_value low) ∷ hex digits

-- A confirmable message without a token.
abbrev pub request : ℕ → List Opt → List ℕ → Message
request code options payload = record {
  kind = Con;
  code = code;
  mid = 1;
  token = [];
  options = options;
  payload = payload;
}
