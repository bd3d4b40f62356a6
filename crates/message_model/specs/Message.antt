-- The message (RFC 7252 section 3): its parts, which parts make a valid message, and the role of a
-- message.
use Rattle.std.specs.Prelude.{
  ◌≡◌,
  ◌<◌,
  ◌≤◌,
  ◌^◌,
  ℕ,
  false,
  List,
  [],
  ◌∷◌,
  length,
  ⊤,
  ◌==◌,
  if◌then◌else◌,
}
use Rattle.message_model.specs.declared.messages.Kind4.{Kind4}
use Rattle.message_model.specs.declared.messages.Kind4.TheVariants.{Con, Non, Ack, Rst}
use Rattle.message_model.specs.declared.messages.TheConstants.{
  MAX_TOKEN,
  MAX_OPTION_NUMBER,
  MAX_OPTION_VALUE,
}
use Rattle.message_model.specs.declared.messages.Role.{Role}
use Rattle.message_model.specs.declared.messages.Role.TheVariants as role
use Rattle.message_model.specs.Numbers.{IsByte, AreBytes}
use Rattle.message_model.specs.Codes as codes_of

-- An option: its number and its value (RFC 7252 section 3.1).
abbrev pub Opt : Type 0
Opt = ℕ × List ℕ

-- A message: type, code, Message ID, token, options in order, payload (RFC 7252 section 3).
pub record Message : Type 0 where
  pub kind : Kind4
  pub code : ℕ
  pub mid : ℕ
  pub token : List ℕ
  pub options : List Opt
  pub payload : List ℕ

-- The greatest length of a token (RFC 7252 section 3).
abbrev pub longest_token : ℕ
longest_token = MAX_TOKEN

-- The greatest number of an option (RFC 7252 section 3.1).
abbrev pub last_number : ℕ
last_number = MAX_OPTION_NUMBER

-- The greatest length of an option value: 269 and the greatest number of two octets (RFC 7252
-- section 3.1).
abbrev pub longest_value : ℕ
longest_value = MAX_OPTION_VALUE

-- States that these options can follow an option of this number. The numbers never fall, and each
-- option can be spelled (RFC 7252 section 3.1).
abbrev pub AreOptionsAfter : ℕ → List Opt → Type 0
AreOptionsAfter before [] = ⊤
AreOptionsAfter before (option ∷ options) =
    (before ≤ option.0)
    × (option.0 ≤ last_number)
    × (length option.1 ≤ longest_value)
    × AreBytes option.1
    × AreOptionsAfter option.0 options

-- Returns the number of the last of these options, or the number before them if there are none (RFC
-- 7252 section 3.1).
abbrev pub end_number : ℕ → List Opt → ℕ
end_number before [] = before
end_number before (option ∷ options) = end_number option.0 options

-- An empty message, which is a header alone (RFC 7252 section 4.1).
pub record IsBare (m : Message) : Type 0 where
  pub token : m.token ≡ []
  pub options : m.options ≡ []
  pub payload : m.payload ≡ []

-- A valid message: these parts have one spelling (RFC 7252 section 3).
pub record IsMessage (m : Message) : Type 0 where
  pub code : IsByte m.code
  pub class : codes_of.is_reserved m.code ≡ false
  pub mid : m.mid < 2 ^ 16
  pub token_length : length m.token ≤ longest_token
  pub token : AreBytes m.token
  pub options : AreOptionsAfter 0 m.options
  pub payload : AreBytes m.payload
  pub empty : m.code ≡ codes_of.empty → IsBare m

-- Returns the role of an empty message (RFC 7252 section 4).
abbrev pub empty_role : Kind4 → Role
empty_role Con = role.Ping
empty_role Non = role.Ignored
empty_role Ack = role.Acknowledgement
empty_role Rst = role.Reset

-- Returns the role of a message with the code of a request, which is confirmable or non-confirmable
-- (RFC 7252 section 4).
abbrev pub request_role : Kind4 → Role
request_role Con = role.Request
request_role Non = role.Request
request_role Ack = role.Ignored
request_role Rst = role.Ignored

-- Returns the role of a message with the code of a response, which is of any type except Reset (RFC
-- 7252 section 4).
abbrev pub response_role : Kind4 → Role
response_role Con = role.Response
response_role Non = role.Response
response_role Ack = role.Response
response_role Rst = role.Ignored

-- Returns the role of a message of this type and code (RFC 7252 sections 4 and 5).
abbrev pub role_of : Kind4 → ℕ → Role
role_of kind code =
    if code == codes_of.empty then empty_role kind
    else if codes_of.is_request_code code then request_role kind
    else if codes_of.is_response_code code then response_role kind
    else role.Ignored
