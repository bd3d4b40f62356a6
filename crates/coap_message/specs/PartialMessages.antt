-- The message that is being written.
use Rattle.std.specs.Prelude.{ℕ, List, [], ◌∷◌, ◌++◌}
use Rattle.message_model.specs.declared.messages.TheConstants.{MAX_MESSAGE_SIZE}
use Rattle.message_model.specs.declared.messages.Kind4.{Kind4}
use Rattle.message_model.specs.Message.{Message, Opt}

-- The most octets of a datagram that is written.
abbrev pub longest_datagram : ℕ
longest_datagram = MAX_MESSAGE_SIZE

-- Returns a message with neither options nor payload (RFC 7252 section 3).
abbrev pub bare_message : Kind4 → ℕ → ℕ → List ℕ → Message
bare_message kind code mid token = record {
  kind = kind;
  code = code;
  mid = mid;
  token = token;
  options = [];
  payload = [];
}

-- Returns the message with one more option at the end (RFC 7252 section 3.1).
abbrev pub with_last_option : Message → Opt → Message
with_last_option m option = record m { options = m.options ++ option ∷ [] }

-- Returns the message with this payload (RFC 7252 section 3).
abbrev pub with_payload : Message → List ℕ → Message
with_payload m payload = record m { payload = payload }
