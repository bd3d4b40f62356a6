-- A message while it is written, option by option.
use Rattle.std.specs.Prelude.{◌≡◌, ℕ, ◌≤◌, ◌<◌, List, [], ◌++◌}
use Rattle.message_model.specs.declared.messages.Kind4.TheVariants.{Con}
use Rattle.message_model.specs.Codes.{empty}
use Rattle.message_model.specs.Message.{Message, Opt, end_number}
use Rattle.journal_model.specs.Effects.{Reply}

-- Returns a message with these options after its own.
abbrev pub with_options : Message → List Opt → Message
with_options m more = record m { options = m.options ++ more }

-- A message that an option with this number may follow. The message is not empty, has no payload
-- yet, and has no option with a greater number (RFC 7252 section 3.1).
pub record IsReadyFor (number : ℕ) (m : Message) : Type 0 where
  pub filled : empty < m.code
  pub open_end : m.payload ≡ []
  pub ascends : end_number 0 m.options ≤ number

-- Returns a confirmable message that says a reply, with a token (RFC 7641 section 4.2).
abbrev pub notification_saying : ℕ → List ℕ → Reply → Message
notification_saying mid token reply = record {
  kind = Con;
  code = reply.code;
  mid = mid;
  token = token;
  options = reply.options;
  payload = reply.payload;
}
