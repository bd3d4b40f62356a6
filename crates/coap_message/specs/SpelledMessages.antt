-- The message that octets spell, and what always holds of a writer's octets.
use Rattle.std.specs.Prelude.{◌≡◌, ℕ, List, [], Result, Ok, Err}
use Rattle.message_model.specs.declared.messages.Kind4.TheVariants.{Con}
use Rattle.message_model.specs.declared.messages.Unread.{Unread}
use Rattle.message_model.specs.Codes.{empty}
use Rattle.message_model.specs.Message.{Message, IsMessage, end_number}
use Rattle.message_model.specs.Spelling.{spelling}
use Rattle.message_model.specs.Reading.{reading}
use Rattle.coap_message.specs.PartialMessages.{bare_message}

-- Returns the message that was read, or an empty one if none was.
abbrev pub or_empty : Result Message Unread → Message
or_empty (Ok m) = m
or_empty (Err fault) = bare_message Con empty 0 []

-- Returns the message that the octets spell, or an empty one if they spell none.
unfoldable pub message_of_bytes : List ℕ → Message
message_of_bytes bytes = or_empty (reading bytes)

-- The spelling of a message, whose last option has this number.
pub record IsWritten (bytes : List ℕ) (last : ℕ) (m : Message) : Type 0 where
  pub message : IsMessage m
  pub spelled : spelling m ≡ bytes
  pub last_is : end_number 0 m.options ≡ last
