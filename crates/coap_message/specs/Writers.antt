-- What contracts see of a writer.
use Rattle.std.specs.Prelude.{◌≤◌, take}
use Rattle.message_model.specs.Message.{Message}
use Rattle.coap_message.specs.PartialMessages.{longest_datagram}
use Rattle.coap_message.specs.SpelledMessages.{message_of_bytes, IsWritten}
use Rattle.coap_message.specs.declared.writers.Writer.TheInside.{Inside}

-- Returns the message that the writer's octets spell.
abbrev pub message_written : Inside → Message
message_written w = message_of_bytes (take w.length w.octets)

-- What always holds of a writer: its octets spell the message, and fit a datagram.
pub record IsWriting (w : Inside) : Type 0 where
  pub short : w.length ≤ longest_datagram
  pub written : IsWritten (take w.length w.octets) w.last (message_written w)
