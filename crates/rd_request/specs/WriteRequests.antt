-- The requests that write to the registrations, or to one of them.
use Rattle.std.specs.Prelude.{ℕ, Bool, false, ◌&&◌, List, Result, Ok, Err, is_none}
use Rattle.message_model.specs.declared.messages.Role.{Role}
use Rattle.message_model.specs.declared.messages.Role.TheVariants as role
use Rattle.message_model.specs.declared.messages.Unread.{Unread}
use Rattle.message_model.specs.Message.{Message, role_of}
use Rattle.message_model.specs.Reading.{reading}
use Rattle.message_model.specs.Request.{path_in}
use Rattle.journal_model.specs.Requests.{refusal_of_request, method_of, is_write}

-- Returns whether the message writes to the registrations, or to one of them (RFC 9176 sections 5,
-- 5.1 and 5.3).
abbrev pub writes_to_registrations : Message → Bool
writes_to_registrations m = is_write (path_in m) (method_of m.code)

-- Returns whether the message is a write that is not refused by its content alone.
abbrev pub is_write_message : Role → Message → Bool
is_write_message role.Request m = is_none (refusal_of_request m) && writes_to_registrations m
is_write_message _ m = false

-- Returns whether a datagram is such a write, from the result of reading it.
abbrev pub is_write_reading : Result Message Unread → Bool
is_write_reading (Err fault) = false
is_write_reading (Ok m) = is_write_message (role_of m.kind m.code) m

-- Returns whether the datagram is such a write.
unfoldable pub is_write_datagram : List ℕ → Bool
is_write_datagram datagram = is_write_reading (reading datagram)
