-- How an admitted write ended, and which row admitted it (RFC 7252 section 4.5).
use Rattle.std.specs.Prelude.{◌≡◌, ℕ, true, List, length, Ok}
use Rattle.std.specs.List.{list_any}
use Rattle.message_model.specs.declared.messages.Role.TheVariants as role
use Rattle.message_model.specs.Message.{Message, role_of}
use Rattle.message_model.specs.Codes as codes_of
use Rattle.message_model.specs.Reading.{reading}
use Rattle.event_model.specs.Repeats.{is_failure_of}
use Rattle.journal_model.specs.declared.steps.Step.{Step}
use Rattle.journal_model.specs.declared.rows.Row.{Row}
use Rattle.journal_model.specs.PlacedRows.{Within, Commits, admits, code_sent}

-- A write, admitted at a place, that ended in 5.00, which was sent. A row commits it, and notes
-- that it failed.
pub record EndedWithoutMemory (rows : List Row) (place : ℕ) : Type 0 where
  pub before : List Row
  pub row : Row
  pub within : Within rows before row
  pub commits : Commits row place
  pub failed : list_any (is_failure_of place) row.notes ≡ true
  pub sent : code_sent row.sent ≡ codes_of.internal_server_error

-- A row at a place that admitted its own write: that of its peer, with the Message ID of the
-- request in its datagram. Its worker, peer and datagram are those of a later step.
pub record AdmittedAt (rows : List Row) (place : ℕ) (s : Step) : Type 0 where
  pub before : List Row
  pub row : Row
  pub within : Within rows before row
  pub place_is : length before ≡ place
  pub message : Message
  pub read : reading row.step.datagram ≡ Ok message
  pub asks : role_of message.kind message.code ≡ role.Request
  pub admitted : admits row.step.peer message.mid row ≡ true
  pub worker : row.step.worker ≡ s.worker
  pub from_peer : row.step.peer ≡ s.peer
  pub datagram : row.step.datagram ≡ s.datagram
