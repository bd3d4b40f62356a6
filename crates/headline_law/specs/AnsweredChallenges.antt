-- Simple registrations that answered a challenge. Their peer proved that it receives at its address
-- and port (RFC 9176 section 5.1, RFC 9175 sections 2.3 and 2.6).
use Rattle.std.specs.Prelude.{◌≡◌, true, ℕ, List, Some, Ok}
use Rattle.rd_base.specs.declared.peers.Peer.{Peer}
use Rattle.message_model.specs.declared.messages.Role.TheVariants as role
use Rattle.message_model.specs.declared.requests.Path.TheVariants as path
use Rattle.message_model.specs.Message.{Message, role_of}
use Rattle.message_model.specs.Reading.{reading}
use Rattle.message_model.specs.Request.{path_in, echo_in}
use Rattle.event_model.specs.Challenges.{is_good}
use Rattle.journal_model.specs.declared.steps.StepKind.TheVariants as step
use Rattle.journal_model.specs.declared.rows.Row.{Row}
use Rattle.journal_model.specs.Journal.{events}
use Rattle.journal_model.specs.PlacedRows.{Within, Placed, admits}

-- A row that admitted a simple registration whose Echo option answers the last challenge of its
-- peer. That challenge is less than 247 seconds old, and among the 1,024 that were made last.
pub record ShowsAddress (p : Placed) : Type 0 where
  pub heard : p.row.step.kind ≡ step.Admit
  pub message : Message
  pub read : reading p.row.step.datagram ≡ Ok message
  pub asks : role_of message.kind message.code ≡ role.Request
  pub simple : path_in message ≡ path.SimpleRd
  pub admitted : admits p.row.step.peer message.mid p.row ≡ true
  pub value : List ℕ
  pub echo : echo_in message ≡ Some value
  pub good : is_good p.row.moment.0 p.row.step.peer value (events p.before) ≡ true

-- An earlier row that admitted such a registration of a peer, from the same address and port.
pub record ShownBefore (before : List Row) (peer : Peer) : Type 0 where
  pub shown : Placed
  pub within : Within before shown.before shown.row
  pub shows : ShowsAddress shown
  pub peer_is : shown.row.step.peer ≡ peer
