-- A sentence of the headline, about kept answers. A later block is read only from a kept answer
-- that is young, and among those that were used last (RFC 7959 section 2.4).
use Rattle.std.specs.Prelude.{◌≡◌, true, ℕ, ◌+◌, ◌<◌, List, Option, Some, Ok, take}
use Rattle.std.specs.List.{list_any, IsAmong}
use Rattle.rd_base.specs.declared.peers.Peer.{Peer}
use Rattle.message_model.specs.declared.messages.Role.TheVariants as role
use Rattle.message_model.specs.Message.{Message, role_of}
use Rattle.message_model.specs.Reading.{reading}
use Rattle.message_model.specs.RequestKey.{key_in}
use Rattle.event_model.specs.declared.notes.Note.TheVariants as note
use Rattle.event_model.specs.Same.{RequestName}
use Rattle.event_model.specs.Events.{exchange_lifetime}
use Rattle.event_model.specs.KeptAnswers.{max_answers, is_use_of, is_named_among, names_used}
use Rattle.journal_model.specs.declared.steps.Step.{Step}
use Rattle.journal_model.specs.declared.steps.StepKind.TheVariants as step
use Rattle.journal_model.specs.declared.rows.Row.{Row}
use Rattle.journal_model.specs.Journal.{events}
use Rattle.journal_model.specs.Requests.{is_later_block}
use Rattle.journal_model.specs.PlacedRows.{Within, Placed, last_row}
use Rattle.journal_model.specs.BodyFormers.{last_kept}

-- Returns the last row that used the kept answer of a name, if there is one. The row kept such an
-- answer, or read it.
abbrev pub last_use : RequestName → List Row → Option Placed
last_use name rows = last_row (λ r. list_any (is_use_of name) r.notes) rows

-- A step that handles a request for a block above 0, whose peer and key are this name.
pub record AsksFurther (s : Step) (name : RequestName) : Type 0 where
  pub heard : s.kind ≡ step.Admit
  pub message : Message
  pub read : reading s.datagram ≡ Ok message
  pub asks : role_of message.kind message.code ≡ role.Request
  pub further : is_later_block message ≡ true
  pub peer_is : s.peer ≡ name.0
  pub key_is : key_in message ≡ name.1

-- An answer of a name that can be read after rows at a moment. A row kept one, it was last used
-- less than 247 seconds ago, and the name is among the 64 that were used last.
pub record CanBeRead (before : List Row) (moment : ℕ) (name : RequestName) : Type 0 where
  pub kept : Placed
  pub kept_is : last_kept name before ≡ Some kept
  pub used : Placed
  pub used_is : last_use name before ≡ Some used
  pub young : moment < used.row.moment.0 + exchange_lifetime
  pub among_last : is_named_among (take max_answers (names_used (events before))) name ≡ true

-- The sentence: a kept answer is read only for its own request, and only while it lives (RFC 7959
-- section 2.4).
pub record KeptAnswers (rows : List Row) : Type 0 where
  -- The row handles a request for a block above 0, with the peer and the key of that answer.
  pub asked : (before : List Row) (r : Row) (peer : Peer) (key : List ℕ)
      → Within rows before r
      → IsAmong r.notes (note.Used peer key)
      → AsksFurther r.step (peer, key)
  -- The answer was last used less than 247 seconds ago, and is among the 64 that were used last.
  pub lives : (before : List Row) (r : Row) (peer : Peer) (key : List ℕ)
      → Within rows before r
      → IsAmong r.notes (note.Used peer key)
      → CanBeRead before r.moment.0 (peer, key)
