-- Which row built the body of a message that a row sends: its own, the look whose job a keep ends,
-- or an earlier one. An earlier row built it if a later block is read from a kept answer, or a
-- notification is retransmitted.
use Rattle.std.specs.Prelude.{ℕ, Bool, true, false, not, ◌&&◌, ◌==◌, List, Option, Some, None}
use Rattle.std.specs.Prelude.{is_some, option_and_then, Result, Ok, Err, if◌then◌else◌}
use Rattle.std.specs.List.{list_any}
use Rattle.rd_base.specs.declared.peers.Peer.{Peer}
use Rattle.message_model.specs.declared.messages.Unread.{Unread}
use Rattle.message_model.specs.Message.{Message}
use Rattle.message_model.specs.Reading.{reading}
use Rattle.message_model.specs.RequestKey.{key_in}
use Rattle.event_model.specs.declared.notes.Note.{Note}
use Rattle.event_model.specs.declared.notes.Note.TheVariants as note
use Rattle.event_model.specs.Same.{RequestName, is_same_peer, is_same_request}
use Rattle.event_model.specs.Flights.{is_again_of}
use Rattle.event_model.specs.KeptAnswers.{answer_kept}
use Rattle.journal_model.specs.declared.steps.StepKind.{StepKind}
use Rattle.journal_model.specs.declared.steps.StepKind.TheVariants as step
use Rattle.journal_model.specs.declared.rows.Row.{Row}
use Rattle.journal_model.specs.Journal.{is_look}
use Rattle.journal_model.specs.Requests.{is_later_block}
use Rattle.journal_model.specs.PlacedRows.{Placed, last_row}

-- Returns the last look of a worker, whose job a keep ends.
abbrev pub look_of : ℕ → List Row → Option Placed
look_of worker rows = last_row (λ r. is_look r.step.kind && r.step.worker == worker) rows

-- Returns the row that built the body which a row kept: that row, or the look whose job it ends.
abbrev pub former_of_body : StepKind → Placed → Option Placed
former_of_body (step.Keep body tag) p = look_of p.row.step.worker p.before
former_of_body _ p = Some p

-- Returns the last row that kept the answer of a name.
abbrev pub last_kept : RequestName → List Row → Option Placed
last_kept name rows = last_row (λ r. list_any (λ n. is_some (answer_kept name n)) r.notes) rows

-- Returns the row that built the kept answer of a name.
abbrev pub former_of_kept : RequestName → List Row → Option Placed
former_of_kept name rows =
    option_and_then (λ p. former_of_body p.row.step.kind p) (last_kept name rows)

-- Returns whether a note builds the notification with a peer and a Message ID.
abbrev pub forms_notification : Peer → ℕ → Note → Bool
forms_notification peer mid (note.Formed p token body (Some m)) = is_same_peer p peer && m == mid
forms_notification peer mid _ = false

-- Returns the row that built the notification with a peer and a Message ID.
abbrev pub former_of_notification : Peer → ℕ → List Row → Option Placed
former_of_notification peer mid rows = last_row
    (λ r. list_any (forms_notification peer mid) r.notes) rows

-- Returns whether a note reads the kept answer of a name.
abbrev pub reads_answer : RequestName → Note → Bool
reads_answer name (note.Used peer key) = is_same_request (peer, key) name
reads_answer name _ = false

-- Returns whether a later block is read from a kept answer. The request is for a block with a
-- number above 0. Its row notes that it reads the kept answer of the request's own peer and key.
abbrev pub reads_further_block : Result Message Unread → Placed → Bool
reads_further_block (Err fault) here = false
reads_further_block (Ok m) here =
    is_later_block m && list_any (reads_answer (here.row.step.peer, key_in m)) here.row.notes

-- Returns whether a row retransmits a notification to a peer with a Message ID.
abbrev pub sends_again : Peer → ℕ → Placed → Bool
sends_again peer mid here = list_any (is_again_of peer mid) here.row.notes

-- Returns whether what a row sends repeats a body of an earlier row: a later block of a kept
-- answer, or a notification that is retransmitted.
abbrev pub repeats_body : StepKind → Peer → ℕ → Placed → Bool
repeats_body step.Tick peer mid here = sends_again peer mid here
repeats_body (step.Keep body tag) peer mid here = false
repeats_body _ peer mid here = reads_further_block (reading here.row.step.datagram) here

-- Returns the row that built a later block: the one that built the kept answer of the request.
abbrev pub former_of_further : Result Message Unread → Placed → Option Placed
former_of_further (Err fault) here = Some here
former_of_further (Ok m) here = former_of_kept (here.row.step.peer, key_in m) here.before

-- Returns the row that built the body of a message which a row sends to a peer with a Message ID.
-- For a keep it is the look whose job it ends, for what repeats a body the row that built this, and
-- otherwise the row itself.
abbrev pub former_at : StepKind → Peer → ℕ → Placed → Option Placed
former_at (step.Keep body tag) peer mid here = look_of here.row.step.worker here.before
former_at step.Tick peer mid here =
    if sends_again peer mid here then former_of_notification peer mid here.before else Some here
former_at _ peer mid here =
    if reads_further_block (reading here.row.step.datagram) here
    then former_of_further (reading here.row.step.datagram) here else Some here

-- Returns the row in which a worker was asked for what a row sends: that row itself, or, for a
-- keep, the look whose job it ends.
abbrev pub asker_at : StepKind → Placed → Option Placed
asker_at (step.Keep body tag) here = look_of here.row.step.worker here.before
asker_at _ here = Some here

-- ---- if nothing is known of keeps, as in a journal of a desk

-- Returns whether a step is a keep.
abbrev pub is_keep : StepKind → Bool
is_keep (step.Keep body tag) = true
is_keep _ = false

-- Returns whether a row is one of a keep.
abbrev pub is_of_keep : Option Placed → Bool
is_of_keep None = false
is_of_keep (Some p) = is_keep p.row.step.kind

-- Returns whether a later block is read from an answer that a keep kept.
abbrev pub reads_body_of_keep : Result Message Unread → Placed → Bool
reads_body_of_keep (Err fault) here = false
reads_body_of_keep (Ok m) here =
    reads_further_block (Ok m) here
    && is_of_keep (last_kept (here.row.step.peer, key_in m) here.before)

-- Returns whether the body of what a row sends was built in a row: the row is no keep, and reads no
-- answer that a keep kept.
abbrev pub is_formed_in_rows : StepKind → Placed → Bool
is_formed_in_rows (step.Keep body tag) here = false
is_formed_in_rows step.Tick here = true
is_formed_in_rows _ here = not (reads_body_of_keep (reading here.row.step.datagram) here)
