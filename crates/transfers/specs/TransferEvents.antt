-- The events of a journal that a table of transfers stands for (RFC 7959 sections 2.4 and 2.5).
use Rattle.std.specs.Prelude.{◌≡◌, ℕ, List, ◌∷◌, map, take, Option, Some, None, option_map}
use Rattle.std.specs.Borrow.{Bor}
use Rattle.rd_base.specs.declared.tags.Tag.{Tag}
use Rattle.rd_base.specs.declared.peers.Peer.{Peer}
use Rattle.message_model.specs.declared.blocks.Block.{Block}
use Rattle.event_model.specs.declared.notes.Note.{Note}
use Rattle.event_model.specs.declared.notes.Note.TheVariants as note
use Rattle.event_model.specs.Same.{RequestName}
use Rattle.event_model.specs.Events.{Event, last_event, event_moment, last_said}
use Rattle.event_model.specs.Uploads.{Upload, live_upload, live_uploads, uploads_at}
use Rattle.event_model.specs.KeptAnswers.{
  max_answers,
  Answer,
  answer_kept,
  is_use_of,
  names_used,
  KeptAnswer,
}
use Rattle.transfers.specs.declared.collecting.Upload.{Upload as BlockAnswer}
use Rattle.transfers.specs.Uploading.{young_uploads}
use Rattle.transfers.specs.BlockAnswers.{answer_to}
use Rattle.transfers.specs.Keeping.{NamedAnswer}

-- What a table of transfers shows: its uploads, in the order in which they began, and its kept
-- answers, the latest used first.
pub record Table : Type 0 where
  pub uploads : List Upload
  pub answers : List KeptAnswer

-- Uploads that stand for events at a moment: those that are young then are the live ones by the
-- events.
pub record UploadsStandFor (moment : ℕ) (events : List Event) (us : List Upload) : Type 0 where
  pub live : young_uploads moment us ≡ uploads_at moment events

-- Returns the answer that was kept last under a name, whether its last use is young or old, with
-- the moment of that use.
abbrev pub answer_of : List Event → RequestName → Option KeptAnswer
answer_of events name =
    option_map (λ answer.
    record {
      name = name;
      answer = answer;
      moment = event_moment
          (last_event (is_use_of name) events);
    }) (last_said (answer_kept name) events)

-- Kept answers that stand for events. They are those of the 64 names that were used last, whether
-- young or old, and each of these names has one.
pub record AnswersStandFor (events : List Event) (xs : List KeptAnswer) : Type 0 where
  pub kept : map (λ x. Some x) xs ≡ map (answer_of events) (take max_answers (names_used events))

-- A table that stands for events at a moment: its uploads and its kept answers do.
pub record TransfersStandFor (moment : ℕ) (events : List Event) (t : Table) : Type 0 where
  pub uploads : UploadsStandFor moment events t.uploads
  pub answers : AnswersStandFor events t.answers

-- Returns the answer to a block of the upload of a name after these events.
unfoldable pub block_answer : ℕ → RequestName → Block → List ℕ → List Event → BlockAnswer
block_answer now name b piece events =
    answer_to b piece (live_upload now name events) (live_uploads now events)

-- Returns the note that an answer is kept.
abbrev pub kept_note : NamedAnswer → Note
kept_note a = note.Kept a.name.0 a.name.1 a.answer.body a.answer.tag

-- Returns an answer as it is read.
abbrev pub answer_read : Bor (List ℕ) × Tag → Answer
answer_read r = record { body = r.0.now; tag = r.1.0 }

-- States what reading a kept answer does. If one is found, the table also stands for its use;
-- otherwise the table does not change.
abbrev pub AfterReading : Option Answer → ℕ → Peer → List ℕ → Table → Table → Type 0
AfterReading None now peer key old new = new ≡ old
AfterReading (Some answer) now peer key old new =
    (at : ℕ) (events : List Event) (e : Event)
    → e.note ≡ note.Used peer key
    → e.moment ≡ now
    → TransfersStandFor at events old
    → TransfersStandFor at (e ∷ events) new
