-- Steps that note nothing: refusals, datagrams that are no message, and looks.
use Rattle.std.proofs.Common.{
  ◌≡◌,
  ℕ,
  Bool,
  true,
  false,
  List,
  [],
  Option,
  Some,
  None,
  Result,
  Ok,
  Err,
  refl,
}
use Rattle.message_model.specs.declared.messages.Kind4.{Kind4}
use Rattle.message_model.specs.declared.messages.Kind4.TheVariants.{Con, Non, Ack, Rst}
use Rattle.message_model.specs.declared.messages.Unread.{Unread}
use Rattle.message_model.specs.declared.messages.Unread.TheVariants as unread
use Rattle.message_model.specs.Message.{Message}
use Rattle.journal_model.specs.declared.steps.Step.{Step}
use Rattle.history_model.specs.declared.entries.Entry.{Entry}
use Rattle.journal_model.specs.Effects.{Reply, answering}
use Rattle.journal_model.specs.Rows.{refusal_answered, unread_answered}
use Rattle.journal_model.specs.Looks.{looked}
use Rattle.journal_model.proofs.StepNotes.{look_effects-notes}

-- a request that is refused
pub refusal_notes : (kind : Kind4) (bad : Option ℕ) (s : Step) (m : Message) (refusal : Reply)
    → (refusal_answered kind bad s m refusal).notes ≡ []
unfolding answering
refusal_notes Non (Some number) s m refusal = refl
refusal_notes Non None s m refusal = refl
refusal_notes Con bad s m refusal = refl
refusal_notes Ack bad s m refusal = refl
refusal_notes Rst bad s m refusal = refl

-- what is no message
pub unread_notes : (s : Step) (fault : Unread) → (unread_answered s fault).notes ≡ []
unread_notes s unread.Short = refl
unread_notes s unread.Version = refl
unread_notes s (unread.Format Con mid) = refl
unread_notes s (unread.Format Non mid) = refl
unread_notes s (unread.Format Ack mid) = refl
unread_notes s (unread.Format Rst mid) = refl

-- a look
pub looked_notes : (starved : Bool) (history : List Entry) (moment : ℕ) (s : Step)
    (read : Result Message Unread)
    → (looked starved history moment s read).notes ≡ []
unfolding answering
looked_notes starved history moment s (Err fault) = refl
looked_notes true history moment s (Ok m) = refl
looked_notes false history moment s (Ok m) = look_effects-notes history moment s m
