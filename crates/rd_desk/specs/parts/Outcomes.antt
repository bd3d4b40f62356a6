-- What is planned for a write before anything changes: its answer, and the version with its entry.
use Rattle.std.specs.Prelude.{◌≡◌, ℕ, ◌≤◌, List, [], ◌∷◌, ◌++◌, Option, Some, None, IfSome}
use Rattle.std.specs.Arc.{arc_value}
use Rattle.history_model.specs.declared.entries.Entry.{Entry}
use Rattle.history_model.specs.Refusals.{change_refusal}
use Rattle.history_model.specs.Replay.{replay, number_about}
use Rattle.history_model.specs.Versions.{Version, VersionStandsFor}
use Rattle.event_model.specs.declared.notes.Note.{Note}
use Rattle.event_model.specs.declared.notes.Note.TheVariants as note
use Rattle.journal_model.specs.Changes as changes
use Rattle.observation.specs.declared.change_kinds.ChangeKind.{ChangeKind}
use Rattle.observation.specs.ChangeKinds.{kind_of}
use Rattle.rd_desk.specs.declared.write.outcomes.Entering.{Entering}
use Rattle.rd_desk.specs.declared.write.outcomes.Outcome.{Outcome}
use Rattle.rd_desk.specs.declared.write.short_replies.ShortReply.{ShortReply}
use Rattle.rd_desk.specs.parts.Replies.{short_said}
use Rattle.message_model.specs.Codes as codes_of
use Rattle.history_model.specs.declared.refusals.Refusal.{Refusal}
use Rattle.journal_model.specs.Effects.{diagnostic}

-- A version that has this entry after a history. The entry is not refused. The number is that of
-- its registration, and the kind is that of its change.
pub record HasEntry (history : List Entry) (last_sweep : ℕ) (entry : Entry) (version : Version)
    (number : ℕ) (kind : ChangeKind) : Type 0 where
  pub stands : VersionStandsFor 0 (history ++ entry ∷ []) version
  pub swept : version.swept ≡ last_sweep
  pub accepted : change_refusal 0 history entry ≡ None
  pub about : number ≡ number_about (replay history) entry.moment.0 entry.change
  pub is_of : kind ≡ kind_of entry.change

-- States the same of an entry that is ready.
abbrev pub IsEntering : List Entry → ℕ → Entry → Entering → Type 0
IsEntering history swept entry e =
    HasEntry history swept entry (arc_value e.version) e.number e.kind

-- States that what is ready belongs to a moment. Its entry was made then, and its version was not
-- swept later.
abbrev pub IsReadyAt : ℕ → Entering → Type 0
IsReadyAt moment e = ((arc_value e.version).at ≡ moment) × ((arc_value e.version).swept ≤ moment)

-- States the same of the outcome of a write, if it makes an entry.
abbrev pub IsTimely : ℕ → Outcome → Type 0
IsTimely moment o = IfSome o.entering (IsReadyAt moment)

-- States which notes a write has. A write that is refused has none. Otherwise the first note is the
-- entry that is ready, and further ones follow.
abbrev pub AreNotes : List Entry → ℕ → List Note → List Note → Option Entering → Type 0
AreNotes history swept further notes None = notes ≡ []
AreNotes history swept further notes (Some e) =
    (entry : Entry) × (notes ≡ note.Entered entry ∷ further) × IsEntering history swept entry e

-- An outcome with the answer and the notes that are meant, for a version that is swept up to a
-- moment and stands for a history. An accepted change adds further notes to its entry.
pub record IsPlanned (history : List Entry) (swept : ℕ) (further : List Note)
    (meant : changes.Outcome) (o : Outcome) : Type 0 where
  pub said : short_said o.reply ≡ meant.reply
  pub notes : AreNotes history swept further meant.notes o.entering

-- States that the outcome of a write belongs to a moment. If it makes an entry, the entry has that
-- moment.
abbrev pub IsMadeAt : ℕ → changes.Outcome → Type 0
IsMadeAt moment meant =
    (entry : Entry) (more : List Note)
    → meant.notes ≡ note.Entered entry ∷ more
    → entry.moment.0 ≡ moment

-- States that the change is refused, and this is the answer.
abbrev pub IsRefusedWith : Option Refusal → ShortReply → Type 0
IsRefusedWith None r = ⊥
IsRefusedWith (Some why) r = short_said r ≡ (changes.refused_as why).reply

-- States that the body is refused, and this is the answer.
abbrev pub IsBadBody : changes.BodyRead → ShortReply → Type 0
IsBadBody (changes.bad_body payload) r =
    short_said r ≡ diagnostic codes_of.bad_request payload
IsBadBody (changes.good_body links) r = ⊥
