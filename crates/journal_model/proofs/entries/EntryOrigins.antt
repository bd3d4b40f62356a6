-- Which steps note an entry, and where it comes from: commits, responses that complete a fetch, and
-- beginnings; it comes next after the history. Each other step notes none.
use Rattle.std.proofs.Common.{
  ◌≡◌,
  ℕ,
  Bool,
  true,
  List,
  [],
  Option,
  Some,
  None,
  Ok,
  refl,
  sym,
  ap,
  subst,
  ◌∙◌,
}
use Rattle.message_model.specs.declared.messages.Role.TheVariants as role
use Rattle.message_model.specs.Message.{Message, role_of}
use Rattle.message_model.specs.Reading.{reading}
use Rattle.event_model.specs.Fetches.{Request}
use Rattle.journal_model.specs.Responses.{fetch_of, response_effects}
use Rattle.event_model.specs.declared.notes.Note.{Note}
use Rattle.journal_model.specs.declared.steps.Step.{Step}
use Rattle.journal_model.specs.declared.steps.StepKind.{StepKind}
use Rattle.journal_model.specs.declared.steps.StepKind.TheVariants as step
use Rattle.journal_model.specs.declared.rows.Row.{Row}
use Rattle.journal_model.specs.Journal.{events, entries}
use Rattle.journal_model.specs.Commits.{commit_effects}
use Rattle.journal_model.specs.Rows.{effects}
use Rattle.journal_model.specs.FetchCompletions.{EndsBody}
use Rattle.journal_model.proofs.NoteKinds.{empty-entries_in}
use Rattle.journal_model.proofs.EntriesNoted.{entries_in, NotesNext, none}
use Rattle.journal_model.proofs.notes.BeginNotes.{beginning-NotesNext}
use Rattle.journal_model.proofs.notes.StepTable.{StepNoted, effects-StepNoted}
use Rattle.journal_model.proofs.notes.StepTable as noted
use Rattle.journal_model.proofs.entries.QuietSteps.{
  keep_effects-entries_in,
  lookup_effects-entries_in,
  read_effects-entries_in,
  write_effects-entries_in,
  tick_effects-entries_in,
}
use Rattle.journal_model.proofs.entries.ChangeEntries.{
  commit_effects-ChangeEntry,
  ChangeEntry-NotesNext,
}
use Rattle.journal_model.proofs.entries.ResponseEntries.{
  ends_fetch_of,
  no_fetch-entries_in,
  EntryHeard,
  silent,
  ends,
  response_effects-EntryHeard,
}

-- where the entry of a step comes from, and that it comes next
pub data EntryOrigin (kind : StepKind) (rows : List Row) (moment : ℕ) (s : Step)
    (notes : List Note) : Type 0 where
  nowhere : entries_in notes ≡ [] → EntryOrigin kind rows moment s notes
  commit : (place : ℕ)
      → kind ≡ step.Commit place
      → NotesNext (entries rows) moment notes
      → EntryOrigin kind rows moment s notes
  completion : (kind ≡ step.Admit)
      → (m : Message)
      → reading s.datagram ≡ Ok m
      → role_of m.kind m.code ≡ role.Response
      → (request : Request)
      → fetch_of s m (events rows) ≡ Some request
      → EndsBody rows s m
      → ends_fetch_of s.peer notes ≡ true
      → NotesNext (entries rows) moment notes
      → EntryOrigin kind rows moment s notes
  begun : (first : ℕ)
      → kind ≡ step.Begin first
      → NotesNext (entries rows) moment notes
      → EntryOrigin kind rows moment s notes

-- whatever a step does
pub effects-EntryOrigin : (kind : StepKind) (starved : Bool) (rows : List Row) (moment : ℕ)
    (s : Step)
    → EntryOrigin kind rows moment s (effects kind starved rows moment s).notes
effects-EntryOrigin kind starved rows moment s =
    by (effects kind starved rows moment s).notes (effects-StepNoted kind starved rows moment s)
  where
    heard_entry : (m : Message) (ns : List Note)
        → kind ≡ step.Admit
        → reading s.datagram ≡ Ok m
        → role_of m.kind m.code ≡ role.Response
        → ns ≡ (response_effects rows moment s m).notes
        → (o : Option Request)
        → fetch_of s m (events rows) ≡ o
        → EntryHeard rows moment s m ns
        → EntryOrigin kind rows moment s ns
    heard_entry m ns here read responds is o e (silent h) = nowhere h
    heard_entry m ns here read responds is None e (ends body h next) =
        nowhere (ap entries_in is ∙ no_fetch-entries_in rows moment s m e)
    heard_entry m ns here read responds is (Some request) e (ends body h next) =
        completion here m read responds request e body h next

    by : (ns : List Note)
        → StepNoted kind starved rows moment s ns
        → EntryOrigin kind rows moment s ns
    by ns (noted.nothing blank) = nowhere (ap entries_in blank)
    by ns (noted.write m here read asks is) =
        nowhere (ap entries_in is ∙ write_effects-entries_in (events rows) moment s m)
    by ns (noted.lookup m here read at is) =
        nowhere (ap entries_in is ∙ lookup_effects-entries_in rows moment s m)
    by ns (noted.source m here read at is) =
        nowhere (ap entries_in is ∙ read_effects-entries_in rows moment s m)
    by ns (noted.empty here all) = nowhere (empty-entries_in ns all)
    by ns (noted.response m here read responds is) =
        heard_entry m ns here read responds is (fetch_of s m (events rows)) refl
        (subst (EntryHeard rows moment s m) (sym is)
        (response_effects-EntryHeard rows moment s m))
    by ns (noted.commit m place commits read is) =
        commit place commits (subst (NotesNext (entries rows) moment) (sym is)
        (ChangeEntry-NotesNext (entries rows) moment
        (commit_effects rows moment place s m).notes _
        (commit_effects-ChangeEntry rows moment place s m)))
    by ns (noted.failed place commits is) = commit place commits (none (ap entries_in is))
    by ns (noted.keep m body tag keeps is) =
        nowhere (ap entries_in is ∙ keep_effects-entries_in s m body tag)
    by ns (noted.tick ticks is) =
        nowhere (ap entries_in is ∙ tick_effects-entries_in starved rows moment s)
    by ns (noted.begins first begins is) = begun first begins
        (subst (NotesNext (entries rows) moment) (sym is)
        (beginning-NotesNext starved (entries rows) moment s first))

-- so the notes have no entry, or one that comes next
pub EntryOrigin-NotesNext : (kind : StepKind) (rows : List Row) (moment : ℕ) (s : Step)
    (notes : List Note)
    → EntryOrigin kind rows moment s notes
    → NotesNext (entries rows) moment notes
EntryOrigin-NotesNext kind rows moment s notes (nowhere h) = none h
EntryOrigin-NotesNext kind rows moment s notes (commit place e next) = next
EntryOrigin-NotesNext kind rows moment s notes
    (completion e m read responds request fetch body h next) =
    next
EntryOrigin-NotesNext kind rows moment s notes (begun first e next) = next
