-- The one table of what each step notes: nothing, or what a write, a lookup, a read of a
-- registration, an empty message, a response, a commit, a keep, a tick or a beginning notes, or
-- that a commit failed because memory ran out.
use Rattle.std.proofs.Common.{
  ◌≡◌,
  ℕ,
  Bool,
  true,
  false,
  List,
  [],
  ◌∷◌,
  Option,
  Some,
  None,
  Result,
  Ok,
  Err,
  refl,
  ap,
}
use Rattle.message_model.specs.declared.messages.Role.{Role}
use Rattle.message_model.specs.declared.messages.Role.TheVariants as role
use Rattle.message_model.specs.declared.messages.Unread.{Unread}
use Rattle.message_model.specs.declared.requests.Path.{Path}
use Rattle.message_model.specs.declared.requests.Path.TheVariants as path
use Rattle.message_model.specs.Message.{Message, role_of}
use Rattle.message_model.specs.OptionTable.{first_bad_option}
use Rattle.message_model.specs.Reading.{reading}
use Rattle.message_model.specs.Request.{path_in}
use Rattle.event_model.specs.declared.notes.Note.{Note}
use Rattle.event_model.specs.declared.notes.Note.TheVariants as note
use Rattle.journal_model.specs.declared.steps.Step.{Step}
use Rattle.journal_model.specs.declared.steps.StepKind.{StepKind}
use Rattle.journal_model.specs.declared.steps.StepKind.TheVariants as step
use Rattle.journal_model.specs.declared.rows.Row.{Row}
use Rattle.journal_model.specs.Journal.{events, entries}
use Rattle.journal_model.specs.Effects.{Reply, answering}
use Rattle.journal_model.specs.Requests.{
  Method,
  get,
  post,
  put,
  delete,
  other_method,
  method_of,
  refusal_of_request,
  is_lookup,
  is_location,
  reads_registration,
}
use Rattle.journal_model.specs.Looks.{keep_effects}
use Rattle.journal_model.specs.Lookups.{lookup_effects, read_effects}
use Rattle.journal_model.specs.Writes.{write_effects}
use Rattle.journal_model.specs.Responses.{response_effects}
use Rattle.journal_model.specs.Commits.{commit_effects}
use Rattle.journal_model.specs.Beginnings.{beginning}
use Rattle.journal_model.specs.Ticks.{tick_effects}
use Rattle.journal_model.specs.Rows.{
  served_on_location,
  served,
  request_answered,
  message_effects,
  heard,
  done,
  kept_body,
  effects,
}
use Rattle.journal_model.proofs.NoteKinds.{of_empty, are}
use Rattle.journal_model.proofs.StepNotes.{look_effects-notes, acknowledged-notes, reset-notes}
use Rattle.journal_model.proofs.notes.SilentSteps.{refusal_notes, unread_notes, looked_notes}

-- what a step of a kind notes, after rows at a moment
pub data StepNoted (kind : StepKind) (starved : Bool) (rows : List Row) (moment : ℕ) (s : Step)
    (notes : List Note) : Type 0 where
  nothing : notes ≡ [] → StepNoted kind starved rows moment s notes
  write : (m : Message)
      → kind ≡ step.Admit
      → reading s.datagram ≡ Ok m
      → role_of m.kind m.code ≡ role.Request
      → notes ≡ (write_effects (events rows) moment s m).notes
      → StepNoted kind starved rows moment s notes
  lookup : (m : Message)
      → kind ≡ step.Admit
      → reading s.datagram ≡ Ok m
      → is_lookup (path_in m) ≡ true
      → notes ≡ (lookup_effects rows moment s m).notes
      → StepNoted kind starved rows moment s notes
  source : (m : Message)
      → kind ≡ step.Admit
      → reading s.datagram ≡ Ok m
      → reads_registration m ≡ true
      → notes ≡ (read_effects rows moment s m).notes
      → StepNoted kind starved rows moment s notes
  empty : kind ≡ step.Admit → are of_empty notes ≡ true → StepNoted kind starved rows moment s notes
  response : (m : Message)
      → kind ≡ step.Admit
      → reading s.datagram ≡ Ok m
      → role_of m.kind m.code ≡ role.Response
      → notes ≡ (response_effects rows moment s m).notes
      → StepNoted kind starved rows moment s notes
  commit : (m : Message) (place : ℕ)
      → kind ≡ step.Commit place
      → reading s.datagram ≡ Ok m
      → notes ≡ (commit_effects rows moment place s m).notes
      → StepNoted kind starved rows moment s notes
  failed : (place : ℕ)
      → kind ≡ step.Commit place
      → notes ≡ note.Failed place ∷ []
      → StepNoted kind starved rows moment s notes
  keep : (m : Message) (body tag : List ℕ)
      → kind ≡ step.Keep body tag
      → notes ≡ (keep_effects s m body tag).notes
      → StepNoted kind starved rows moment s notes
  tick : kind ≡ step.Tick
      → notes ≡ (tick_effects starved rows moment s).notes
      → StepNoted kind starved rows moment s notes
  begins : (first : ℕ)
      → kind ≡ step.Begin first
      → notes ≡ (beginning starved (entries rows) moment s first).notes
      → StepNoted kind starved rows moment s notes

-- a request on a registration as it is heard
there-StepNoted : (w : Method) (starved : Bool) (rows : List Row) (moment : ℕ) (s : Step)
    (m : Message)
    → reading s.datagram ≡ Ok m
    → role_of m.kind m.code ≡ role.Request
    → is_location (path_in m) ≡ true
    → method_of m.code ≡ w
    → StepNoted step.Admit starved rows moment s (served_on_location w rows moment s m).notes
there-StepNoted get starved rows moment s m read asks at by =
    source m refl read (rw (at, by) refl) refl
there-StepNoted post starved rows moment s m read asks at by = write m refl read asks refl
there-StepNoted put starved rows moment s m read asks at by = write m refl read asks refl
there-StepNoted delete starved rows moment s m read asks at by = write m refl read asks refl
there-StepNoted other_method starved rows moment s m read asks at by = nothing refl

-- a request that is served as it is heard
served-StepNoted : (p : Path) (starved : Bool) (rows : List Row) (moment : ℕ) (s : Step)
    (m : Message)
    → reading s.datagram ≡ Ok m
    → role_of m.kind m.code ≡ role.Request
    → path_in m ≡ p
    → StepNoted step.Admit starved rows moment s (served p rows moment s m).notes
unfolding served
served-StepNoted path.Core starved rows moment s m read asks at =
    nothing (look_effects-notes (entries rows) moment s m)
served-StepNoted path.Res starved rows moment s m read asks at =
    lookup m refl read (ap is_lookup at) refl
served-StepNoted path.Ep starved rows moment s m read asks at =
    lookup m refl read (ap is_lookup at) refl
served-StepNoted path.SimpleRd starved rows moment s m read asks at = write m refl read asks refl
served-StepNoted path.Rd starved rows moment s m read asks at = write m refl read asks refl
served-StepNoted (path.Location number) starved rows moment s m read asks at =
    there-StepNoted (method_of m.code) starved rows moment s m read asks (ap is_location at) refl
served-StepNoted path.Other starved rows moment s m read asks at = nothing refl

-- a request as it is heard, refused or served
request-StepNoted : (refusal : Option Reply) (starved : Bool) (rows : List Row) (moment : ℕ)
    (s : Step) (m : Message)
    → reading s.datagram ≡ Ok m
    → role_of m.kind m.code ≡ role.Request
    → StepNoted step.Admit starved rows moment s (request_answered refusal rows moment s m).notes
request-StepNoted (Some refusal) starved rows moment s m read asks =
    nothing (refusal_notes m.kind (first_bad_option m.options) s m refusal)
request-StepNoted None starved rows moment s m read asks =
    served-StepNoted (path_in m) starved rows moment s m read asks refl

-- a message as it is heard
role-StepNoted : (r : Role) (starved : Bool) (rows : List Row) (moment : ℕ) (s : Step) (m : Message)
    → reading s.datagram ≡ Ok m
    → role_of m.kind m.code ≡ r
    → StepNoted step.Admit starved rows moment s (message_effects r starved rows moment s m).notes
unfolding answering
role-StepNoted role.Ping starved rows moment s m read is = nothing refl
role-StepNoted role.Acknowledgement starved rows moment s m read is =
    empty refl (acknowledged-notes s.peer m.mid (events rows))
role-StepNoted role.Reset starved rows moment s m read is =
    empty refl (reset-notes s.peer m.mid (events rows))
role-StepNoted role.Request true rows moment s m read is = nothing refl
role-StepNoted role.Request false rows moment s m read is =
    request-StepNoted (refusal_of_request m) false rows moment s m read is
role-StepNoted role.Response true rows moment s m read is = nothing refl
role-StepNoted role.Response false rows moment s m read is = response m refl read is refl
role-StepNoted role.Ignored starved rows moment s m read is = nothing refl

-- any step
pub effects-StepNoted : (kind : StepKind) (starved : Bool) (rows : List Row) (moment : ℕ) (s : Step)
    → StepNoted kind starved rows moment s (effects kind starved rows moment s).notes
unfolding effects answering
effects-StepNoted step.Admit starved rows moment s = by (reading s.datagram) refl
  where
    by : (read : Result Message Unread)
        → reading s.datagram ≡ read
        → StepNoted step.Admit starved rows moment s (heard starved rows moment s read).notes
    by (Err fault) e = nothing (unread_notes s fault)
    by (Ok m) e = role-StepNoted (role_of m.kind m.code) starved rows moment s m e refl
effects-StepNoted step.Look starved rows moment s =
    nothing (looked_notes starved (entries rows) moment s (reading s.datagram))
effects-StepNoted (step.Commit place) starved rows moment s = by starved (reading s.datagram) refl
  where
    by : (b : Bool) (read : Result Message Unread)
        → reading s.datagram ≡ read
        → StepNoted (step.Commit place) starved rows moment s
        (done b rows moment place s read).notes
    by b (Err fault) e = nothing refl
    by true (Ok m) e = failed place refl refl
    by false (Ok m) e = commit m place refl e refl
effects-StepNoted (step.Keep body tag) starved rows moment s = by starved (reading s.datagram)
  where
    by : (b : Bool) (read : Result Message Unread)
        → StepNoted (step.Keep body tag) starved rows moment s (kept_body b s read body tag).notes
    by b (Err fault) = nothing refl
    by true (Ok m) = nothing refl
    by false (Ok m) = keep m body tag refl refl
effects-StepNoted step.Tick starved rows moment s = tick refl refl
effects-StepNoted (step.Begin first) starved rows moment s = begins first refl refl
