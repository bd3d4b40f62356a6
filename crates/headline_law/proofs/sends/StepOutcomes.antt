-- The outcome of each kind of step but a tick: plain messages, a look, a lookup, or the keep of a
-- look.
use Rattle.std.proofs.Common.{
  ◌≡◌,
  ℕ,
  Bool,
  true,
  false,
  List,
  [],
  Option,
  Some,
  None,
  Result,
  Ok,
  Err,
  refl,
  sym,
  ap,
  ◌∙◌,
  subst,
}
use Rattle.std.specs.List.{list_any}
use Rattle.std.proofs.lemmas.Bool.{false≢true}
use Rattle.rd_base.specs.declared.peers.Peer.{Peer}
use Rattle.message_model.specs.declared.messages.Role.{Role}
use Rattle.message_model.specs.declared.messages.Role.TheVariants as role
use Rattle.message_model.specs.declared.messages.Unread.{Unread}
use Rattle.message_model.specs.declared.requests.Path.{Path}
use Rattle.message_model.specs.declared.requests.Path.TheVariants as path
use Rattle.message_model.specs.Message.{Message, role_of}
use Rattle.message_model.specs.OptionTable.{first_bad_option}
use Rattle.message_model.specs.Reading.{reading}
use Rattle.message_model.specs.Request.{path_in}
use Rattle.message_model.specs.Spelling.{header_spelling, spelling}
use Rattle.event_model.specs.declared.notes.Note.{Note}
use Rattle.event_model.specs.declared.notes.Note.TheVariants as note
use Rattle.event_model.specs.declared.notes.Observer.{Observer}
use Rattle.journal_model.specs.Beginnings.{beginning}
use Rattle.journal_model.proofs.notes.BeginNotes.{beginning-notes, beginning-sent}
use Rattle.journal_model.specs.declared.steps.Step.{Step}
use Rattle.journal_model.specs.declared.steps.StepKind.TheVariants as step
use Rattle.journal_model.specs.declared.rows.Row.{Row}
use Rattle.journal_model.specs.Journal.{is_heard, events, entries}
use Rattle.journal_model.specs.Effects.{Effects, Reply, answering}
use Rattle.journal_model.specs.Requests.{
  Method,
  get,
  post,
  put,
  delete,
  other_method,
  method_of,
  refusal_of_request,
  is_lookup,
  is_location,
  reads_registration,
}
use Rattle.journal_model.specs.Looks.{look_effects, looked, keep_effects}
use Rattle.journal_model.specs.Lookups.{lookup_effects, read_effects}
use Rattle.journal_model.specs.Writes.{write_effects}
use Rattle.journal_model.specs.Commits.{commit_effects}
use Rattle.journal_model.specs.EmptyMessages.{acknowledged, reset}
use Rattle.journal_model.specs.Responses.{response_effects}
use Rattle.journal_model.specs.Rows.{
  served_on_location,
  served,
  request_answered,
  message_effects,
  heard,
  done,
  kept_body,
}
use Rattle.journal_model.proofs.NoteKinds.{of_write, of_empty, of_commit, of_response, are, none_of}
use Rattle.journal_model.proofs.StepNotes.{write_effects-notes, acknowledged-notes, reset-notes}
use Rattle.journal_model.proofs.notes.ChangeNotes.{commit_effects-notes, response_effects-notes}
use Rattle.journal_model.proofs.notes.SilentSteps.{refusal_notes, unread_notes}
use Rattle.journal_model.proofs.sends.PlainSteps.{
  ArePlain,
  SettledPlain,
  refusal_plain,
  refused_plain,
  starved_plain,
  unread_plain,
  write_plain,
}
use Rattle.headline_law.proofs.sends.PlainCommits.{commit_plain, response_plain}

-- the note keeps an answer, or adds an observer
abbrev pub is_keeping : Note → Bool
is_keeping (note.Kept peer key body current) = true
is_keeping (note.Watched o) = true
is_keeping _ = false

-- the outcome of a step
pub data StepOutcome (rows : List Row) (moment : ℕ) (s : Step) (e : Effects) : Type 0 where
  plain : ArePlain e.sent → list_any is_keeping e.notes ≡ false → StepOutcome rows moment s e
  look : (m : Message)
      → is_heard s.kind ≡ true
      → reading s.datagram ≡ Ok m
      → e ≡ look_effects (entries rows) moment s m
      → StepOutcome rows moment s e
  lookup : (m : Message)
      → is_heard s.kind ≡ true
      → reading s.datagram ≡ Ok m
      → is_lookup (path_in m) ≡ true
      → e ≡ lookup_effects rows moment s m
      → StepOutcome rows moment s e
  source : (m : Message)
      → is_heard s.kind ≡ true
      → reading s.datagram ≡ Ok m
      → reads_registration m ≡ true
      → e ≡ read_effects rows moment s m
      → StepOutcome rows moment s e
  keep : (m : Message) (body tag : List ℕ)
      → reading s.datagram ≡ Ok m
      → s.kind ≡ step.Keep body tag
      → e ≡ keep_effects s m body tag
      → StepOutcome rows moment s e

-- notes of a kind that keeps nothing
keeps_none : (kind : Note → Bool)
    → ((peer : Peer) (key body current : List ℕ) → kind (note.Kept peer key body current) ≡ false)
    → ((o : Observer) → kind (note.Watched o) ≡ false)
    → (notes : List Note)
    → are kind notes ≡ true
    → list_any is_keeping notes ≡ false
keeps_none kind kept watched notes h = none_of kind is_keeping never notes h
  where
    never : (n : Note) → kind n ≡ true → is_keeping n ≡ false
    never (note.Kept peer key body current) fits =
        absurd (false≢true (sym (kept peer key body current) ∙ fits))
    never (note.Watched o) fits = absurd (false≢true (sym (watched o) ∙ fits))
    never _ fits = refl

-- no notes
noted_nothing : (notes : List Note) → notes ≡ [] → list_any is_keeping notes ≡ false
noted_nothing notes none = ap (list_any is_keeping) none

-- a request that is heard
request_outcome : (rows : List Row) (moment : ℕ) (s : Step) (m : Message)
    → SettledPlain (events rows)
    → is_heard s.kind ≡ true
    → reading s.datagram ≡ Ok m
    → StepOutcome rows moment s (request_answered (refusal_of_request m) rows moment s m)
unfolding served answering
request_outcome rows moment s m settled hears read = by (refusal_of_request m) refl
  where
    write : StepOutcome rows moment s (write_effects (events rows) moment s m)
    write =
        plain (write_plain (events rows) moment s m settled)
        (keeps_none of_write (λ p k b c. refl) (λ o. refl)
        (write_effects (events rows) moment s m).notes
        (write_effects-notes (events rows) moment s m))

    there : (w : Method)
        → is_location (path_in m) ≡ true
        → method_of m.code ≡ w
        → StepOutcome rows moment s (served_on_location w rows moment s m)
    there get at is = source m hears read (rw (at, is) refl) refl
    there post at is = write
    there put at is = write
    there delete at is = write
    there other_method at is = plain tt refl

    on : (p : Path) → path_in m ≡ p → StepOutcome rows moment s (served p rows moment s m)
    on path.Core is = look m hears read refl
    on path.Res is = lookup m hears read (ap is_lookup is) refl
    on path.Ep is = lookup m hears read (ap is_lookup is) refl
    on path.SimpleRd is = write
    on path.Rd is = write
    on (path.Location number) is = there (method_of m.code) (ap is_location is) refl
    on path.Other is = plain tt refl

    by : (refusal : Option Reply)
        → refusal_of_request m ≡ refusal
        → StepOutcome rows moment s (request_answered refusal rows moment s m)
    by (Some refusal) e =
        plain (refused_plain m.kind (first_bad_option m.options) s m refusal
        (refusal_plain m refusal e))
        (noted_nothing _ (refusal_notes m.kind (first_bad_option m.options) s m refusal))
    by None e = on (path_in m) refl

-- a message that is heard
role_outcome : (r : Role) (starved : Bool) (rows : List Row) (moment : ℕ) (s : Step) (m : Message)
    → SettledPlain (events rows)
    → is_heard s.kind ≡ true
    → reading s.datagram ≡ Ok m
    → StepOutcome rows moment s (message_effects r starved rows moment s m)
unfolding spelling header_spelling acknowledged reset answering
role_outcome role.Ping starved rows moment s m settled hears read =
    plain (record { no_content = refl; no_valid = refl }, tt) refl
role_outcome role.Acknowledgement starved rows moment s m settled hears read =
    plain tt (keeps_none of_empty (λ p k b c. refl) (λ o. refl)
    (acknowledged s.peer m.mid (events rows)).notes
    (acknowledged-notes s.peer m.mid (events rows)))
role_outcome role.Reset starved rows moment s m settled hears read =
    plain tt
    (keeps_none of_empty (λ p k b c. refl) (λ o. refl) (reset s.peer m.mid (events rows)).notes
    (reset-notes s.peer m.mid (events rows)))
role_outcome role.Request true rows moment s m settled hears read = plain (starved_plain s m) refl
role_outcome role.Request false rows moment s m settled hears read =
    request_outcome rows moment s m settled hears read
role_outcome role.Response true rows moment s m settled hears read = plain tt refl
role_outcome role.Response false rows moment s m settled hears read =
    plain (response_plain rows moment s m) (keeps_none of_response (λ p k b c. refl) (λ o. refl)
    (response_effects rows moment s m).notes (response_effects-notes rows moment s m))
role_outcome role.Ignored starved rows moment s m settled hears read = plain tt refl

-- a datagram that is heard
pub heard_outcome : (starved : Bool) (rows : List Row) (moment : ℕ) (s : Step)
    (read : Result Message Unread)
    → SettledPlain (events rows)
    → is_heard s.kind ≡ true
    → reading s.datagram ≡ read
    → StepOutcome rows moment s (heard starved rows moment s read)
heard_outcome starved rows moment s (Err fault) settled hears read =
    plain (unread_plain s fault) (noted_nothing _ (unread_notes s fault))
heard_outcome starved rows moment s (Ok m) settled hears read =
    role_outcome (role_of m.kind m.code) starved rows moment s m settled hears read

-- a datagram that is looked at
pub looked_outcome : (starved : Bool) (rows : List Row) (moment : ℕ) (s : Step)
    (read : Result Message Unread)
    → is_heard s.kind ≡ true
    → reading s.datagram ≡ read
    → StepOutcome rows moment s (looked starved (entries rows) moment s read)
unfolding answering
looked_outcome starved rows moment s (Err fault) hears read = plain tt refl
looked_outcome true rows moment s (Ok m) hears read = plain (starved_plain s m) refl
looked_outcome false rows moment s (Ok m) hears read = look m hears read refl

-- a write that is done
pub done_outcome : (starved : Bool) (rows : List Row) (moment place : ℕ) (s : Step)
    (read : Result Message Unread)
    → StepOutcome rows moment s (done starved rows moment place s read)
unfolding answering
done_outcome starved rows moment place s (Err fault) = plain tt refl
done_outcome true rows moment place s (Ok m) = plain (starved_plain s m) refl
done_outcome false rows moment place s (Ok m) =
    plain (commit_plain rows moment place s m).sends
    (keeps_none of_commit (λ p k b c. refl) (λ o. refl)
    (commit_effects rows moment place s m).notes
    (commit_effects-notes rows moment place s m))

-- a body that is kept
pub kept_outcome : (starved : Bool) (rows : List Row) (moment : ℕ) (s : Step)
    (read : Result Message Unread) (body tag : List ℕ)
    → reading s.datagram ≡ read
    → s.kind ≡ step.Keep body tag
    → StepOutcome rows moment s (kept_body starved s read body tag)
unfolding answering
kept_outcome starved rows moment s (Err fault) body tag read kind = plain tt refl
kept_outcome true rows moment s (Ok m) body tag read kind = plain (starved_plain s m) refl
kept_outcome false rows moment s (Ok m) body tag read kind = keep m body tag read kind refl

-- a beginning
pub beginning_outcome : (starved : Bool) (rows : List Row) (moment : ℕ) (s : Step) (first : ℕ)
    → StepOutcome rows moment s (beginning starved (entries rows) moment s first)
beginning_outcome starved rows moment s first =
    plain (subst ArePlain (sym (beginning-sent starved (entries rows) moment s first)) tt)
    (keeps_none of_commit (λ p k b c. refl) (λ o. refl)
    (beginning starved (entries rows) moment s first).notes
    (beginning-notes of_commit (λ entry. refl) starved (entries rows) moment s first))
