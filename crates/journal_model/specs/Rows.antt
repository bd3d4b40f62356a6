-- The row of a step: what each kind of step sends and notes after a journal.
use Rattle.std.specs.Prelude.{
  ℕ,
  Bool,
  true,
  false,
  max,
  List,
  [],
  ◌∷◌,
  Option,
  Some,
  None,
  Result,
  Ok,
  Err,
}
use Rattle.message_model.specs.declared.messages.Kind4.{Kind4}
use Rattle.message_model.specs.declared.messages.Kind4.TheVariants.{Con, Non}
use Rattle.message_model.specs.declared.messages.Role.{Role}
use Rattle.message_model.specs.declared.messages.Role.TheVariants as role
use Rattle.message_model.specs.declared.messages.Unread.{Unread}
use Rattle.message_model.specs.declared.messages.Unread.TheVariants as unread
use Rattle.message_model.specs.declared.requests.Path.{Path}
use Rattle.message_model.specs.declared.requests.Path.TheVariants as path
use Rattle.message_model.specs.Message.{Message, role_of}
use Rattle.message_model.specs.Codes as codes_of
use Rattle.message_model.specs.OptionTable.{first_bad_option}
use Rattle.message_model.specs.Reading.{reading}
use Rattle.message_model.specs.Request.{path_in}
use Rattle.event_model.specs.declared.notes.Note.TheVariants as note
use Rattle.journal_model.specs.declared.steps.Step.{Step}
use Rattle.journal_model.specs.declared.steps.StepKind.{StepKind}
use Rattle.journal_model.specs.declared.steps.StepKind.TheVariants as step
use Rattle.journal_model.specs.declared.rows.Row.{Row}
use Rattle.journal_model.specs.Journal.{events, entries, latest}
use Rattle.journal_model.specs.Effects.{
  Effects,
  Reply,
  nothing,
  bare,
  answering,
  without_memory,
  resetting,
}
use Rattle.journal_model.specs.Requests.{
  Method,
  get,
  post,
  put,
  delete,
  other_method,
  method_of,
  refusal_of_request,
}
use Rattle.journal_model.specs.Beginnings.{beginning}
use Rattle.journal_model.specs.Looks.{look_effects, looked, keep_effects}
use Rattle.journal_model.specs.Lookups.{lookup_effects, read_effects}
use Rattle.journal_model.specs.Writes.{write_effects}
use Rattle.journal_model.specs.Commits.{commit_effects}
use Rattle.journal_model.specs.EmptyMessages.{acknowledged, reset}
use Rattle.journal_model.specs.Responses.{response_effects}
use Rattle.journal_model.specs.Ticks.{tick_effects}

-- Serves a request on a registration, by its method. GET reads its links; POST, PUT and DELETE are
-- writes; any other method is refused before.
abbrev pub served_on_location : Method → List Row → ℕ → Step → Message → Effects
served_on_location get rows moment s m = read_effects rows moment s m
served_on_location post rows moment s m = write_effects (events rows) moment s m
served_on_location put rows moment s m = write_effects (events rows) moment s m
served_on_location delete rows moment s m = write_effects (events rows) moment s m
served_on_location other_method rows moment s m = nothing

-- Serves a request that meets none of the refusals that it alone decides, by its path.
unfoldable pub served : Path → List Row → ℕ → Step → Message → Effects
served path.Core rows moment s m = look_effects (entries rows) moment s m
served path.Res rows moment s m = lookup_effects rows moment s m
served path.Ep rows moment s m = lookup_effects rows moment s m
served path.SimpleRd rows moment s m = write_effects (events rows) moment s m
served path.Rd rows moment s m = write_effects (events rows) moment s m
served (path.Location number) rows moment s m =
    served_on_location (method_of m.code) rows moment s m
served path.Other rows moment s m = nothing

-- Answers a refused request. If the message is non-confirmable, an unrecognized critical option
-- gets no response (RFC 7252 section 5.4.1).
abbrev pub refusal_answered : Kind4 → Option ℕ → Step → Message → Reply → Effects
refusal_answered Non (Some number) s m refusal = nothing
refusal_answered _ _ s m refusal = answering s m refusal []

-- Refuses or serves a request.
abbrev pub request_answered : Option Reply → List Row → ℕ → Step → Message → Effects
request_answered (Some refusal) rows moment s m =
    refusal_answered m.kind (first_bad_option m.options) s m refusal
request_answered None rows moment s m = served (path_in m) rows moment s m

-- Handles a message, by its role (RFC 7252 section 4).
abbrev pub message_effects : Role → Bool → List Row → ℕ → Step → Message → Effects
message_effects role.Ping starved rows moment s m = resetting s m.mid
message_effects role.Acknowledgement starved rows moment s m =
    acknowledged s.peer m.mid (events rows)
message_effects role.Reset starved rows moment s m = reset s.peer m.mid (events rows)
message_effects role.Request true rows moment s m = without_memory s m
message_effects role.Request false rows moment s m =
    request_answered (refusal_of_request m) rows moment s m
message_effects role.Response true rows moment s m = nothing
message_effects role.Response false rows moment s m = response_effects rows moment s m
message_effects role.Ignored starved rows moment s m = nothing

-- Rejects a confirmable message with a format error, and ignores anything else that is no message
-- (RFC 7252 section 4.2).
abbrev pub unread_answered : Step → Unread → Effects
unread_answered s (unread.Format Con mid) = resetting s mid
unread_answered s _ = nothing

-- Handles a datagram.
abbrev pub heard : Bool → List Row → ℕ → Step → Result Message Unread → Effects
heard starved rows moment s (Err fault) = unread_answered s fault
heard starved rows moment s (Ok m) = message_effects (role_of m.kind m.code) starved rows moment s m

-- Does an admitted write. If memory ran out, it ends in 5.00, and its admission with it.
abbrev pub done : Bool → List Row → ℕ → ℕ → Step → Result Message Unread → Effects
done starved rows moment place s (Err fault) = nothing
done true rows moment place s (Ok m) =
    answering s m (bare codes_of.internal_server_error) (note.Failed place ∷ [])
done false rows moment place s (Ok m) = commit_effects rows moment place s m

-- Keeps a body.
abbrev pub kept_body : Bool → Step → Result Message Unread → List ℕ → List ℕ → Effects
kept_body starved s (Err fault) body tag = nothing
kept_body true s (Ok m) body tag = without_memory s m
kept_body false s (Ok m) body tag = keep_effects s m body tag

-- Returns what a step does, by its kind, after a journal at a moment.
unfoldable pub effects : StepKind → Bool → List Row → ℕ → Step → Effects
effects step.Admit starved rows moment s = heard starved rows moment s (reading s.datagram)
effects step.Look starved rows moment s =
    looked starved (entries rows) moment s (reading s.datagram)
effects (step.Commit place) starved rows moment s =
    done starved rows moment place s (reading s.datagram)
effects (step.Keep body tag) starved rows moment s =
    kept_body starved s (reading s.datagram) body tag
effects step.Tick starved rows moment s = tick_effects starved rows moment s
effects (step.Begin first) starved rows moment s = beginning starved (entries rows) moment s first

-- Returns the moment of a step: the greatest that was passed in so far.
unfoldable pub row_moment : List Row → Step → ℕ
row_moment rows s = max s.handed.0 (latest rows)

-- Returns the row of what was done.
abbrev pub row_with : Step → ℕ → Bool → Effects → Row
row_with s moment starved e = record {
  step = s;
  moment = record { 0 = moment };
  starved = starved;
  sent = e.sent;
  notes = e.notes;
  drew = e.drew;
}

-- Returns the row of a step after a journal, in which memory ran out or did not.
unfoldable pub row : List Row → Step → Bool → Row
row rows s starved =
    row_with s (row_moment rows s) starved (effects s.kind starved rows (row_moment rows s) s)

-- Rows, each of which is that of the rows before it and of a step. It is left open which worker may
-- make which step. Journals of the machine and of desks are such rows.
pub data AreRows : List Row → Type 0 where
  empty : AreRows []
  added : {rows : List Row}
      → (s : Step) (starved : Bool)
      → AreRows rows
      → AreRows (row rows s starved ∷ rows)
