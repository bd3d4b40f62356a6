-- The result of handling a datagram: the job that it leaves, and whether it allocates.
use Rattle.std.specs.Prelude.{
  ◌≡◌,
  ℕ,
  Bool,
  true,
  false,
  List,
  [],
  ◌∷◌,
  Option,
  Some,
  None,
  is_some,
  Result,
  Ok,
  Err,
}
use Rattle.std.specs.List.{list_any}
use Rattle.message_model.specs.declared.messages.Role.{Role}
use Rattle.message_model.specs.declared.messages.Role.TheVariants as role
use Rattle.message_model.specs.declared.messages.Unread.{Unread}
use Rattle.message_model.specs.declared.requests.Path.{Path}
use Rattle.message_model.specs.declared.requests.Path.TheVariants as path
use Rattle.message_model.specs.Message.{Message, role_of}
use Rattle.message_model.specs.Request.{path_in}
use Rattle.event_model.specs.declared.notes.Note.{Note}
use Rattle.event_model.specs.declared.notes.Note.TheVariants as note
use Rattle.event_model.specs.Repeats.{is_admitting}
use Rattle.journal_model.specs.declared.steps.Step.{Step}
use Rattle.journal_model.specs.declared.rows.Row.{Row}
use Rattle.journal_model.specs.Effects.{Reply}
use Rattle.journal_model.specs.Journal.{events}
use Rattle.journal_model.specs.Requests.{
  Method,
  get,
  post,
  put,
  delete,
  other_method,
  method_of,
  refusal_of_request,
}
use Rattle.journal_model.specs.Responses.{fetch_of}
use Rattle.journal_model.specs.Writes.{write_effects}
use Rattle.rd_desk.specs.declared.admitted.Admitted.{Admitted}
use Rattle.rd_desk.specs.declared.admitted.Admitted.TheVariants as admitted

-- Returns whether memory ran out.
abbrev pub is_starved_admission : Admitted → Bool
is_starved_admission admitted.Done = false
is_starved_admission (admitted.Held job) = false
is_starved_admission admitted.Starved = true

-- States that the worker has the job of the write that the row admits, or no job if the row admits
-- none.
abbrev pub IsHeldFor : Admitted → List Note → Step → ℕ → Type 0
IsHeldFor (admitted.Held job) notes s moment =
    (mid : ℕ)
    × (notes ≡ note.Admitted s.peer mid ∷ [])
    × (job ≡ record { peer = s.peer; datagram = s.datagram; admitted = moment })
IsHeldFor admitted.Done notes s moment = list_any is_admitting notes ≡ false
IsHeldFor admitted.Starved notes s moment = list_any is_admitting notes ≡ false

-- Returns whether a write allocates. It does if it is admitted, for its job. A duplicate, a
-- challenged write and one for which there is no room do not.
abbrev pub write_takes : List Row → ℕ → Step → Message → Bool
write_takes rows moment s m = list_any is_admitting (write_effects (events rows) moment s m).notes

-- Returns whether a request to a registration allocates, by its method. A read does; a write does
-- if it is admitted.
abbrev pub served_on_location_takes : Method → List Row → ℕ → Step → Message → Bool
served_on_location_takes get rows moment s m = true
served_on_location_takes post rows moment s m = write_takes rows moment s m
served_on_location_takes put rows moment s m = write_takes rows moment s m
served_on_location_takes delete rows moment s m = write_takes rows moment s m
served_on_location_takes other_method rows moment s m = false

-- Returns whether a request that is not refused allocates, by its path.
abbrev pub served_takes : Path → List Row → ℕ → Step → Message → Bool
served_takes path.Core rows moment s m = true
served_takes path.Res rows moment s m = true
served_takes path.Ep rows moment s m = true
served_takes path.SimpleRd rows moment s m = write_takes rows moment s m
served_takes path.Rd rows moment s m = write_takes rows moment s m
served_takes (path.Location number) rows moment s m =
    served_on_location_takes (method_of m.code) rows moment s m
served_takes path.Other rows moment s m = false

-- Returns whether a request allocates. One that is refused by its content alone does not.
abbrev pub request_takes : Option Reply → List Row → ℕ → Step → Message → Bool
request_takes (Some refusal) rows moment s m = false
request_takes None rows moment s m = served_takes (path_in m) rows moment s m

-- Returns whether a response allocates. It does if it belongs to a fetch.
abbrev pub response_takes : List Row → Step → Message → Bool
response_takes rows s m = is_some (fetch_of s m (events rows))

-- Returns whether a message allocates, by its role. An empty message does not.
abbrev pub message_takes : Role → List Row → ℕ → Step → Message → Bool
message_takes role.Ping rows moment s m = false
message_takes role.Acknowledgement rows moment s m = false
message_takes role.Reset rows moment s m = false
message_takes role.Request rows moment s m = request_takes (refusal_of_request m) rows moment s m
message_takes role.Response rows moment s m = response_takes rows s m
message_takes role.Ignored rows moment s m = false

-- Returns whether handling a datagram after a journal allocates, from the result of reading it.
abbrev pub takes_memory : List Row → ℕ → Step → Result Message Unread → Bool
takes_memory rows moment s (Err fault) = false
takes_memory rows moment s (Ok m) = message_takes (role_of m.kind m.code) rows moment s m
