-- Writes as they are done: the change and its response, or the refusal. In both cases the response
-- is stored for duplicates.
use Rattle.std.specs.Prelude.{
  ℕ,
  ◌+◌,
  Bool,
  true,
  false,
  nat_le,
  List,
  [],
  ◌∷◌,
  ◌++◌,
  length,
  codes,
  Option,
  None,
}
use Rattle.rd_base.specs.declared.parameters.RegParams.{RegParams}
use Rattle.message_model.specs.declared.blocks.Block.{Block}
use Rattle.message_model.specs.declared.requests.Path.{Path}
use Rattle.message_model.specs.declared.requests.Path.TheVariants as path
use Rattle.message_model.specs.Message.{Message}
use Rattle.message_model.specs.Codes as codes_of
use Rattle.message_model.specs.Request.{path_in, queries_in}
use Rattle.message_model.specs.Spelling.{spelling}
use Rattle.message_model.specs.FetchRequests.{fetch_request}
use Rattle.record_model.specs.Parameters.{registration_values, update_values}
use Rattle.history_model.specs.declared.entries.Change.TheVariants as change
use Rattle.event_model.specs.declared.notes.Note.TheVariants as note
use Rattle.event_model.specs.Events.{Event}
use Rattle.event_model.specs.Fetches.{max_fetches, fetches, is_fetching, next_token}
use Rattle.journal_model.specs.declared.steps.Step.{Step}
use Rattle.journal_model.specs.declared.rows.Row.{Row}
use Rattle.journal_model.specs.Journal.{events, entries}
use Rattle.journal_model.specs.Effects.{
  Effects,
  nothing,
  joined,
  bare,
  mid_of,
  drawn_for,
  answer,
  answering,
}
use Rattle.journal_model.specs.Requests.{Method, get, post, put, delete, other_method, method_of}
use Rattle.journal_model.specs.Changes.{Outcome, refused, entry_of_step, change_made}
use Rattle.journal_model.specs.Registrations.{registering, replacing}

-- Sends and settles the response, and notes the outcome of the write.
abbrev pub settling : ℕ → Step → Message → Outcome → Effects
settling place s m done =
    answering s m done.reply
    (done.notes ++ note.Settled place (spelling (answer s m done.reply)) ∷ [])

-- Returns the outcome of an update (RFC 9176 section 5.3.1).
abbrev pub updating : List Row → ℕ → Step → Message → ℕ → Outcome
updating rows moment s m number =
    change_made (entries rows)
    (entry_of_step moment s (change.Update number (update_values (queries_in m))))
    (record { reply = bare codes_of.changed; notes = [] })

-- Returns the outcome of a removal (RFC 9176 section 5.3.2).
abbrev pub removing : List Row → ℕ → Step → ℕ → Outcome
removing rows moment s number =
    change_made (entries rows) (entry_of_step moment s (change.Remove number))
    (record { reply = bare codes_of.deleted; notes = [] })

-- Requests a block from the peer of a fetch, with the next Message ID after `drawn` others.
abbrev pub asking : Step → ℕ → List ℕ → RegParams → ℕ → Option Block → Effects
asking s drawn token params number b = record {
  sent = (s.peer, spelling (fetch_request (mid_of s.worker drawn) token b)) ∷ [];
  notes = note.Asked s.peer token (mid_of s.worker drawn) params number ∷ [];
  drew = 1;
}

-- The room for a fetch: none if one with its peer runs, or if as many run as may.
pub data FetchRoom : Type 0 where
  runs_with_peer : FetchRoom
  runs_as_many : FetchRoom
  may_start : FetchRoom

-- Returns whether there is room for a fetch: first whether one with its peer runs, and then whether
-- as many run as may.
abbrev pub fetch_room : Bool → Bool → FetchRoom
fetch_room true many = runs_with_peer
fetch_room false true = runs_as_many
fetch_room false false = may_start

-- Refuses a simple registration if a fetch with its peer runs, or if as many run as may. Otherwise
-- its 2.04 is sent, and a fetch starts after it (RFC 9176 section 5.1).
abbrev pub simple_unless : FetchRoom → List Event → ℕ → Step → Message → Effects
simple_unless runs_with_peer events place s m =
    settling place s m (refused codes_of.service_unavailable (codes "fetching"))
simple_unless runs_as_many events place s m =
    settling place s m (refused codes_of.service_unavailable (codes "fetches"))
simple_unless may_start events place s m =
    joined (settling place s m (record { reply = bare codes_of.changed; notes = [] }))
    (asking s (s.drawn + drawn_for m.kind) (next_token events) (registration_values (queries_in m))
    0 None)

-- Does a simple registration.
abbrev pub registering_simply : List Event → ℕ → Step → Message → Effects
registering_simply events place s m =
    simple_unless
    (fetch_room (is_fetching s.peer events) (nat_le max_fetches (length (fetches events)))) events
    place s m

-- The outcome 4.05 of a method that commits nothing.
abbrev pub no_write : Outcome
no_write = refused codes_of.method_not_allowed (codes "method")

-- Returns the outcome of a write on a registration, by its method. POST updates it, PUT replaces
-- its links, and DELETE removes it. GET is no write, and any other method is refused before it is
-- admitted.
abbrev pub location_outcome : Method → List Row → ℕ → Step → Message → ℕ → Outcome
location_outcome get rows moment s m number = no_write
location_outcome post rows moment s m number = updating rows moment s m number
location_outcome put rows moment s m number = replacing rows moment s m number
location_outcome delete rows moment s m number = removing rows moment s number
location_outcome other_method rows moment s m number = no_write

-- Does a write, by its path.
abbrev pub write_done : Path → List Row → ℕ → ℕ → Step → Message → Effects
write_done path.Rd rows moment place s m = settling place s m (registering rows moment s m)
write_done (path.Location number) rows moment place s m =
    settling place s m (location_outcome (method_of m.code) rows moment s m number)
write_done path.SimpleRd rows moment place s m = registering_simply (events rows) place s m
write_done path.Core rows moment place s m = nothing
write_done path.Res rows moment place s m = nothing
write_done path.Ep rows moment place s m = nothing
write_done path.Other rows moment place s m = nothing

-- Does the write that was admitted at a place.
unfoldable pub commit_effects : List Row → ℕ → ℕ → Step → Message → Effects
commit_effects rows moment place s m = write_done (path_in m) rows moment place s m
