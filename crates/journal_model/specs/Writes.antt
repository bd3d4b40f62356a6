-- Writes on receipt. Duplicates are recognized, and a simple registration is challenged if its peer
-- has not proved that it receives at its address. Any other new write leaves the worker with a job
-- (RFC 7252 sections 4.2 and 4.5, RFC 9175 sections 2.3 and 2.6).
use Rattle.std.specs.Prelude.{
  ℕ,
  Bool,
  true,
  false,
  not,
  ◌&&◌,
  List,
  [],
  ◌∷◌,
  codes,
  Option,
  Some,
  None,
}
use Rattle.rd_base.specs.declared.peers.Peer.{Peer}
use Rattle.message_model.specs.declared.requests.Path.{Path}
use Rattle.message_model.specs.declared.requests.Path.TheVariants as path
use Rattle.message_model.specs.Message.{Message}
use Rattle.message_model.specs.Codes as codes_of
use Rattle.message_model.specs.OptionTable as table
use Rattle.message_model.specs.Request.{path_in, echo_in}
use Rattle.event_model.specs.declared.notes.Note.TheVariants as note
use Rattle.event_model.specs.Events.{Event}
use Rattle.event_model.specs.Repeats.{repeated, settled, is_full_of_exchanges}
use Rattle.event_model.specs.Challenges.{next_challenge, is_good}
use Rattle.journal_model.specs.declared.steps.Step.{Step}
use Rattle.journal_model.specs.Effects.{
  Effects,
  Reply,
  nothing,
  noting,
  sending,
  diagnostic,
  answering,
}

-- Answers a duplicate with the same octets as before, or with nothing while the first is in
-- progress.
abbrev pub again_answered : Step → Option (List ℕ) → Effects
again_answered s None = nothing
again_answered s (Some octets) = sending s.peer octets

-- Returns 4.01 with a value in Echo (RFC 9175 section 2.3).
abbrev pub challenge : List ℕ → Reply
challenge value = record {
  code = codes_of.unauthorized;
  options = (table.echo, value) ∷ [];
  payload = [];
}

-- Challenges a request by a value, and notes that.
abbrev pub challenging : Step → Message → List ℕ → Effects
challenging s m value = answering s m (challenge value) (note.Challenged s.peer value ∷ [])

-- Returns whether the directory would send requests to the peer: for a simple registration (RFC
-- 9176 section 5.1).
abbrev pub is_fetched_for : Path → Bool
is_fetched_for path.Core = false
is_fetched_for path.SimpleRd = true
is_fetched_for path.Rd = false
is_fetched_for (path.Location number) = false
is_fetched_for path.Res = false
is_fetched_for path.Ep = false
is_fetched_for path.Other = false

-- Returns whether there is an Echo option whose value proves that the peer receives at its address.
abbrev pub shows_address : Option (List ℕ) → ℕ → Peer → List Event → Bool
shows_address None moment peer events = false
shows_address (Some value) moment peer events = is_good moment peer value events

-- Returns whether a write has yet to prove that its peer receives at its address (RFC 9175 section
-- 2.6).
abbrev pub is_unproved : List Event → ℕ → Step → Message → Bool
is_unproved events moment s m =
    is_fetched_for (path_in m) && not (shows_address (echo_in m) moment s.peer events)

-- Admits a new write if there is room for one more exchange, and it has nothing to prove first.
abbrev pub admitted_unless : Bool → Bool → List Event → Step → Message → Effects
admitted_unless true unproved events s m =
    answering s m (diagnostic codes_of.service_unavailable (codes "exchanges")) []
admitted_unless false true events s m = challenging s m (next_challenge s.word events)
admitted_unless false false events s m = noting (note.Admitted s.peer m.mid ∷ [])

-- Handles a write, by the admission that it duplicates.
abbrev pub write_unless : Option Event → List Event → ℕ → Step → Message → Effects
write_unless (Some first) events moment s m = again_answered s (settled first.place events)
write_unless None events moment s m =
    admitted_unless (is_full_of_exchanges moment events) (is_unproved events moment s m) events s m

-- Handles a write: a duplicate, one too many, one that is challenged, or one that is admitted.
unfoldable pub write_effects : List Event → ℕ → Step → Message → Effects
write_effects events moment s m =
    write_unless (repeated moment s.peer m.mid events) events moment s m
