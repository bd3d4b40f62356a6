-- Duplicates of writes (RFC 7252 section 4.5): which admissions are stored, and what a duplicate
-- finds.
use Rattle.std.specs.Prelude.{
  ℕ,
  Bool,
  true,
  false,
  not,
  ◌&&◌,
  ◌==◌,
  nat_le,
  List,
  [],
  ◌∷◌,
  ◌++◌,
  length,
  filter,
  Option,
  Some,
  None,
  option_and_then,
  if◌then◌else◌,
}
use Rattle.std.specs.List.{filter_map, list_any}
use Rattle.rd_base.specs.declared.peers.Peer.{Peer}
use Rattle.event_model.specs.declared.limits.TheConstants.{MAX_EXCHANGES}
use Rattle.event_model.specs.declared.notes.Note.{Note}
use Rattle.event_model.specs.declared.notes.Note.TheVariants as note
use Rattle.event_model.specs.Same.{is_same_peer}
use Rattle.event_model.specs.Events.{Event, last_event, last_said, is_young}

-- The most exchanges that are stored.
abbrev pub max_exchanges : ℕ
max_exchanges = MAX_EXCHANGES

-- Returns whether a note is the admission of a peer and a Message ID.
abbrev pub is_admission_of : Peer → ℕ → Note → Bool
is_admission_of peer mid (note.Admitted p m) = is_same_peer p peer && m == mid
is_admission_of peer mid _ = false

-- Returns whether a note is an admission.
abbrev pub is_admitting : Note → Bool
is_admitting (note.Admitted peer mid) = true
is_admitting _ = false

-- Returns the event, if its note is an admission.
abbrev pub admission_noted : Note → Event → List Event
admission_noted (note.Admitted peer mid) e = e ∷ []
admission_noted _ e = []

-- Returns whether a note says that the admission of this place ended because memory ran out.
abbrev pub is_failure_of : ℕ → Note → Bool
is_failure_of place (note.Failed p) = p == place
is_failure_of place _ = false

-- Returns the admissions that no later failure follows, the newest first.
unfoldable pub admissions : List Event → List Event
admissions [] = []
admissions (e ∷ before) =
    admission_noted e.note e ++ filter (λ a. not (is_failure_of a.place e.note)) (admissions before)

-- Returns the admissions that are stored at a moment: no failure follows them, and they are young
-- enough.
unfoldable pub kept : ℕ → List Event → List Event
kept now events = filter (λ a. is_young now a.moment) (admissions events)

-- Returns whether the admission is stored.
abbrev pub is_kept : ℕ → List Event → Event → Bool
is_kept now events a = list_any (λ other. other.place == a.place) (kept now events)

-- Returns the admission that a write duplicates: the last one of its peer and Message ID, if it is
-- stored.
unfoldable pub repeated : ℕ → Peer → ℕ → List Event → Option Event
repeated now peer mid events =
    option_and_then (λ a. if is_kept now events a then Some a else None)
    (last_event (is_admission_of peer mid) events)

-- Returns what the note says of the answer to the admission of a place.
abbrev pub answer_noted : ℕ → Note → Option (List ℕ)
answer_noted place (note.Settled p reply) = if p == place then Some reply else None
answer_noted place _ = None

-- Returns the octets with which the admission of a place was answered, or none while it is in
-- progress.
unfoldable pub settled : ℕ → List Event → Option (List ℕ)
settled place events = last_said (answer_noted place) events

-- Returns whether the note settles or fails the admission of a place.
abbrev pub is_ending_of : ℕ → Note → Bool
is_ending_of place (note.Settled p reply) = p == place
is_ending_of place (note.Failed p) = p == place
is_ending_of place _ = false

-- Returns whether as many exchanges are stored as there is room for.
abbrev pub is_full_of_exchanges : ℕ → List Event → Bool
is_full_of_exchanges now events = nat_le max_exchanges (length (kept now events))

-- A stored exchange: the peer that wrote, the Message ID, the moment of the admission, and the
-- answer. The answer is none while the write is in progress.
pub record Exchange : Type 0 where
  pub peer : Peer
  pub mid : ℕ
  pub moment : ℕ
  pub reply : Option (List ℕ)

-- Returns an admission at a moment with its answer, as an exchange.
abbrev pub exchange_admitted : ℕ → Option (List ℕ) → Note → Option Exchange
exchange_admitted moment reply (note.Admitted peer mid) =
    Some (record { peer = peer; mid = mid; moment = moment; reply = reply })
exchange_admitted moment reply _ = None

-- Returns an admission with what the events say of its answer.
abbrev pub exchange_of : List Event → Event → Option Exchange
exchange_of events a = exchange_admitted a.moment (settled a.place events) a.note

-- Returns the exchanges that are stored at a moment, the latest first.
unfoldable pub exchanges_at : ℕ → List Event → List Exchange
exchanges_at now events = filter_map (exchange_of events) (kept now events)
