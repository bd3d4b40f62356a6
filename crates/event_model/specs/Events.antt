-- What a journal notes, as events. A list of events has the newest first: the last event of a kind
-- is the first that is found.
use Rattle.std.specs.Prelude.{
  ℕ,
  ◌+◌,
  Bool,
  nat_lt,
  List,
  [],
  ◌∷◌,
  find,
  fold,
  Option,
  Some,
  None,
  option_map,
  unwrap_or,
  if◌then◌else◌,
}
use Rattle.std.specs.List.{list_any}
use Rattle.event_model.specs.declared.transmission.TheConstants.{EXCHANGE_LIFETIME}
use Rattle.event_model.specs.declared.notes.Note.{Note}

-- A note with its place, which is the number of rows before its own, and with the moment and the
-- word of its row.
pub record Event : Type 0 where
  pub place : ℕ
  pub moment : ℕ
  pub word : ℕ
  pub note : Note

-- Returns events with the notes of one row after them, in this order.
abbrev pub noted : ℕ → ℕ → ℕ → List Note → List Event → List Event
noted place moment word notes before =
    fold (λ events n. record { place = place; moment = moment; word = word; note = n } ∷ events)
    before notes

-- Returns the last event with a note of a kind.
abbrev pub last_event : (Note → Bool) → List Event → Option Event
last_event is_kind events = find (λ e. is_kind e.note) events

-- Returns whether one of the events has a note of a kind.
abbrev pub has_event : (Note → Bool) → List Event → Bool
has_event is_kind events = list_any (λ e. is_kind e.note) events

-- Returns the events after the last one with a note of a kind, or all if there is none.
unfoldable pub events_since : (Note → Bool) → List Event → List Event
events_since is_kind [] = []
events_since is_kind (e ∷ before) = if is_kind e.note then [] else e ∷ events_since is_kind before

-- Returns the first of two if there is one, and otherwise the second.
abbrev pub or_else : {A : Type 0} → Option A → Option A → Option A
or_else (Some x) other = Some x
or_else None other = other

-- Returns what is said by the last note that says something.
unfoldable pub last_said : {A : Type 0} → (Note → Option A) → List Event → Option A
last_said says [] = None
last_said says (e ∷ before) = or_else (says e.note) (last_said says before)

-- Returns the moment of an event, or 0 if there is none.
abbrev pub event_moment : Option Event → ℕ
event_moment e = unwrap_or (option_map (λ e. e.moment) e) 0

-- How long an exchange, an upload and a kept answer live, in milliseconds (RFC 7252 section 4.8.2,
-- EXCHANGE_LIFETIME).
abbrev pub exchange_lifetime : ℕ
exchange_lifetime = EXCHANGE_LIFETIME

-- Returns whether what happened at a moment is still live now: less than 247,000 milliseconds have
-- passed.
abbrev pub is_young : ℕ → ℕ → Bool
is_young now moment = nat_lt now (moment + exchange_lifetime)
