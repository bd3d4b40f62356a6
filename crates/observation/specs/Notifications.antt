-- The effects of a row that sends a notification, and the observer that comes next (RFC 7641
-- sections 1.3 and 4.2).
use Rattle.std.specs.Prelude.{
  ℕ,
  ◌+◌,
  Bool,
  not,
  ◌&&◌,
  List,
  [],
  ◌∷◌,
  drop,
  Option,
  Some,
  None,
  if◌then◌else◌,
}
use Rattle.event_model.specs.declared.notes.Note.TheVariants as note
use Rattle.event_model.specs.declared.notes.Observer.{Observer}
use Rattle.event_model.specs.Events.{Event}
use Rattle.event_model.specs.Observers.{observers}
use Rattle.event_model.specs.Flights.{Sent, is_waited_for}
use Rattle.event_model.specs.Due.{Transition, is_due}
use Rattle.journal_model.specs.Effects.{Effects}
use Rattle.observers.specs.Standing.{Standing}

-- Returns the effects of building a notification with this body. It is sent and noted, and draws a
-- Message ID.
abbrev pub forming : Standing → List ℕ → Sent → Effects
forming x body sent = record {
  sent = (x.peer, sent.octets) ∷ [];
  notes = note.Formed x.peer x.token body (Some sent.mid) ∷ [];
  drew = 1;
}

-- Returns the effects of retransmitting a notification. It is sent and noted, and draws no Message
-- ID.
abbrev pub sending_again : Standing → Sent → Effects
sending_again x sent = record {
  sent = (x.peer, sent.octets) ∷ [];
  notes = note.Again x.peer sent.mid ∷ [];
  drew = 0;
}

-- Returns the index of the first of these observers that passes a test, or `None` if none does. The
-- index of the first observer is the given number.
abbrev pub first_observer : (Observer → Bool) → ℕ → List Observer → Option ℕ
first_observer test i [] = None
first_observer test i (o ∷ os) = if test o then Some i else first_observer test (i + 1) os

-- Returns the index of the first observer, from this index on, that can be sent a notification, or
-- `None` if there is none. Such an observer is due, and no notification to its peer is in flight
-- (RFC 7252 section 4.7, NSTART).
unfoldable pub next_notified : ℕ → List Event → List Transition → Option ℕ
next_notified from past seen =
    first_observer (λ o. is_due o past seen && not (is_waited_for o.peer past)) from
    (drop from (observers past))
