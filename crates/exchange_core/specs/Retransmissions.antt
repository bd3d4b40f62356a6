-- When a message is retransmitted, computed from the events and from what is stored of it (RFC 7252
-- section 4.2).
use Rattle.std.specs.Prelude.{◌≡◌, ℕ, ◌+◌, ◌*◌, ◌^◌, nat_lt, List, length, if◌then◌else◌}
use Rattle.event_model.specs.Events.{Event}
use Rattle.event_model.specs.Flights.{
  Retransmission,
  max_again,
  first_wait,
  moment_of_last,
  deadline,
}
use Rattle.exchange_core.specs.declared.resends.Again.{Again}
use Rattle.exchange_core.specs.declared.resends.Again.TheVariants as again

-- The stored timing of a message that one event sent first and others retransmitted, the newest
-- first.
pub record Resends (first : Event) (others : List Event) (r : Retransmission) : Type 0 where
  pub sent : r.sent ≡ moment_of_last others first.moment
  pub wait : r.wait ≡ first_wait first.word * 2 ^ length others
  pub again : r.again ≡ length others

-- Returns what is due for such a message at a moment. Nothing is due before the deadline. Then a
-- retransmission is due if there were fewer than four, otherwise the end of the message.
unfoldable pub due_at : ℕ → Event → List Event → Again
due_at now first others =
    if nat_lt now (deadline first others)
    then again.Wait
    else if nat_lt (length others) max_again
    then again.Send
    else again.GaveUp

-- Returns the same, computed from what is stored of a message. Nothing is due before its timeout
-- expires. Then a retransmission is due if there were fewer than four, otherwise the end of the
-- message.
unfoldable pub kept_due : ℕ → Retransmission → Again
kept_due now r =
    if nat_lt now (r.sent + r.wait)
    then again.Wait
    else if nat_lt r.again max_again
    then again.Send
    else again.GaveUp

-- Returns what is stored of a message after what was due for it at a moment. A retransmission is
-- sent at that moment, and doubles the timeout.
abbrev pub kept_after : Again → ℕ → Retransmission → Retransmission
kept_after again.Send now r = record { sent = now; wait = r.wait * 2; again = r.again + 1 }
kept_after _ now r = r
