-- What a tick does with the notification in flight to an observer, and which observer comes next
-- (RFC 7641 sections 1.3 and 4.5).
use Rattle.std.specs.Prelude.{ℕ, ◌+◌, Bool, true, false, [], ◌∷◌, Option, Some}
use Rattle.event_model.specs.declared.notes.Note.TheVariants as note
use Rattle.event_model.specs.Flights.{Sent}
use Rattle.exchange_core.specs.declared.resends.Again.{Again}
use Rattle.exchange_core.specs.declared.resends.Again.TheVariants as again
use Rattle.journal_model.specs.Effects.{Effects, nothing, noting}
use Rattle.observers.specs.Standing.{Standing, due_of}
use Rattle.observation.specs.Notifications.{sending_again}

-- Returns what a tick does with the notification in flight to an observer, by what is due for it.
-- That is nothing, a retransmission, or the removal of the observer (RFC 7641 section 4.5).
abbrev pub again_as : Again → Standing → Option Sent → Effects
again_as again.Send x (Some sent) = sending_again x sent
again_as again.GaveUp x (Some sent) = noting (note.Unwatched x.peer x.token ∷ [])
again_as _ x flight = nothing

-- Returns the same at a moment.
abbrev pub again_done : ℕ → Standing → Effects
again_done now x = again_as (due_of now x.flight) x x.flight

-- Returns the index of the next observer, after one that stays (`true`) or is removed (`false`).
abbrev pub index_after : Bool → ℕ → ℕ
index_after true index = index + 1
index_after false index = index
