-- What a response to a fetch does if memory suffices, and if it ran out (RFC 9176 section 5.1).
use Rattle.std.specs.Prelude.{Bool, true, false, List, [], ◌∷◌}
use Rattle.message_model.specs.Message.{Message}
use Rattle.event_model.specs.declared.notes.Note.{Note}
use Rattle.journal_model.specs.declared.steps.Step.{Step}
use Rattle.journal_model.specs.declared.rows.Row.{Row}
use Rattle.journal_model.specs.Effects.{Effects, nothing}
use Rattle.journal_model.specs.Responses.{response_effects}
use Rattle.journal_model.specs.Rows.{row_moment}
use Rattle.simple_registration.specs.declared.asks.Ask.{Ask}

-- Returns these effects, or none if memory ran out.
abbrev pub unless_starved : Bool → Effects → Effects
unless_starved true e = nothing
unless_starved false e = e

-- Returns the effects of a response. If memory ran out, there are none.
abbrev pub response_heard : Bool → List Row → Step → Message → Effects
response_heard starved rows s m =
    unless_starved starved (response_effects rows (row_moment rows s) s m)

-- Returns the effects of the next request of a fetch: it is sent, draws a Message ID, and has these
-- notes.
abbrev pub asking_next : Ask → List Note → Effects
asking_next ask notes = record { sent = (ask.peer, ask.bytes) ∷ []; notes = notes; drew = 1 }
