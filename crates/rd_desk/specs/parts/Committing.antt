-- The end of an admitted write: its answer settles it, or it fails.
use Rattle.std.specs.Prelude.{ℕ, Bool, true, false, [], ◌∷◌}
use Rattle.message_model.specs.Codes as codes_of
use Rattle.message_model.specs.Message.{Message}
use Rattle.message_model.specs.Spelling.{spelling}
use Rattle.event_model.specs.declared.notes.Note.TheVariants as note
use Rattle.journal_model.specs.declared.steps.Step.{Step}
use Rattle.journal_model.specs.Effects as effects
use Rattle.journal_model.specs.Effects.{Effects, bare, answer, answering}

-- Returns the effects of answering a request, whose answer settles the write that was admitted at a
-- place.
abbrev pub answering_settled : ℕ → Step → Message → effects.Reply → Effects
answering_settled place s m reply =
    answering s m reply (note.Settled place (spelling (answer s m reply)) ∷ [])

-- Returns the effects of a write that fails. The directory answers 5.00, and the write may come
-- again as a new one (RFC 7252 section 5.9.3.1).
abbrev pub failing : ℕ → Step → Message → Effects
failing place s m = answering s m (bare codes_of.internal_server_error) (note.Failed place ∷ [])

-- Returns these effects of a write, or those of its failure if memory ran out.
abbrev pub unless_failing : Bool → ℕ → Step → Message → Effects → Effects
unless_failing true place s m e = failing place s m
unless_failing false place s m e = e
