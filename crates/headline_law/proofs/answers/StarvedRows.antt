-- Where memory ran out, a row that is made for a request answers 5.00 and changes nothing.
use Rattle.std.proofs.Common.{◌≡◌, ℕ, true, List, Ok, refl, sym, ap, subst, ◌∙◌}
use Rattle.message_model.specs.declared.messages.Role.TheVariants as role
use Rattle.message_model.specs.Codes as codes_of
use Rattle.message_model.specs.Message.{Message, role_of}
use Rattle.message_model.specs.Reading.{reading}
use Rattle.message_model.specs.Spelling.{spelling, header_spelling}
use Rattle.journal_model.specs.declared.steps.Step.{Step}
use Rattle.journal_model.specs.declared.steps.StepKind.{StepKind}
use Rattle.journal_model.specs.declared.steps.StepKind.TheVariants as step
use Rattle.journal_model.specs.declared.rows.Row.{Row}
use Rattle.journal_model.specs.Journal.{entries}
use Rattle.journal_model.specs.Effects.{Effects, answering}
use Rattle.journal_model.specs.Looks.{looked}
use Rattle.journal_model.specs.PlacedRows.{code_sent}
use Rattle.journal_model.specs.Rows.{message_effects, heard, done, kept_body, effects}
use Rattle.headline_law.specs.AnsweredAlike.{IsForDatagram, NotesOutOfMemory, RunsOut}

-- what such a step does
record DoesRunOut (kind : StepKind) (e : Effects) : Type 0 where
  sent : code_sent e.sent ≡ codes_of.internal_server_error
  notes : NotesOutOfMemory kind e.notes

starved_does : (kind : StepKind) (rows : List Row) (moment : ℕ) (s : Step) (m : Message)
    → IsForDatagram kind
    → reading s.datagram ≡ Ok m
    → role_of m.kind m.code ≡ role.Request
    → DoesRunOut kind (effects kind true rows moment s)
unfolding effects answering spelling header_spelling
starved_does step.Admit rows moment s m fits read asks =
    subst (λ x. DoesRunOut step.Admit (heard true rows moment s x)) (sym read)
    (subst (λ r. DoesRunOut step.Admit (message_effects r true rows moment s m)) (sym asks)
    (record { sent = refl; notes = refl }))
starved_does step.Look rows moment s m fits read asks =
    subst (λ x. DoesRunOut step.Look (looked true (entries rows) moment s x)) (sym read)
    (record { sent = refl; notes = refl })
starved_does (step.Commit place) rows moment s m fits read asks =
    subst (λ x. DoesRunOut (step.Commit place) (done true rows moment place s x)) (sym read)
    (record { sent = refl; notes = refl })
starved_does (step.Keep body current) rows moment s m fits read asks =
    subst (λ x. DoesRunOut (step.Keep body current) (kept_body true s x body current)) (sym read)
    (record { sent = refl; notes = refl })
starved_does step.Tick rows moment s m fits read asks = absurd fits
starved_does (step.Begin first) rows moment s m fits read asks = absurd fits

-- and its row
pub row_runs_out : (before : List Row) (r : Row) (m : Message)
    → (r.sent ≡ (effects r.step.kind r.starved before r.moment.0 r.step).sent)
    × (r.notes ≡ (effects r.step.kind r.starved before r.moment.0 r.step).notes)
    → IsForDatagram r.step.kind
    → reading r.step.datagram ≡ Ok m
    → role_of m.kind m.code ≡ role.Request
    → r.starved ≡ true
    → RunsOut r
row_runs_out before r m facts fits read asks out =
    let it : DoesRunOut r.step.kind (effects r.step.kind r.starved before r.moment.0 r.step) =
    subst (λ b. DoesRunOut r.step.kind (effects r.step.kind b before r.moment.0 r.step)) (sym out)
    (starved_does r.step.kind before r.moment.0 r.step m fits read asks) in
    record {
      sent = ap code_sent facts.0 ∙ it.sent;
      notes = subst (NotesOutOfMemory r.step.kind) (sym facts.1) it.notes;
    }
