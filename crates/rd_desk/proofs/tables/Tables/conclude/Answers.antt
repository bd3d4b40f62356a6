use Rattle.std.proofs.Common.{[], ◌∷◌, refl}
use Rattle.coap_message.specs.Views.{message_in}
use Rattle.event_model.specs.declared.notes.Note.TheVariants as note
use Rattle.journal_model.specs.Effects.{nothing, joined, noting}
use Rattle.rd_desk.proofs.changes.CommitLaws.{way_refused, way_accepted}
use Rattle.rd_desk.proofs.changes.SettlingLaws.{open_more}
use Rattle.rd_desk.proofs.tables.Tables.conclude.Goals as goal

pub returns-in_default-clause-way : goal.returns-in_default-clause-way
returns-in_default-clause-way c =
    λ rows s starved place meant of opened at planned way.
    way_refused rows s starved place (message_in c.args.write.now.request.meaning.view) meant
    c.args.outcome
    c.args.self.now.version.swept c.settle.new.self c.settle.new.out c.settle.new.mids
    c.in_default.is planned
    (c.settle.ensures.way rows s starved nothing place of refl
    (open_more rows s starved nothing place c.args.write.now.peer
    c.args.write.now.request.meaning.view.mid c.args.write.now.admitted.0
    refl opened) way)

pub returns-clause-way : goal.returns-clause-way
returns-clause-way c =
    λ rows s starved place meant of opened at planned way.
    way_accepted rows s starved place (message_in c.args.write.now.request.meaning.view) meant
    c.args.outcome
    c.in-Some.entering c.args.self.now.version.swept c.settle-2.new.self c.settle-2.new.out
    c.settle-2.new.mids c.in-Some.is at planned
    (λ entry when has. c.settle-2.ensures.way rows s starved
    (joined nothing (noting (note.Entered entry ∷ []))) place of refl
    (open_more rows s starved (joined nothing (noting (note.Entered entry ∷ []))) place
    c.args.write.now.peer
    c.args.write.now.request.meaning.view.mid c.args.write.now.admitted.0 refl opened)
    (c.enter.ensures.way rows s starved nothing entry c.args.out.now c.args.mids.now refl when has
    way))
