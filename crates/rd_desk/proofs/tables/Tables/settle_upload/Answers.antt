use Rattle.std.proofs.Common.{[], ◌∷◌, refl}
use Rattle.coap_message.specs.Views.{message_in}
use Rattle.event_model.specs.declared.notes.Note.TheVariants as note
use Rattle.journal_model.specs.Effects.{Effects, nothing, joined, noting}
use Rattle.journal_model.specs.Journal.{entries}
use Rattle.rd_desk.specs.parts.Replies.{short_said}
use Rattle.rd_desk.proofs.changes.SettlingLaws.{open_more}
use Rattle.rd_desk.proofs.changes.UploadLaws.{
  refused_notes,
  accepted_notes,
  settled_refusal,
  settled_upload,
}
use Rattle.rd_desk.proofs.tables.Tables.settle_upload.Goals as goal

pub returns-in_default-clause-way : goal.returns-in_default-clause-way
returns-in_default-clause-way c =
    λ rows s starved place meant of opened made planned way.
    let m = message_in c.args.write.now.request.meaning.view in
    settled_refusal rows s starved place m (short_said c.args.outcome.reply) meant c.settle.new.self
    c.settle.new.out c.settle.new.mids planned.said
    (refused_notes (entries rows) c.args.self.now.version.swept
    (note.Finished s.peer c.args.key.now ∷ []) meant c.args.outcome c.in_default.is planned)
    (c.settle.ensures.way rows s starved nothing place of refl
    (open_more rows s starved nothing place c.args.write.now.peer m.mid c.args.write.now.admitted.0
    refl opened)
    way)

pub returns-clause-way : goal.returns-clause-way
returns-clause-way c =
    λ rows s starved place meant of opened made planned way.
    let m = message_in c.args.write.now.request.meaning.view in
    let it =
    accepted_notes (entries rows) c.args.self.now.version.swept
    (note.Finished s.peer c.args.key.now ∷ []) meant c.args.outcome c.in-Some.entering
    c.in-Some.is planned in
    let entered : Effects = joined nothing (noting (note.Entered it.entry ∷ [])) in
    let finished : Effects = joined entered (noting (note.Finished s.peer c.args.key.now ∷ [])) in
    settled_upload rows s starved place m (short_said c.args.outcome.reply) it.entry c.args.key.now
    meant c.settle-2.new.self c.settle-2.new.out c.settle-2.new.mids planned.said it.noted
    (c.settle-2.ensures.way rows s starved finished place of refl
    (open_more rows s starved finished place c.args.write.now.peer m.mid c.args.write.now.admitted.0
    refl opened)
    (c.end_upload.ensures.way rows s starved entered c.args.out.now c.args.mids.now of
    (c.enter.ensures.way rows s starved nothing it.entry c.args.out.now c.args.mids.now refl
    (made it.entry (note.Finished s.peer c.args.key.now ∷ []) it.noted) it.is_of way)))
