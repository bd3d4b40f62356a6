use Rattle.std.proofs.Common.{true, false, [], ◌∷◌, sym, ap, subst, ◌∙◌}
use Rattle.coap_message.specs.Views.{message_in}
use Rattle.history_model.specs.Versions.{VersionStandsFor}
use Rattle.event_model.specs.declared.notes.Note.TheVariants as note
use Rattle.journal_model.specs.Changes.{body_used}
use Rattle.journal_model.specs.Journal.{entries}
use Rattle.journal_model.specs.Registrations.{block1_option}
use Rattle.journal_model.specs.Rows.{row_moment}
use Rattle.rd_desk.specs.calls.Desks.{Seen}
use Rattle.rd_desk.specs.parts.Outcomes.{IsPlanned, IsTimely}
use Rattle.rd_desk.specs.parts.Laying.{IsNextOf}
use Rattle.rd_desk.specs.parts.Purposes.{purpose_of}
use Rattle.rd_desk.proofs.changes.StagingLaws.{
  next_told,
  swept_planned,
  of_laid,
  laid_planned,
  laid_kept,
}
use Rattle.rd_desk.proofs.changes.UploadLaws.{links_enter, planned_here}
use Rattle.rd_desk.proofs.tables.Tables.commit_body.Goals as goal

pub staged-requires-clause-next : goal.staged-requires-clause-next
staged-requires-clause-next g c =
    next_told _ c.args.self.now.version c.whole_outcome-planned.result c.requires.told
    (λ history stands. c.whole_outcome-planned.ensures.next history
    (subst (VersionStandsFor 0 history)
    (sym (c.deref.ensures ∙ ap (λ (d : Seen). d.version) c.self.view_is)) stands))

pub staged-requires-clause-swept : goal.staged-requires-clause-swept
staged-requires-clause-swept g c =
    swept_planned c.whole_outcome-planned.result _ c.whole_outcome-planned.ensures.moments

pub settle_upload-requires-clause-timely : goal.settle_upload-requires-clause-timely
settle_upload-requires-clause-timely g c =
    subst (λ (d : Seen). IsTimely d.moment c.in-Ok.outcome) c.self.view_is
    (of_laid (IsTimely _) c.whole_outcome-planned.result c.in-Ok.outcome c.in-Ok.ensures.same
    c.whole_outcome-planned.ensures.moments)

pub returns-in-Ok-clause-way : goal.returns-in-Ok-clause-way
returns-in-Ok-clause-way g c =
    λ rows s place of opened way.
    let purpose =
    purpose_of c.args.bringing.now.purpose
    (message_in c.args.bringing.now.write.request.meaning.view) in
    let options = block1_option c.args.body.now.last in
    let further = note.Finished s.peer c.args.body.now.key.now ∷ [] in
    c.settle_upload.ensures.way rows s false place
    (body_used purpose (entries rows) (row_moment rows s) s c.args.body.now.octets.now options
    further)
    of opened
    (λ entry more noted. links_enter purpose (entries rows) (row_moment rows s) s
    c.args.body.now.octets.now options further entry more noted)
    (planned_here rows s false _ c.args.self.now c.deref.result.now c.args.out.now c.args.mids.now
    purpose c.args.body.now.octets.now options further c.in-Ok.outcome c.self.view_is
    c.deref.ensures
    (λ history h.
    of_laid (λ o. IsPlanned history _ further _ o) c.whole_outcome-planned.result c.in-Ok.outcome
    c.in-Ok.ensures.same (c.whole_outcome-planned.ensures.planned history s further h of))
    way) way

pub returns-in-Ok-clause-laid : goal.returns-in-Ok-clause-laid
returns-in-Ok-clause-laid g c =
    laid_planned c.args.self.now.version _ c.in-Ok.outcome.entering _ _ _ c.in-Ok.ensures.laid
    c.settle_upload.ensures.version
    (λ history stands. of_laid (IsNextOf history) c.whole_outcome-planned.result c.in-Ok.outcome
    c.in-Ok.ensures.same
    (c.whole_outcome-planned.ensures.next history
    (subst (VersionStandsFor 0 history)
    (sym (c.deref.ensures ∙ ap (λ (d : Seen). d.version) c.self.view_is)) stands)))
    c.in-Ok.ensures.none_laid

pub returns-in-Err-clause-way : goal.returns-in-Err-clause-way
returns-in-Err-clause-way g c =
    λ rows s place of opened way. c.fail.ensures.way rows s true place of opened way

pub returns-in-Err-clause-laid : goal.returns-in-Err-clause-laid
returns-in-Err-clause-laid g c =
    laid_kept c.args.self.now.version _ _ _ _ c.fail.ensures.version c.in-Err.ensures.kept
    c.in-Err.ensures.none_kept
