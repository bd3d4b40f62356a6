use Rattle.std.proofs.Common.{ap, ◌∙◌}
use Rattle.coap_message.specs.Views.{message_in}
use Rattle.journal_model.specs.Commits.{removing}
use Rattle.journal_model.specs.Journal.{entries}
use Rattle.journal_model.specs.Rows.{row_moment}
use Rattle.rd_desk.specs.calls.Desks.{Seen}
use Rattle.rd_desk.specs.calls.Stepping.{is_starved_step}
use Rattle.rd_desk.proofs.changes.CommitLaws.{removing-at, planned_here}
use Rattle.rd_desk.proofs.tables.Tables.commit_removal.Goals as goal

pub returns-clause-way : goal.returns-clause-way
returns-clause-way g c =
    λ rows s place of opened way.
    let m = message_in c.args.write.now.request.meaning.view in
    c.finish.ensures.way rows s place (removing rows (row_moment rows s) s c.args.number) of opened
    (removing-at rows (row_moment rows s) s c.args.number)
    (planned_here rows s (is_starved_step c.finish.result) c.args.self.now c.deref.result.now
    c.self.inside.moment.0 c.args.out.now c.args.mids.now c.removed-planned.result
    (λ at. removing rows at s c.args.number)
    (c.deref.ensures ∙ ap (λ (d : Seen). d.version) c.self.view_is)
    (ap (λ (d : Seen). d.moment) c.self.view_is)
    (λ stands. c.removed-planned.ensures.planned (entries rows) s stands) way) way
