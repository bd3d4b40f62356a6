use Rattle.std.proofs.Common.{None, [], ap, ◌∙◌}
use Rattle.coap_message.specs.Views.{message_in}
use Rattle.journal_model.specs.Journal.{entries}
use Rattle.journal_model.specs.Registrations.{links_outcome}
use Rattle.journal_model.specs.Rows.{row_moment}
use Rattle.rd_desk.specs.calls.Desks.{Seen}
use Rattle.rd_desk.specs.calls.Stepping.{is_starved_step}
use Rattle.rd_desk.specs.parts.Purposes.{purpose_of}
use Rattle.rd_desk.proofs.changes.CommitLaws.{whole-at, planned_here}
use Rattle.rd_desk.proofs.tables.Tables.commit_whole.Goals as goal

pub returns-clause-way : goal.returns-clause-way
returns-clause-way g c =
    λ rows s place of opened way.
    let m = message_in c.args.bringing.now.write.request.meaning.view in
    let purpose = purpose_of c.args.bringing.now.purpose m in
    c.finish.ensures.way rows s place (links_outcome None purpose rows (row_moment rows s) s m) of
    opened (whole-at purpose rows (row_moment rows s) s m)
    (planned_here rows s (is_starved_step c.finish.result) c.args.self.now c.deref.result.now
    c.self.inside.moment.0 c.args.out.now c.args.mids.now c.whole_outcome-planned.result
    (λ at. links_outcome None purpose rows at s m)
    (c.deref.ensures ∙ ap (λ (d : Seen). d.version) c.self.view_is)
    (ap (λ (d : Seen). d.moment) c.self.view_is)
    (λ stands. c.whole_outcome-planned.ensures.planned (entries rows) s [] stands of) way) way
