use Rattle.std.proofs.Common.{refl, ◌∙◌}
use Rattle.coap_message.specs.Views.{message_in}
use Rattle.journal_model.specs.Bodies.{is_long}
use Rattle.rd_desk.proofs.parts.LookupLaws.{formed_now}
use Rattle.rd_desk.proofs.tables.Tables.form_first.Goals as goal

pub returns-clause-formed : goal.returns-clause-formed
returns-clause-formed c history stands =
    let m = message_in c.args.request.now.meaning.view in
    formed_now is_long c.is_long-keep.result c.args.request.now.asked c.as_slice.result.now
    c.in_ok-listed.listed m c.form.result history _ c.args.self.now c.deref.result.now
    c.args.query.now c.args.query.now
    c.is_long-keep.ensures c.args.request.now.asked_said
    (c.as_slice.ensures.value ∙ c.deref-2.ensures) c.self.view_is c.deref.ensures refl
    (c.in_ok-listed.ensures history) stands c.form.ensures.formed
