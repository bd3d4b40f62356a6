use Rattle.std.proofs.Common.{◌∙◌}
use Rattle.coap_message.specs.Views.{message_in}
use Rattle.rd_desk.proofs.parts.LookupLaws.{formed_found, formed_nothing}
use Rattle.rd_desk.proofs.tables.Tables.form_later.Goals as goal

pub returns-in_default-clause-formed : goal.returns-in_default-clause-formed
returns-in_default-clause-formed c history stands =
    formed_nothing (message_in c.args.request.now.meaning.view) history _ c.args.self.now
    c.deref.result.now c.in_ok-found.found c.self.view_is c.deref.ensures c.in_default.is
    (c.in_ok-found.ensures history) stands

pub returns-clause-formed : goal.returns-clause-formed
returns-clause-formed c history stands =
    formed_found c.has_asked_block-keep.result c.args.request.now.asked c.as_slice.result.now
    c.in-Some.listed (message_in c.args.request.now.meaning.view) c.in_ok-formed.formed history _
    c.args.self.now c.deref.result.now c.in_ok-found.found c.has_asked_block-keep.ensures
    c.args.request.now.asked_said (c.as_slice.ensures.value ∙ c.deref-2.ensures) c.self.view_is
    c.deref.ensures c.in-Some.is (c.in_ok-found.ensures history) stands
    c.in_ok-formed.ensures.formed
