use Rattle.std.proofs.Common.{sym, ap, ◌∙◌}
use Rattle.message_model.specs.Refusals.{refusal_of}
use Rattle.coap_message.specs.Views.{message_in}
use Rattle.journal_model.specs.Requests.{has_bad_query, has_bad_payload}
use Rattle.rd_request.proofs.AskedLaws.{query_refused, payload_refused, none_refused}
use Rattle.rd_request.proofs.requests.asked.Goals as goal

pub returns-then-has_bad_query-clause-refused : goal.returns-then-has_bad_query-clause-refused
returns-then-has_bad_query-clause-refused c =
    let m = message_in c.args.view.now in
    query_refused m c.in-Ok.ensures.accepted
    (sym (c.has_bad_query.ensures ∙ ap has_bad_query c.in-Ok.ensures.meaning.view)
    ∙ c.if-has_bad_query.true)

pub returns-then-has_bad_payload-clause-refused : goal.returns-then-has_bad_payload-clause-refused
returns-then-has_bad_payload-clause-refused c =
    let m = message_in c.args.view.now in
    payload_refused m c.in-Ok.ensures.accepted
    (sym (c.has_bad_query.ensures ∙ ap has_bad_query c.in-Ok.ensures.meaning.view)
    ∙ c.if-has_bad_query.false)
    (sym (c.has_bad_payload.ensures ∙ ap has_bad_payload c.in-Ok.ensures.meaning.view)
    ∙ c.if-has_bad_payload.true)

pub accepted-requires : goal.accepted-requires
accepted-requires c =
    none_refused (message_in c.in-Ok.meaning.view)
    (ap refusal_of c.in-Ok.ensures.meaning.view ∙ c.in-Ok.ensures.accepted)
    (sym c.has_bad_query.ensures ∙ c.if-has_bad_query.false)
    (sym c.has_bad_payload.ensures ∙ c.if-has_bad_payload.false)
