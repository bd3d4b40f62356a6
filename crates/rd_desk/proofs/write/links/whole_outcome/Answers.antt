use Rattle.std.proofs.Common.{true, false, ◌≡◌, sym, subst, IfOk}
use Rattle.message_model.specs.Request.{queries_in}
use Rattle.coap_message.specs.Views.{message_in}
use Rattle.record_model.specs.declared.readings.Reading.TheVariants as reading
use Rattle.record_model.specs.Criteria.{fault_of}
use Rattle.rd_base.specs.declared.parameters.RegParams.{RegParams}
use Rattle.journal_model.specs.Changes.{body_used, registration}
use Rattle.coap_answers.specs.Replies.{block1_options}
use Rattle.rd_request.proofs.AskedLaws.{none_there}
use Rattle.rd_desk.specs.declared.write.asked.Purpose.{Purpose}
use Rattle.rd_desk.specs.parts.Outcomes.{IsPlanned}
use Rattle.rd_desk.specs.parts.Purposes.{purpose_of, has_good_params}
use Rattle.rd_desk.proofs.write.links.whole_outcome.Goals as goal

pub given_params-requires : goal.given_params-requires
given_params-requires c = (
  false,
  none_there (fault_of reading.Register
      (queries_in (message_in c.args.bringing.now.write.request.meaning.view)))
      (subst (λ (p : Purpose).
      has_good_params p (message_in c.args.bringing.now.write.request.meaning.view) ≡ true)
      c.in-Register.is c.args.bringing.now.good),
)

pub returns-in_ok-params-in-Register-clause-planned :
    goal.returns-in_ok-params-in-Register-clause-planned
returns-in_ok-params-in-Register-clause-planned c history s further stands from =
    let m = message_in c.args.bringing.now.write.request.meaning.view in
    subst (λ (p : Purpose).
    IfOk c.registered.result (IsPlanned history c.args.version.now.swept further
    (body_used (purpose_of p m) history c.args.now.0 s c.args.body.now
    (block1_options c.args.block1) further)))
    (sym c.in-Register.is)
    (subst (λ (params : RegParams).
    IfOk c.registered.result (IsPlanned history c.args.version.now.swept further
    (registration history c.args.now.0 s params c.args.body.now (block1_options c.args.block1)
    further)))
    c.in_ok-params-in-Register.ensures.value
    (c.registered.ensures.planned history s further stands from))

pub returns-in-Replace-clause-planned : goal.returns-in-Replace-clause-planned
returns-in-Replace-clause-planned c history s further stands from =
    subst (λ (p : Purpose).
    IfOk c.replaced.result (IsPlanned history c.args.version.now.swept further
    (body_used (purpose_of p (message_in c.args.bringing.now.write.request.meaning.view)) history
    c.args.now.0 s c.args.body.now (block1_options c.args.block1) further)))
    (sym c.in-Replace.is) (c.replaced.ensures.planned history s further stands)
