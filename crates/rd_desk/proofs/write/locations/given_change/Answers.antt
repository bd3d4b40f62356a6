use Rattle.std.proofs.Common.{◌≡◌, ℕ, List, IfOk, refl, ap, subst, ◌∙◌}
use Rattle.coap_message.specs.Views.{message_in}
use Rattle.message_model.specs.Request.{queries_in}
use Rattle.record_model.specs.declared.readings.Reading.TheVariants as reading
use Rattle.record_model.specs.Criteria.{fault_of}
use Rattle.record_model.specs.Parameters.{update_values}
use Rattle.rd_request.proofs.AskedLaws.{none_there}
use Rattle.rd_desk.proofs.write.locations.given_change.Goals as goal

pub faultless_update_params-requires : goal.faultless_update_params-requires
faultless_update_params-requires c k = (
  (refl, tt),
  ap (fault_of reading.Update) c.queries.ensures
      ∙ none_there (fault_of reading.Update
      (queries_in (message_in c.args.updating.now.write.request.meaning.view)))
      c.args.updating.now.good,
)

pub returns-clause-value : goal.returns-clause-value
returns-clause-value c =
    subst (λ (queries : List (List ℕ)).
    IfOk c.faultless_update_params.result (λ change. change ≡ update_values queries))
    c.queries.ensures c.faultless_update_params.ensures.value
