use Rattle.std.proofs.Common.{◌≡◌, ℕ, List, IfOk, refl, ap, subst, ◌∙◌}
use Rattle.record_model.specs.Criteria.{fault_of}
use Rattle.record_model.specs.Parameters.{registration_values}
use Rattle.query_text.specs.Outcomes.{registering}
use Rattle.rd_request.proofs.parameters.given_params.Goals as goal

pub faultless_reg_params-requires : goal.faultless_reg_params-requires
faultless_reg_params-requires c k = (
  (refl, tt),
  (
    c.requires.0,
    ap (fault_of (registering c.requires.0)) c.queries.ensures ∙ c.requires.1,
  ),
)

pub returns-clause-value : goal.returns-clause-value
returns-clause-value c =
    subst (λ (queries : List (List ℕ)).
    IfOk c.faultless_reg_params.result (λ params. params ≡ registration_values queries))
    c.queries.ensures c.faultless_reg_params.ensures.value
