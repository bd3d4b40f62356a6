-- From what the parameters give.
use Rattle.std.proofs.Common.{◌≡◌, subst, Ok}
use Rattle.record_model.proofs.AllowedLaws.{registration_allowed}
use Rattle.record_model.specs.Parameters.{registration_parameters}
use Rattle.query_text.specs.Outcomes.{Answers}
use Rattle.query_text.proofs.Results.{registration_refused, registration_good}
use Rattle.query_text.proofs.parameters.reg_params.Goals as goal

pub returns-in_err-given-clause-value : goal.returns-in_err-given-clause-value
returns-in_err-given-clause-value g c =
    subst (λ k.
    Answers c.from_residual.result
    (registration_parameters k (g.Q.Pieces.left c.args.queries)))
    c.registering.ensures.kind
    (registration_refused c.registering.result (g.Q.Pieces.left c.args.queries)
    c.in_err-given.field-0.0 c.from_residual.result c.in_err-given.ensures
    c.from_residual.ensures.1)

pub returns-clause-value : goal.returns-clause-value
returns-clause-value g c =
    subst (λ k.
    registration_parameters k (g.Q.Pieces.left c.args.queries)
    ≡ Ok c.registration_of.result) c.registering.ensures.kind
    (registration_good c.registering.result (g.Q.Pieces.left c.args.queries) c.in_ok-given.given
    c.registration_of.result c.in_ok-given.ensures c.registration_of.ensures)

pub returns-clause-allowed : goal.returns-clause-allowed
returns-clause-allowed g c =
    registration_allowed c.registering.result (g.Q.Pieces.left c.args.queries)
    c.registration_of.result c.registering.ensures.no_update
    (registration_good c.registering.result (g.Q.Pieces.left c.args.queries) c.in_ok-given.given
    c.registration_of.result c.in_ok-given.ensures c.registration_of.ensures)
