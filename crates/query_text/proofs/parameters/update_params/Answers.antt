-- From what the parameters give.
use Rattle.record_model.proofs.AllowedLaws.{update_allowed}
use Rattle.query_text.proofs.Results.{update_refused, update_good}
use Rattle.query_text.proofs.parameters.update_params.Goals as goal

pub returns-in_err-given-clause-value : goal.returns-in_err-given-clause-value
returns-in_err-given-clause-value g c =
    update_refused (g.Q.Pieces.left c.args.queries) c.in_err-given.field-0.0 c.from_residual.result
    c.in_err-given.ensures c.from_residual.ensures.1

pub returns-clause-value : goal.returns-clause-value
returns-clause-value g c =
    update_good (g.Q.Pieces.left c.args.queries) c.in_ok-given.given c.update_of.result
    c.in_ok-given.ensures c.update_of.ensures

pub returns-clause-allowed : goal.returns-clause-allowed
returns-clause-allowed g c =
    update_allowed (g.Q.Pieces.left c.args.queries) c.update_of.result
    (update_good (g.Q.Pieces.left c.args.queries) c.in_ok-given.given c.update_of.result
    c.in_ok-given.ensures c.update_of.ensures)
