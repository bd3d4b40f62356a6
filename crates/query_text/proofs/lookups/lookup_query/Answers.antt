-- From what the options ask for.
use Rattle.query_text.proofs.LookupResults.{lookup_refused, lookup_good}
use Rattle.query_text.proofs.lookups.lookup_query.Goals as goal

pub returns-in_err-asked : goal.returns-in_err-asked
returns-in_err-asked g c =
    lookup_refused c.args.kind (g.Q.Pieces.left c.args.queries) c.in_err-asked.field-0.0
    c.from_residual.result c.in_err-asked.ensures c.from_residual.ensures.1

pub returns : goal.returns
returns g c =
    lookup_good c.args.kind (g.Q.Pieces.left c.args.queries) c.in_ok-asked.asked c.query_of.result
    c.in_ok-asked.ensures c.query_of.ensures
