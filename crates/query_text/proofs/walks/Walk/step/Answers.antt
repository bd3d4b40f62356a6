-- The option that was read, and what it is refused for.
use Rattle.std.proofs.Common.{Some, None, sym, ◌∙◌}
use Rattle.query_text.proofs.WalkLaws.{ended, refused}
use Rattle.query_text.proofs.walks.Walk.step.Goals as goal

pub returns-in-Some-missing-clause-step : goal.returns-in-Some-missing-clause-step
returns-in-Some-missing-clause-step g c =
    ended c.args.self.now (g.Q.Pieces.left c.args.queries.now) (Some c.in-Some-missing.why)
    c.in_default.ensures.none.0 (sym c.in-Some-missing.is ∙ c.missing.ensures)

pub returns-in-None-clause-step : goal.returns-in-None-clause-step
returns-in-None-clause-step g c = (
  c.in_default.ensures.none.0,
  ended c.args.self.now (g.Q.Pieces.left c.args.queries.now) None
      c.in_default.ensures.none.0 (sym c.in-None.is ∙ c.missing.ensures),
)

pub returns-in-Err-clause-step : goal.returns-in-Err-clause-step
returns-in-Err-clause-step g c =
    refused c.args.self.now (g.Q.Pieces.left c.args.queries.now) c.in-Some.option.now _ c.in-Err.why
    c.in-Some.ensures.some c.in-Err.ensures.fault
