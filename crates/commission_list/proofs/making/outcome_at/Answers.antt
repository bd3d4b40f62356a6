use Rattle.std.proofs.Common.{Some, None, ap}
use Rattle.commission_list.specs.Makings.{is_there}
use Rattle.commission_list.proofs.MakingLaws.{outcome_none, outcome_some}
use Rattle.commission_list.proofs.making.outcome_at.Goals as goal

pub returns-in-Some-Some : goal.returns-in-Some-Some
returns-in-Some-Some c =
    outcome_some c.args.outcomes.now c.args.at c.get.result c.in-Some-Some.field-0
    (Some c.in-Some-Some.outcome) c.get.ensures.lookup c.in-Some-Some.is
    c.in-Some-Some.field-0-is

pub returns-in-Some-None : goal.returns-in-Some-None
returns-in-Some-None c =
    ap is_there
    (outcome_some c.args.outcomes.now c.args.at c.get.result c.in-Some-None.field-0 None
    c.get.ensures.lookup c.in-Some-None.is c.in-Some-None.field-0-is)

pub returns-in-None : goal.returns-in-None
returns-in-None c =
    outcome_none c.args.outcomes.now c.args.at c.get.result c.get.ensures.lookup c.in-None.is
