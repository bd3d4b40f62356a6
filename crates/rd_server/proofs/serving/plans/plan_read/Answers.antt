use Rattle.std.proofs.Common.{◌≡◌, Some, rules, ◌∙◌}
use Rattle.std.proofs.lemmas.Option.{none-some, same_Some}
use Rattle.rd_server.specs.serving.Plans.{plan_found}
use Rattle.rd_server.proofs.service.PlanReads.{plan_found-plan}
use Rattle.rd_server.proofs.serving.plans.plan_read.Goals as goal

pub unreachable-requires : goal.unreachable-requires
unreachable-requires c =
    let found : plan_found c.args.plan.tcp c.in-Ok.matches ≡ Some c.args.plan =
    plan_found-plan c.args.plan c.in-Ok.matches c.requires
    (c.in-Ok.ensures c.args.plan
    (search rules)) in
    none-some c.args.plan (c.in_default-plan_in.ensures ∙ found)

pub returns : goal.returns
returns c =
    let found : plan_found c.args.plan.tcp c.in-Ok.matches ≡ Some c.args.plan =
    plan_found-plan c.args.plan c.in-Ok.matches c.requires
    (c.in-Ok.ensures c.args.plan
    (search rules)) in
    same_Some c.in-Some.read c.args.plan (c.in-Some.ensures ∙ found)
