use Rattle.std.proofs.Common.{subst, sym, map, ◌∙◌}
use Rattle.std.specs.String.{string_bytes}
use Rattle.rd_server.specs.serving.Plans.{IsPlan}
use Rattle.rd_server.proofs.service.PlanLaws.{said-IsPlan}
use Rattle.rd_server.proofs.serving.plans.serve_words.Goals as goal

pub plan_read-requires : goal.plan_read-requires
plan_read-requires c = subst IsPlan (sym c.plan.ensures)
    (said-IsPlan (map string_bytes c.args.words.now) c.in-Some.asked (sym c.in-Some.ensures))

pub returns-in-Ok-clause-within : goal.returns-in-Ok-clause-within
returns-in-Ok-clause-within c = subst IsPlan (sym (c.in-Ok.ensures ∙ c.plan.ensures))
    (said-IsPlan (map string_bytes c.args.words.now) c.in-Some.asked (sym c.in-Some.ensures))
