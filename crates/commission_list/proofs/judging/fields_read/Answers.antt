use Rattle.std.proofs.Common.{sym, ◌∙◌}
use Rattle.commission_list.proofs.JudgeLaws.{more_fields}
use Rattle.commission_list.proofs.judging.fields_read.Goals as goal

pub returns-then-is_some-clause-exact : goal.returns-then-is_some-clause-exact
returns-then-is_some-clause-exact c =
    more_fields c.args.line.now c.in-Some.uri.now c.in-Some.body.now c.cut-2.result
    c.in-Some.ensures c.cut-2.ensures
    (sym c.is_some.ensures ∙ c.if-is_some.true)
