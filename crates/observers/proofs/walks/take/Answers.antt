use Rattle.std.proofs.Common.{sym, ◌∙◌}
use Rattle.rd_base.proofs.lemmas.Firsts.{
  find-at,
  find-nowhere,
  without_first-at,
  without_first-nowhere,
}
use Rattle.observers.proofs.walks.take.Goals as goal

pub returns-in-Some-clause-found : goal.returns-in-Some-clause-found
returns-in-Some-clause-found c test there =
    sym (find-at test c.args.observers.now.items c.in-Some.at c.remove.result
    (sym there ∙ c.in-Some.is) c.remove.ensures.value)

pub returns-in-Some-clause-left : goal.returns-in-Some-clause-left
returns-in-Some-clause-left c test there =
    c.remove.ensures.items
    ∙ without_first-at test c.args.observers.now.items c.in-Some.at (sym there ∙ c.in-Some.is)

pub returns-in-None-clause-found : goal.returns-in-None-clause-found
returns-in-None-clause-found c test there =
    sym (find-nowhere test c.args.observers.now.items (sym there ∙ c.in-None.is))

pub returns-in-None-clause-left : goal.returns-in-None-clause-left
returns-in-None-clause-left c test there =
    without_first-nowhere test c.args.observers.now.items (sym there ∙ c.in-None.is)
