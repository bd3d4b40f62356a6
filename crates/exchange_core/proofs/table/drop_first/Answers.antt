use Rattle.std.proofs.Common.{sym, ◌∙◌}
use Rattle.rd_base.proofs.lemmas.Firsts.{without_first-at, without_first-nowhere}
use Rattle.exchange_core.specs.Table.{is_admitted_at}
use Rattle.exchange_core.proofs.table.drop_first.Goals as goal

pub returns-in-Some : goal.returns-in-Some
returns-in-Some c =
    c.remove.ensures
    ∙ without_first-at (is_admitted_at c.args.peer c.args.mid c.args.admitted.0) c.args.queue.now
    c.in-Some.index (sym c.in-Some.ensures)

pub returns-in_default : goal.returns-in_default
returns-in_default c =
    without_first-nowhere (is_admitted_at c.args.peer c.args.mid c.args.admitted.0) c.args.queue.now
    (sym c.in_default.ensures)
