use Rattle.std.proofs.Common.{sym, ◌∙◌}
use Rattle.simple_registration.specs.Table.{is_of}
use Rattle.rd_base.proofs.lemmas.Firsts.{without_first-at, without_first-nowhere}
use Rattle.simple_registration.proofs.table.drop_first.Goals as goal

pub returns-in-Some-clause-items : goal.returns-in-Some-clause-items
returns-in-Some-clause-items c =
    c.remove.ensures.items
    ∙ without_first-at (is_of c.args.peer.now) c.args.rows.now.items c.in-Some.index
    (sym c.in-Some.ensures)

pub returns-in_default-clause-items : goal.returns-in_default-clause-items
returns-in_default-clause-items c =
    without_first-nowhere (is_of c.args.peer.now) c.args.rows.now.items (sym c.in_default.ensures)
