use Rattle.std.proofs.Common.{◌≤◌, ap, subst, sym, ◌∙◌, length, arith}
use Rattle.exchange_core.specs.Table.{Table, InOrder, young}
use Rattle.exchange_core.proofs.RowLaws.{InOrder-later, InOrder-young, length-young}
use Rattle.exchange_core.proofs.TableLaws.{ExchangesStandFor-aged}
use Rattle.exchange_core.proofs.table.Exchanges.age.Goals as goal

pub drop_old-requires : goal.drop_old-requires
drop_old-requires c =
    InOrder-later c.self.inside.moment.0 c.args.now.0 c.self.inside.queue
    (subst (λ (t : Table). t.moment ≤ c.args.now.0) (sym c.self.view_is) c.requires)
    c.self.invariant

pub invariant_of-self : goal.invariant_of-self
invariant_of-self c =
    subst (InOrder c.args.now.0) (sym c.drop_old.ensures)
    (InOrder-young c.args.now.0 c.args.now.0 c.self.inside.queue
    (InOrder-later c.self.inside.moment.0 c.args.now.0 c.self.inside.queue
    (subst (λ (t : Table). t.moment ≤ c.args.now.0) (sym c.self.view_is) c.requires)
    c.self.invariant))

pub returns-clause-left : goal.returns-clause-left
returns-clause-left c =
    c.drop_old.ensures ∙ ap (λ (t : Table). young c.args.now.0 t.exchanges) c.self.view_is

pub returns-clause-stands : goal.returns-clause-stands
returns-clause-stands c at events h stands =
    ExchangesStandFor-aged at c.args.now.0 events c.args.self.now
    (record { moment = c.args.now.0; exchanges = c.drop_old.new.queue }) h
    (c.drop_old.ensures ∙ ap (λ (t : Table). young c.args.now.0 t.exchanges) c.self.view_is) stands
