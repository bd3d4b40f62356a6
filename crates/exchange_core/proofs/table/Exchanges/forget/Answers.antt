use Rattle.std.proofs.Common.{ap, subst, sym, ◌∙◌}
use Rattle.rd_base.specs.Firsts.{without_first}
use Rattle.exchange_core.specs.Table.{Table, InOrder, is_admitted_at}
use Rattle.exchange_core.specs.ExchangeEvents.{ExchangesStandFor}
use Rattle.exchange_core.proofs.RowLaws.{InOrder-without}
use Rattle.exchange_core.proofs.TableLaws.{ExchangesStandFor-failed}
use Rattle.exchange_core.proofs.table.Exchanges.forget.Goals as goal

pub invariant_of-self : goal.invariant_of-self
invariant_of-self c =
    subst (InOrder c.self.inside.moment.0) (sym c.drop_first.ensures)
    (InOrder-without (is_admitted_at c.args.peer c.args.mid c.args.admitted.0)
    c.self.inside.moment.0 c.self.inside.queue c.self.invariant)

pub returns-clause-stands : goal.returns-clause-stands
returns-clause-stands c at events e place it is stands =
    ExchangesStandFor-failed at place c.args.peer c.args.mid c.args.admitted.0 e events
    (record { moment = c.self.inside.moment.0; exchanges = c.self.inside.queue })
    (record { moment = c.self.inside.moment.0; exchanges = c.drop_first.new.queue }) is it.orderly
    it.admission c.drop_first.ensures
    (subst (ExchangesStandFor at events) (sym c.self.view_is) stands)

pub returns-clause-forgotten : goal.returns-clause-forgotten
returns-clause-forgotten c =
    c.drop_first.ensures
    ∙ ap (λ (t : Table).
    without_first (is_admitted_at c.args.peer c.args.mid c.args.admitted.0) t.exchanges)
    c.self.view_is
