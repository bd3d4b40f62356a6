use Rattle.std.proofs.Common.{ap, subst, sym, ◌∙◌}
use Rattle.rd_base.specs.Firsts.{changed_first}
use Rattle.exchange_core.specs.Table.{Table, InOrder, is_admitted_at, answered}
use Rattle.exchange_core.specs.ExchangeEvents.{ExchangesStandFor}
use Rattle.exchange_core.proofs.RowLaws.{InOrder-answered}
use Rattle.exchange_core.proofs.TableLaws.{ExchangesStandFor-settled}
use Rattle.exchange_core.proofs.table.Exchanges.settle.Goals as goal

pub invariant_of-self : goal.invariant_of-self
invariant_of-self c =
    subst (InOrder c.self.inside.moment.0) (sym c.answer_first.ensures)
    (InOrder-answered (is_admitted_at c.args.peer c.args.mid c.args.admitted.0) c.args.reply
    c.self.inside.moment.0 c.self.inside.queue c.self.invariant)

pub returns-clause-stands : goal.returns-clause-stands
returns-clause-stands c at events e place it is stands =
    ExchangesStandFor-settled at place c.args.peer c.args.mid c.args.admitted.0 c.args.reply e
    events (record { moment = c.self.inside.moment.0; exchanges = c.self.inside.queue })
    (record { moment = c.self.inside.moment.0; exchanges = c.answer_first.new.queue }) is it.orderly
    it.admission c.answer_first.ensures
    (subst (ExchangesStandFor at events) (sym c.self.view_is) stands)

pub returns-clause-answered : goal.returns-clause-answered
returns-clause-answered c =
    c.answer_first.ensures
    ∙ ap (λ (t : Table).
    changed_first (is_admitted_at c.args.peer c.args.mid c.args.admitted.0)
    (answered c.args.reply) t.exchanges) c.self.view_is
