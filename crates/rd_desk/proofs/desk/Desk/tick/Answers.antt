use Rattle.std.proofs.Common.{sym, subst, ap}
use Rattle.rd_desk.specs.calls.Desks.{Seen}
use Rattle.rd_desk.specs.calls.Steps.{IsCalled}
use Rattle.rd_desk.proofs.desk.Desk.tick.Goals as goal

pub returns-clause-made : goal.returns-clause-made
returns-clause-made g c rows s kind worded called =
    c.tick.ensures.made rows s kind worded
    (subst (λ (d : Seen). IsCalled rows s c.args.now c.args.mids.now d)
    (sym (ap (λ x. x.tables) c.self.view_is)) called)

pub returns-clause-unstarved : goal.returns-clause-unstarved
returns-clause-unstarved g c rows s kind called silent =
    c.tick.ensures.unstarved rows s kind
    (subst (λ (d : Seen). IsCalled rows s c.args.now c.args.mids.now d)
    (sym (ap (λ x. x.tables) c.self.view_is)) called) silent
