use Rattle.std.proofs.Common.{sym, subst, ap}
use Rattle.rd_desk.specs.calls.Desks.{Seen}
use Rattle.rd_desk.specs.calls.Steps.{IsCalled}
use Rattle.rd_desk.proofs.desk.Desk.keep.Goals as goal

pub returns-clause-made : goal.returns-clause-made
returns-clause-made g c rows s kind peer datagram called =
    c.keep.ensures.made rows s kind peer datagram
    (subst (λ (d : Seen). IsCalled rows s c.args.now c.args.mids.now d)
    (sym (ap (λ x. x.tables) c.self.view_is)) called)
