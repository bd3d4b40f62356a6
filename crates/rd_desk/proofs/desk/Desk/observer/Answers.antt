use Rattle.std.proofs.Common.{sym, subst, ap}
use Rattle.rd_desk.specs.calls.Desks.{Seen, StandsFor}
use Rattle.rd_desk.proofs.desk.Desk.observer.Goals as goal

pub returns-clause-observer : goal.returns-clause-observer
returns-clause-observer g c rows o stands at =
    c.observer.ensures.observer rows o
    (subst (λ (d : Seen). StandsFor rows d) (sym (ap (λ x. x.tables) c.self.view_is)) stands) at
