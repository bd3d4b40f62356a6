use Rattle.std.proofs.Common.{sym, subst, ap}
use Rattle.rd_desk.specs.calls.Desks.{Seen, StandsFor}
use Rattle.rd_desk.proofs.desk.Desk.watchers.Goals as goal

pub returns-clause-observers : goal.returns-clause-observers
returns-clause-observers g c rows stands =
    c.watchers.ensures.observers rows
    (subst (λ (d : Seen). StandsFor rows d) (sym (ap (λ x. x.tables) c.self.view_is)) stands)
