use Rattle.std.proofs.Common.{sym, subst}
use Rattle.history_model.specs.Versions.{Version, VersionStandsFor}
use Rattle.rd_desk.proofs.tick.ticks.swept.Goals as goal

pub returns-clause-stands : goal.returns-clause-stands
returns-clause-stands g c history h =
    subst (λ (v : Version). VersionStandsFor 0 history v) (sym c.in_ok-shared.ensures.ok)
    (c.in_ok-left.ensures.stands 0 history h)
