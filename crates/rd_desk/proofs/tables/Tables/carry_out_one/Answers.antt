use Rattle.std.proofs.Common.{◌∷◌, ap, subst}
use Rattle.observation.specs.Watching.{WatchingStandsFor}
use Rattle.rd_desk.specs.declared.tick.planning.Planned.{Planned}
use Rattle.rd_desk.specs.calls.Desks.{Seen}
use Rattle.rd_desk.specs.parts.Planning.{CarryingOut}
use Rattle.rd_desk.proofs.ticking.CarryLaws.{carries_unchanged}
use Rattle.rd_desk.proofs.tables.Tables.carry_out_one.Goals as goal

pub returns-in-Unchanged : goal.returns-in-Unchanged
returns-in-Unchanged c rows s starved current whole ready from rest next h =
    let shown = ap (λ (d : Seen). d.watching) c.self.view_is in
    carries_unchanged rows s starved current whole ready _ c.args.self.now c.unchanged.new.self
    c.args.out.now c.args.mids.now from c.args.index rest c.self.view_is
    (λ past stands. next past (subst (WatchingStandsFor past) shown stands))
    (λ done x there stands. c.unchanged.ensures.stands rows s starved done x there stands)
    (subst (λ (p : Planned).
    CarryingOut rows s starved current whole ready c.args.self.now c.args.out.now
    c.args.mids.now from (p ∷ rest)) c.in-Unchanged.is h)
