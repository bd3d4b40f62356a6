use Rattle.std.proofs.Common.{refl, ap, subst}
use Rattle.observation.specs.Watching.{WatchingStandsFor}
use Rattle.rd_desk.specs.calls.Desks.{Seen}
use Rattle.rd_desk.proofs.ticking.CarryLaws.{carries_notification}
use Rattle.rd_desk.proofs.tables.Tables.send_new.Goals as goal

pub returns : goal.returns
returns c rows s starved current whole ready from rest next h =
    let shown = ap (λ (d : Seen). d.watching) c.self.view_is in
    carries_notification rows s starved current whole ready _ c.args.self.now c.formed.new.self _
    c.args.out.now c.send_to.new.out c.args.mids.now c.next-drawn.new.self from c.args.index
    c.args.sent c.args.body rest
    c.self.view_is refl (λ past stands. next past (subst (WatchingStandsFor past) shown stands))
    (λ done x there unsent fits resends stands. c.formed.ensures.stands rows s starved done x there
    unsent fits resends stands)
    (λ x there room short. c.send_to.ensures x there room short) c.next-drawn.ensures.worker
    c.next-drawn.ensures.drawn h
