use Rattle.std.proofs.Common.{ap, ◌∙◌, subst}
use Rattle.history_model.specs.Versions.{Version}
use Rattle.history_model.proofs.VersionLaws.{lapsing-VersionStandsFor}
use Rattle.lease_queue.specs.Leases.{lapsed_at}
use Rattle.directory_core.specs.LapseOrder.{in_order_of_lapse}
use Rattle.directory_core.specs.Lapsing.{lapsing_left}
use Rattle.directory_core.specs.Shown.{IsKept}
use Rattle.directory_core.proofs.LapsingLaws.{lapsing-leases}
use Rattle.directory_core.proofs.directory.Directory.lapsing.Goals as goal

pub returns : goal.returns
returns c first history stands =
    let v = c.args.self.now in
    let i = c.self.inside in
    let from = c.args.from.0 in
    let to = c.args.to.0 in
    let kept : IsKept v i.names i.leases i.live i.text =
    subst (λ w. IsKept w i.names i.leases i.live i.text) c.self.view_is c.self.invariant.0 in
    ap (λ rs. lapsing_left from rs c.lapsed.result) (ap (λ (w : Version). w.records) c.self.view_is)
    ∙ ap (lapsing_left from v.records) (c.lapsed.ensures ∙ ap (lapsed_at to) kept.leased)
    ∙ lapsing-leases from to v.records kept.rising
    ∙ ap in_order_of_lapse (lapsing-VersionStandsFor first history v from to stands c.requires)
