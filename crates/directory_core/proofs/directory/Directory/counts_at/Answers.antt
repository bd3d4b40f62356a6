use Rattle.std.proofs.Common.{ap, subst}
use Rattle.history_model.specs.Versions.{Version}
use Rattle.directory_core.specs.Shown.{IsKept}
use Rattle.directory_core.proofs.CountLaws.{counts-of_version}
use Rattle.directory_core.proofs.directory.Directory.counts_at.Goals as goal

pub returns : goal.returns
returns c =
    let v = c.args.self.now in
    let i = c.self.inside in
    let kept : IsKept v i.names i.leases i.live i.text =
    subst (λ w. IsKept w i.names i.leases i.live i.text) c.self.view_is c.self.invariant.0 in
    counts-of_version v i.records i.names i.leases i.live i.text c.counted_at-from.result.0
    c.args.now.0 c.lapsed.result kept c.requires.after_at c.requires.after_sweep
    (ap (λ (w : Version). w.records) c.self.view_is) c.counted_at-from.ensures c.lapsed.ensures
    c.counts_after.result c.counts_after.ensures
