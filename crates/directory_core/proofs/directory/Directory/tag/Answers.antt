use Rattle.std.proofs.Common.{◌≡◌, ◌+◌, ◌-◌, ap, ap₂, ◌∙◌, subst, arith}
use Rattle.history_model.specs.Listing.{tag_octets}
use Rattle.history_model.specs.Versions.{Version}
use Rattle.history_model.proofs.VersionLaws.{tag_from-VersionStandsFor}
use Rattle.directory_core.specs.declared.counts.Counts.{Counts}
use Rattle.directory_core.specs.Shown.{IsKept}
use Rattle.directory_core.proofs.ReadLaws.{lapsed-counted, tag-counted}
use Rattle.directory_core.proofs.directory.Directory.tag.Goals as goal

pub overflow_sub-lapsed : goal.overflow_sub-lapsed
overflow_sub-lapsed c =
    let v = c.args.self.now in
    let i = c.self.inside in
    let kept : IsKept v i.names i.leases i.live i.text =
    subst (λ w. IsKept w i.names i.leases i.live i.text) c.self.view_is c.self.invariant.0 in
    let live = ap (λ (x : Counts). x.live) c.counts_at.ensures in
    let all =
    lapsed-counted v i.names i.leases i.live i.text c.args.now.0 kept c.requires.after_at
    c.requires.after_sweep in
    omega (arith, live, all)

pub returns : goal.returns
returns c first history stands =
    let v = c.args.self.now in
    let i = c.self.inside in
    let kept : IsKept v i.names i.leases i.live i.text =
    subst (λ w. IsKept w i.names i.leases i.live i.text) c.self.view_is c.self.invariant.0 in
    let live = ap (λ (x : Counts). x.live) c.counts_at.ensures in
    let swept : i.swept_live ≡ v.swept_live = ap (λ (w : Version). w.swept_live) c.self.view_is in
    let gone =
    tag-counted v i.names i.leases i.live i.text c.args.now.0 c.counts_at.result.live kept
    c.requires.after_at c.requires.after_sweep live in
    c.tag_of.ensures
    ∙ ap₂ tag_octets (ap (λ (w : Version). w.entries) c.self.view_is)
    (ap (λ n. n + (i.live - c.counts_at.result.live)) swept ∙ gone)
    ∙ tag_from-VersionStandsFor first history v c.args.now.0 stands c.requires.after_sweep
