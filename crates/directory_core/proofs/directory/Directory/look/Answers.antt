use Rattle.std.proofs.Common.{◌∙◌, subst}
use Rattle.directory_core.specs.Shown.{IsKept}
use Rattle.directory_core.proofs.LookupLaws.{few_lines, lines-listing}
use Rattle.directory_core.proofs.directory.Directory.look.Goals as goal

pub returns-clause-listing : goal.returns-clause-listing
returns-clause-listing g c first history stands =
    let v = c.args.self.now in
    let i = c.self.inside in
    let query = c.args.query.now in
    let now = c.args.now.0 in
    let kept : IsKept v i.names i.leases i.live i.text =
    subst (λ w. IsKept w i.names i.leases i.live i.text) c.self.view_is c.self.invariant.0 in
    let few =
    few_lines query v i.names i.leases i.live i.text now kept c.requires.after_at
    c.requires.after_sweep in
    c.into_text.ensures
    ∙ c.in_ok-fill.ensures.lines
    ∙ c.of-page.ensures _ few
    ∙ lines-listing first history v query now stands c.requires.after_sweep
