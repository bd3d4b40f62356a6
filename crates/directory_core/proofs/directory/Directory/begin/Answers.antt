use Rattle.std.proofs.Common.{subst}
use Rattle.directory_core.specs.Shown.{IsKept}
use Rattle.directory_core.proofs.AnswerLaws.{beginning_answers}
use Rattle.directory_core.proofs.directory.Directory.begin.Goals as goal

pub returns-clause-stands : goal.returns-clause-stands
returns-clause-stands c counted history entry stands h =
    let v = c.args.self.now in
    let i = c.self.inside in
    let kept : IsKept v i.names i.leases i.live i.text =
    subst (λ w. IsKept w i.names i.leases i.live i.text) c.self.view_is c.self.invariant.0 in
    (beginning_answers counted history v i.names i.leases i.live i.text c.args.now c.args.first
    entry kept c.requires.after_at c.requires.after_sweep stands h c.begun.result
    c.begun.ensures).stands

pub returns-clause-accepted : goal.returns-clause-accepted
returns-clause-accepted c counted history entry stands h =
    let v = c.args.self.now in
    let i = c.self.inside in
    let kept : IsKept v i.names i.leases i.live i.text =
    subst (λ w. IsKept w i.names i.leases i.live i.text) c.self.view_is c.self.invariant.0 in
    (beginning_answers counted history v i.names i.leases i.live i.text c.args.now c.args.first
    entry kept c.requires.after_at c.requires.after_sweep stands h c.begun.result
    c.begun.ensures).accepted

pub returns-clause-refused : goal.returns-clause-refused
returns-clause-refused c counted history entry stands h =
    let v = c.args.self.now in
    let i = c.self.inside in
    let kept : IsKept v i.names i.leases i.live i.text =
    subst (λ w. IsKept w i.names i.leases i.live i.text) c.self.view_is c.self.invariant.0 in
    (beginning_answers counted history v i.names i.leases i.live i.text c.args.now c.args.first
    entry kept c.requires.after_at c.requires.after_sweep stands h c.begun.result
    c.begun.ensures).refused
