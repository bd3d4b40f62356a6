use Rattle.std.proofs.Common.{sym, subst}
use Rattle.directory_core.specs.Shown.{IsKept}
use Rattle.directory_core.proofs.AnswerLaws.{removal_gone, removal_answers}
use Rattle.directory_core.proofs.directory.Directory.remove.Goals as goal

pub returns-in_default-clause-refused : goal.returns-in_default-clause-refused
returns-in_default-clause-refused c first history entry stands h =
    (removal_gone first history c.args.self.now c.args.now c.args.number entry
    c.requires.after_sweep stands (sym c.in_default.ensures.value) h).refused

pub returns-clause-stands : goal.returns-clause-stands
returns-clause-stands c first history entry stands h =
    let v = c.args.self.now in
    let i = c.self.inside in
    let kept : IsKept v i.names i.leases i.live i.text =
    subst (λ w. IsKept w i.names i.leases i.live i.text) c.self.view_is c.self.invariant.0 in
    (removal_answers first history v i.names i.leases i.live i.text c.args.now c.args.number
    c.in-Some.old.now entry kept c.requires.after_at c.requires.after_sweep stands
    c.in-Some.ensures.there c.in-Some.ensures.live h c.without.result c.without.ensures).stands

pub returns-clause-accepted : goal.returns-clause-accepted
returns-clause-accepted c first history entry stands h =
    let v = c.args.self.now in
    let i = c.self.inside in
    let kept : IsKept v i.names i.leases i.live i.text =
    subst (λ w. IsKept w i.names i.leases i.live i.text) c.self.view_is c.self.invariant.0 in
    (removal_answers first history v i.names i.leases i.live i.text c.args.now c.args.number
    c.in-Some.old.now entry kept c.requires.after_at c.requires.after_sweep stands
    c.in-Some.ensures.there c.in-Some.ensures.live h c.without.result
    c.without.ensures).accepted

pub returns-clause-refused : goal.returns-clause-refused
returns-clause-refused c first history entry stands h =
    let v = c.args.self.now in
    let i = c.self.inside in
    let kept : IsKept v i.names i.leases i.live i.text =
    subst (λ w. IsKept w i.names i.leases i.live i.text) c.self.view_is c.self.invariant.0 in
    (removal_answers first history v i.names i.leases i.live i.text c.args.now c.args.number
    c.in-Some.old.now entry kept c.requires.after_at c.requires.after_sweep stands
    c.in-Some.ensures.there c.in-Some.ensures.live h c.without.result c.without.ensures).refused
