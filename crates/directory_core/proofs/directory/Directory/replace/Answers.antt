use Rattle.std.proofs.Common.{◌≡◌, sym, subst}
use Rattle.rd_base.specs.declared.records.Record.{Record}
use Rattle.history_model.specs.Replay.{replaced}
use Rattle.registration.specs.Drafts.{recorded}
use Rattle.directory_core.specs.Shown.{IsKept}
use Rattle.directory_core.proofs.AnswerLaws.{replacement_gone, replacement_answers}
use Rattle.directory_core.proofs.RenewLaws.{began, stays}
use Rattle.directory_core.proofs.directory.Directory.replace.Goals as goal

pub renewed-requires-clause-granted : goal.renewed-requires-clause-granted
renewed-requires-clause-granted c =
    began c.args.self.now c.args.now c.as_record-before.result.now c.in-Some.old.now
    c.as_record-before.ensures c.in-Some.ensures.sound c.requires.after_at

pub renewed-requires-clause-unlapsed : goal.renewed-requires-clause-unlapsed
renewed-requires-clause-unlapsed c =
    stays c.args.now c.as_record-before.result.now c.in-Some.old.now c.in_ok-draft.draft.lt
    c.as_record-before.ensures c.in_ok-draft.ensures.lease c.in-Some.ensures.live

pub returns-in_default-clause-refused : goal.returns-in_default-clause-refused
returns-in_default-clause-refused c first history entry stands h =
    (replacement_gone first history c.args.self.now c.args.now c.args.number c.args.links entry
    c.requires.after_sweep stands (sym c.in_default.ensures.value) h).refused

pub returns-clause-stands : goal.returns-clause-stands
returns-clause-stands c first history entry stands h =
    let v = c.args.self.now in
    let i = c.self.inside in
    let old = c.in-Some.old.now in
    let granted = c.as_record-before.result.now.granted in
    let kept : IsKept v i.names i.leases i.live i.text =
    subst (λ w. IsKept w i.names i.leases i.live i.text) c.self.view_is c.self.invariant.0 in
    let made : recorded old.number granted c.in_ok-draft.draft ≡ replaced c.args.links old
    = subst (λ (r : Record).
    recorded r.number granted c.in_ok-draft.draft ≡ replaced c.args.links r)
    c.as_record-before.ensures c.in_ok-draft.ensures.made in
    (replacement_answers first history v i.names i.leases i.live i.text c.args.now granted
    c.args.number c.args.links c.in_ok-draft.draft old entry kept c.requires.after_at
    c.requires.after_sweep stands c.in-Some.ensures.there c.in-Some.ensures.live made h
    c.renewed.result c.renewed.ensures).stands

pub returns-clause-accepted : goal.returns-clause-accepted
returns-clause-accepted c first history entry stands h =
    let v = c.args.self.now in
    let i = c.self.inside in
    let old = c.in-Some.old.now in
    let granted = c.as_record-before.result.now.granted in
    let kept : IsKept v i.names i.leases i.live i.text =
    subst (λ w. IsKept w i.names i.leases i.live i.text) c.self.view_is c.self.invariant.0 in
    let made : recorded old.number granted c.in_ok-draft.draft ≡ replaced c.args.links old
    = subst (λ (r : Record).
    recorded r.number granted c.in_ok-draft.draft ≡ replaced c.args.links r)
    c.as_record-before.ensures c.in_ok-draft.ensures.made in
    (replacement_answers first history v i.names i.leases i.live i.text c.args.now granted
    c.args.number c.args.links c.in_ok-draft.draft old entry kept c.requires.after_at
    c.requires.after_sweep stands c.in-Some.ensures.there c.in-Some.ensures.live made h
    c.renewed.result c.renewed.ensures).accepted

pub returns-clause-refused : goal.returns-clause-refused
returns-clause-refused c first history entry stands h =
    let v = c.args.self.now in
    let i = c.self.inside in
    let old = c.in-Some.old.now in
    let granted = c.as_record-before.result.now.granted in
    let kept : IsKept v i.names i.leases i.live i.text =
    subst (λ w. IsKept w i.names i.leases i.live i.text) c.self.view_is c.self.invariant.0 in
    let made : recorded old.number granted c.in_ok-draft.draft ≡ replaced c.args.links old
    = subst (λ (r : Record).
    recorded r.number granted c.in_ok-draft.draft ≡ replaced c.args.links r)
    c.as_record-before.ensures c.in_ok-draft.ensures.made in
    (replacement_answers first history v i.names i.leases i.live i.text c.args.now granted
    c.args.number c.args.links c.in_ok-draft.draft old entry kept c.requires.after_at
    c.requires.after_sweep stands c.in-Some.ensures.there c.in-Some.ensures.live made h
    c.renewed.result c.renewed.ensures).refused
