use Rattle.std.proofs.Common.{◌≡◌, sym, subst}
use Rattle.rd_base.specs.declared.records.Record.{Record}
use Rattle.record_model.specs.Records.{updated}
use Rattle.registration.specs.Drafts.{recorded}
use Rattle.registration.specs.Submissions.{AreOfBody}
use Rattle.directory_core.specs.LinksAgainst.{AreAfter, AreAgainst}
use Rattle.directory_core.specs.Shown.{IsKept}
use Rattle.directory_core.proofs.AnswerLaws.{update_gone, update_answers}
use Rattle.directory_core.proofs.RenewLaws.{begins}
use Rattle.directory_core.proofs.directory.Directory.update.Goals as goal

pub updated_draft-requires-clause-against : goal.updated_draft-requires-clause-against
updated_draft-requires-clause-against c =
    subst (λ (r : Record). AreAgainst r.base r.items) (sym c.as_record.ensures)
    c.in-Some.ensures.sound.against

pub updated_draft-requires-clause-of_body : goal.updated_draft-requires-clause-of_body
updated_draft-requires-clause-of_body c =
    subst (λ (r : Record). AreOfBody r.items) (sym c.as_record.ensures)
    c.in-Some.ensures.sound.of_body

pub renewed-requires-clause-links : goal.renewed-requires-clause-links
renewed-requires-clause-links c =
    subst (λ (r : Record). AreAfter c.in_ok-draft.links r.items c.in_ok-draft.draft.items)
    c.as_record.ensures c.in_ok-draft.ensures.links

pub renewed-requires-clause-unlapsed : goal.renewed-requires-clause-unlapsed
renewed-requires-clause-unlapsed c =
    begins c.args.now c.in_ok-draft.draft c.in_ok-draft.ensures.sound

pub returns-in_default-clause-refused : goal.returns-in_default-clause-refused
returns-in_default-clause-refused c first history entry stands h =
    (update_gone first history c.args.self.now c.args.now c.args.number c.args.change c.args.peer
    entry c.requires.after_sweep stands (sym c.in_default.ensures.value) h).refused

pub returns-clause-stands : goal.returns-clause-stands
returns-clause-stands c first history entry stands h =
    let v = c.args.self.now in
    let i = c.self.inside in
    let old = c.in-Some.old.now in
    let kept : IsKept v i.names i.leases i.live i.text =
    subst (λ w. IsKept w i.names i.leases i.live i.text) c.self.view_is c.self.invariant.0 in
    let made :
    recorded old.number c.args.now c.in_ok-draft.draft
    ≡ updated c.args.now c.args.peer c.args.change old
    = subst (λ (r : Record).
    recorded r.number c.args.now c.in_ok-draft.draft
    ≡ updated c.args.now c.args.peer c.args.change r) c.as_record.ensures
    (c.in_ok-draft.ensures.made c.args.now) in
    (update_answers first history v i.names i.leases i.live i.text c.args.now c.args.number
    c.args.change c.args.peer c.in_ok-draft.draft old entry kept c.requires.after_at
    c.requires.after_sweep stands c.requires.change c.in-Some.ensures.there
    c.in-Some.ensures.live made h
    c.renewed.result c.renewed.ensures).stands

pub returns-clause-accepted : goal.returns-clause-accepted
returns-clause-accepted c first history entry stands h =
    let v = c.args.self.now in
    let i = c.self.inside in
    let old = c.in-Some.old.now in
    let kept : IsKept v i.names i.leases i.live i.text =
    subst (λ w. IsKept w i.names i.leases i.live i.text) c.self.view_is c.self.invariant.0 in
    let made :
    recorded old.number c.args.now c.in_ok-draft.draft
    ≡ updated c.args.now c.args.peer c.args.change old
    = subst (λ (r : Record).
    recorded r.number c.args.now c.in_ok-draft.draft
    ≡ updated c.args.now c.args.peer c.args.change r) c.as_record.ensures
    (c.in_ok-draft.ensures.made c.args.now) in
    (update_answers first history v i.names i.leases i.live i.text c.args.now c.args.number
    c.args.change c.args.peer c.in_ok-draft.draft old entry kept c.requires.after_at
    c.requires.after_sweep stands c.requires.change c.in-Some.ensures.there
    c.in-Some.ensures.live made h
    c.renewed.result c.renewed.ensures).accepted

pub returns-clause-refused : goal.returns-clause-refused
returns-clause-refused c first history entry stands h =
    let v = c.args.self.now in
    let i = c.self.inside in
    let old = c.in-Some.old.now in
    let kept : IsKept v i.names i.leases i.live i.text =
    subst (λ w. IsKept w i.names i.leases i.live i.text) c.self.view_is c.self.invariant.0 in
    let made :
    recorded old.number c.args.now c.in_ok-draft.draft
    ≡ updated c.args.now c.args.peer c.args.change old
    = subst (λ (r : Record).
    recorded r.number c.args.now c.in_ok-draft.draft
    ≡ updated c.args.now c.args.peer c.args.change r) c.as_record.ensures
    (c.in_ok-draft.ensures.made c.args.now) in
    (update_answers first history v i.names i.leases i.live i.text c.args.now c.args.number
    c.args.change c.args.peer c.in_ok-draft.draft old entry kept c.requires.after_at
    c.requires.after_sweep stands c.requires.change c.in-Some.ensures.there
    c.in-Some.ensures.live made h
    c.renewed.result c.renewed.ensures).refused
