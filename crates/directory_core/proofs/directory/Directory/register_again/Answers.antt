use Rattle.std.proofs.Common.{subst}
use Rattle.rd_base.specs.declared.records.Record.{Record}
use Rattle.directory_core.specs.LinksAgainst.{AreAfter}
use Rattle.directory_core.specs.Shown.{IsKept}
use Rattle.directory_core.proofs.AnswerLaws.{again_answers}
use Rattle.directory_core.proofs.FitLaws.{draft_sound}
use Rattle.directory_core.proofs.RenewLaws.{begins}
use Rattle.directory_core.proofs.directory.Directory.register_again.Goals as goal

pub links_after-links-requires-clause-draft : goal.links_after-links-requires-clause-draft
links_after-links-requires-clause-draft c = draft_sound c.args.draft c.requires.draft

pub renewed-requires-clause-links : goal.renewed-requires-clause-links
renewed-requires-clause-links c =
    subst (λ (r : Record). AreAfter c.links_after-links.result r.items c.args.draft.items)
    c.as_record.ensures c.links_after-links.ensures

pub renewed-requires-clause-sound : goal.renewed-requires-clause-sound
renewed-requires-clause-sound c = draft_sound c.args.draft c.requires.draft

pub renewed-requires-clause-unlapsed : goal.renewed-requires-clause-unlapsed
renewed-requires-clause-unlapsed c =
    begins c.args.now c.args.draft (draft_sound c.args.draft c.requires.draft)

pub returns-clause-answers : goal.returns-clause-answers
returns-clause-answers c first history entry stands h =
    let v = c.args.self.now in
    let i = c.self.inside in
    let kept : IsKept v i.names i.leases i.live i.text =
    subst (λ w. IsKept w i.names i.leases i.live i.text) c.self.view_is c.self.invariant.0 in
    let r = c.requires in
    again_answers first history v i.names i.leases i.live i.text c.args.now c.args.draft
    c.args.old.now entry kept r.after_at r.after_sweep stands r.draft r.name h c.renewed.result
    c.renewed.ensures
