use Rattle.std.proofs.Common.{◌≡◌, length, ap, subst, arith}
use Rattle.history_model.specs.Leases.{live_among}
use Rattle.directory_core.specs.declared.counts.Counts.{Counts}
use Rattle.directory_core.specs.Shown.{IsKept}
use Rattle.directory_core.proofs.AnswerLaws.{new_answers, full_answers}
use Rattle.directory_core.proofs.FitLaws.{draft_sound}
use Rattle.directory_core.proofs.directory.Directory.register_new.Goals as goal

pub returns-then-counts-ge-MAX_REGISTRATIONS-clause-answers :
    goal.returns-then-counts-ge-MAX_REGISTRATIONS-clause-answers
returns-then-counts-ge-MAX_REGISTRATIONS-clause-answers c first history entry stands h =
    let v = c.args.self.now in
    let i = c.self.inside in
    let kept : IsKept v i.names i.leases i.live i.text =
    subst (λ w. IsKept w i.names i.leases i.live i.text) c.self.view_is c.self.invariant.0 in
    let r = c.requires in
    full_answers first history v i.names i.leases i.live i.text c.args.now c.args.draft entry
    c.args.counts.live kept r.after_at r.after_sweep stands r.name
    (ap (λ (x : Counts). x.live) r.counts) c.if-counts-ge-MAX_REGISTRATIONS.true h

pub appended-requires-clause-sound : goal.appended-requires-clause-sound
appended-requires-clause-sound c = draft_sound c.args.draft c.requires.draft

pub returns-clause-answers : goal.returns-clause-answers
returns-clause-answers c first history entry stands h =
    let v = c.args.self.now in
    let i = c.self.inside in
    let kept : IsKept v i.names i.leases i.live i.text =
    subst (λ w. IsKept w i.names i.leases i.live i.text) c.self.view_is c.self.invariant.0 in
    let r = c.requires in
    let live : c.args.counts.live ≡ length (live_among c.args.now.0 v.records) =
    ap (λ (x : Counts). x.live) r.counts in
    let below = c.if-counts-ge-MAX_REGISTRATIONS.false in
    new_answers first history v i.names i.leases i.live i.text c.args.now c.args.draft entry kept
    r.after_at r.after_sweep stands r.draft r.name (omega (arith, live, below)) h
    c.appended.result c.appended.ensures
