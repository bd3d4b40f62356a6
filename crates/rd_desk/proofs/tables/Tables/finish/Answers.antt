use Rattle.std.proofs.Common.{[], true, false, subst}
use Rattle.rd_desk.specs.parts.Outcomes.{IsTimely}
use Rattle.rd_desk.specs.parts.Laying.{IsNextOf}
use Rattle.rd_desk.proofs.changes.StagingLaws.{
  next_told,
  swept_planned,
  of_laid,
  laid_planned,
  laid_kept,
}
use Rattle.rd_base.specs.declared.peers.Peer.{Peer}
use Rattle.event_model.specs.AdmissionOrder.{IsOpen}
use Rattle.journal_model.specs.Journal.{events, entries}
use Rattle.rd_desk.specs.parts.Outcomes.{IsPlanned}
use Rattle.rd_desk.proofs.changes.CommitLaws.{planned_ok}
use Rattle.rd_desk.proofs.tables.Tables.finish.Goals as goal

pub returns-in-Ok-clause-way : goal.returns-in-Ok-clause-way
returns-in-Ok-clause-way g c =
    λ rows s place meant of opened at planned way.
    c.conclude.ensures.way rows s false place meant of
    (subst (λ (p : Peer).
    IsOpen place p c.args.write.now.request.meaning.view.mid c.args.write.now.admitted.0
    (events rows)) of
    opened) at (planned_ok c.args.planned c.in-Ok.outcome
    (IsPlanned (entries rows) c.args.self.now.version.swept [] meant) c.in-Ok.ensures.same
    planned) way

pub returns-in-Err-clause-way : goal.returns-in-Err-clause-way
returns-in-Err-clause-way g c =
    λ rows s place meant of opened at planned way.
    c.fail.ensures.way rows s true place of
    (subst (λ (p : Peer).
    IsOpen place p c.args.write.now.request.meaning.view.mid c.args.write.now.admitted.0
    (events rows)) of
    opened) way

pub staged-requires-clause-next : goal.staged-requires-clause-next
staged-requires-clause-next g c =
    next_told _ c.args.self.now.version c.args.planned c.requires.told c.requires.next

pub staged-requires-clause-swept : goal.staged-requires-clause-swept
staged-requires-clause-swept g c =
    swept_planned c.args.planned c.args.self.now.moment c.requires.timely

pub conclude-requires-clause-timely : goal.conclude-requires-clause-timely
conclude-requires-clause-timely g c =
    of_laid (IsTimely c.args.self.now.moment) c.args.planned c.in-Ok.outcome c.in-Ok.ensures.same
    c.requires.timely

pub returns-in-Ok-clause-laid : goal.returns-in-Ok-clause-laid
returns-in-Ok-clause-laid g c =
    laid_planned c.args.self.now.version _ c.in-Ok.outcome.entering _ _ _ c.in-Ok.ensures.laid
    c.conclude.ensures.version
    (λ history stands. of_laid
    (IsNextOf history) c.args.planned c.in-Ok.outcome c.in-Ok.ensures.same
    (c.requires.next history stands)) c.in-Ok.ensures.none_laid

pub returns-in-Err-clause-laid : goal.returns-in-Err-clause-laid
returns-in-Err-clause-laid g c =
    laid_kept c.args.self.now.version _ _ _ _ c.fail.ensures.version c.in-Err.ensures.kept
    c.in-Err.ensures.none_kept
