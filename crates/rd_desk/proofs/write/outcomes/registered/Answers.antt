use Rattle.std.proofs.Common.{[], refl}
use Rattle.journal_model.specs.Changes.{to_register}
use Rattle.coap_answers.specs.Replies.{block1_options}
use Rattle.rd_desk.proofs.changes.OutcomeLaws.{planned-registered}
use Rattle.rd_desk.proofs.changes.StagingLaws.{from_peer, next_planned}
use Rattle.rd_desk.proofs.write.outcomes.registered.Goals as goal

pub returns-in-Ok-clause-planned : goal.returns-in-Ok-clause-planned
returns-in-Ok-clause-planned c history s further stands from =
    planned-registered history c.args.version.now.swept s c.args.peer c.args.params c.args.body.now
    c.in-Ok.draft c.args.now (block1_options c.args.block1) further c.draft_registered.result
    from
    c.in-Ok.ensures.draft c.in-Ok.ensures.limited c.requires.allowed.lt.lasting
    (λ entry meant is said.
    c.draft_registered.ensures.planned history entry meant stands is said)

pub returns-in-Err-clause-planned : goal.returns-in-Err-clause-planned
returns-in-Err-clause-planned c history s further stands from =
    c.refused_body.ensures.planned history c.args.version.now.swept c.args.now.0 s
    (to_register c.args.params) c.args.body.now (block1_options c.args.block1) further
    c.in-Err.ensures.refused

pub returns-in-Ok-clause-next : goal.returns-in-Ok-clause-next
returns-in-Ok-clause-next c history stands =
    next_planned c.draft_registered.result history c.args.version.now.swept [] _
    (returns-in-Ok-clause-planned c history (from_peer c.args.peer) [] stands refl)

pub returns-in-Err-clause-next : goal.returns-in-Err-clause-next
returns-in-Err-clause-next c history stands =
    next_planned c.refused_body.result history c.args.version.now.swept [] _
    (returns-in-Err-clause-planned c history (from_peer c.args.peer) [] stands refl)
