use Rattle.std.proofs.Common.{[]}
use Rattle.journal_model.specs.Changes.{to_replace}
use Rattle.coap_answers.specs.Replies.{block1_options}
use Rattle.rd_desk.proofs.changes.OutcomeLaws.{planned-replaced}
use Rattle.rd_desk.proofs.changes.StagingLaws.{anyone, next_planned}
use Rattle.rd_desk.proofs.write.outcomes.replaced.Goals as goal

pub returns-in-Ok-clause-planned : goal.returns-in-Ok-clause-planned
returns-in-Ok-clause-planned c history s further stands =
    planned-replaced history c.args.version.now.swept s c.args.number c.args.body.now c.args.now
    c.in-Ok.links (block1_options c.args.block1) further c.links_replaced.result
    c.in-Ok.ensures.links c.in-Ok.ensures.limited
    (λ entry meant is said. c.links_replaced.ensures.planned history entry meant stands is said)

pub returns-in-Err-clause-planned : goal.returns-in-Err-clause-planned
returns-in-Err-clause-planned c history s further stands =
    c.refused_body.ensures.planned history c.args.version.now.swept c.args.now.0 s
    (to_replace c.args.number) c.args.body.now (block1_options c.args.block1) further
    c.in-Err.ensures.refused

pub returns-in-Ok-clause-next : goal.returns-in-Ok-clause-next
returns-in-Ok-clause-next c history stands =
    next_planned c.links_replaced.result history c.args.version.now.swept [] _
    (returns-in-Ok-clause-planned c history anyone [] stands)

pub returns-in-Err-clause-next : goal.returns-in-Err-clause-next
returns-in-Err-clause-next c history stands =
    next_planned c.refused_body.result history c.args.version.now.swept [] _
    (returns-in-Err-clause-planned c history anyone [] stands)
