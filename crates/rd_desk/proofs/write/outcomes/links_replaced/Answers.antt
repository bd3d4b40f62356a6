use Rattle.std.proofs.Common.{sym, ◌∙◌}
use Rattle.rd_desk.proofs.changes.OutcomeLaws.{replacement-HasEntry}
use Rattle.rd_desk.proofs.write.outcomes.links_replaced.Goals as goal

pub returns-in-Ok-clause-planned : goal.returns-in-Ok-clause-planned
returns-in-Ok-clause-planned c history entry meant stands is said =
    c.entered.ensures.planned history c.args.version.now.swept entry meant
    (replacement-HasEntry history c.args.version.now.swept c.args.number c.args.now c.args.links
    entry _ is (c.in-Ok.ensures.stands 0 history entry stands is) c.in-Ok.ensures.swept
    (c.in-Ok.ensures.accepted 0 history entry stands is))
    (c.replaced_reply-reply.ensures ∙ sym said)

pub returns-in-Err-clause-planned : goal.returns-in-Err-clause-planned
returns-in-Err-clause-planned c history entry meant stands is said =
    c.refused.ensures.planned history c.args.version.now.swept entry meant
    (c.in-Err.ensures.refused 0 history entry stands is)
