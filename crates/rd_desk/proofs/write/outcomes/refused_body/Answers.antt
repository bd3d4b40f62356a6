use Rattle.rd_desk.proofs.changes.OutcomeLaws.{planned-bad_body}
use Rattle.rd_desk.proofs.write.outcomes.refused_body.Goals as goal

pub returns-clause-planned : goal.returns-clause-planned
returns-clause-planned c history swept moment s purpose body options further is =
    planned-bad_body history swept moment s purpose body options further c.in_ok-reply.reply
    (c.in_ok-reply.ensures body is)
