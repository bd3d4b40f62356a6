use Rattle.std.proofs.Common.{sym, ap, subst}
use Rattle.record_model.specs.BodyFaults.{is_of_links, is_of_limits}
use Rattle.registration.specs.Drafts.{IsFaultOf}
use Rattle.journal_model.specs.Changes.{BodyRead}
use Rattle.rd_desk.specs.parts.Outcomes.{IsBadBody}
use Rattle.rd_desk.proofs.changes.OutcomeLaws.{bad_links, bad_limits}
use Rattle.rd_desk.proofs.write.outcomes.bad_body_reply.Goals as goal

pub returns-in-Links : goal.returns-in-Links
returns-in-Links c body is =
    subst (λ (b : BodyRead). IsBadBody b c.plain.result)
    (sym (bad_links body (ap is_of_links (subst (IsFaultOf body) c.in-Links.is is))))
    c.plain.ensures

pub returns-in-Reference : goal.returns-in-Reference
returns-in-Reference c body is =
    subst (λ (b : BodyRead). IsBadBody b c.plain-in-Reference.result)
    (sym (bad_links body (ap is_of_links (subst (IsFaultOf body) c.in-Reference.is is))))
    c.plain-in-Reference.ensures

pub returns-in-Limited : goal.returns-in-Limited
returns-in-Limited c body is =
    subst (λ (b : BodyRead). IsBadBody b c.plain-in-Limited.result)
    (sym (bad_limits body (ap is_of_limits (subst (IsFaultOf body) c.in-Limited.is is))))
    c.plain-in-Limited.ensures
