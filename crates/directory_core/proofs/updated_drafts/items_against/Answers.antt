use Rattle.std.proofs.Common.{sym, subst}
use Rattle.registration.specs.Submissions.{AreOfBody}
use Rattle.registration.proofs.SubmissionLaws.{of_body-rebased}
use Rattle.directory_core.specs.LinksAgainst.{AreAgainst}
use Rattle.directory_core.proofs.AgainstLaws.{against_rebased}
use Rattle.directory_core.proofs.updated_drafts.items_against.Goals as goal

pub returns-clause-against : goal.returns-clause-against
returns-clause-against c =
    subst (AreAgainst c.args.base.now) (sym c.in_ok-items-2.ensures.items)
    (against_rebased c.args.base.now c.args.old.now.items)

pub returns-clause-of_body : goal.returns-clause-of_body
returns-clause-of_body c =
    subst AreOfBody (sym c.in_ok-items-2.ensures.items)
    (of_body-rebased c.args.base.now c.args.old.now.items c.requires.of_body)
