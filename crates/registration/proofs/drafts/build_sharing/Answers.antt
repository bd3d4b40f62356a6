use Rattle.record_model.specs.Bodies.{linked_references}
use Rattle.registration.proofs.DraftLaws.{not_limited, is_draft}
use Rattle.registration.proofs.LinksLaws.{drafts, records}
use Rattle.registration.proofs.drafts.build_sharing.Goals as goal

pub returns-clause-draft : goal.returns-clause-draft
returns-clause-draft c =
    drafts c.args.peer c.args.params (linked_references c.args.body.now) c.in_ok-base.base
    c.is_some-base_given.result c.in_ok-items.items c.in_ok-base.ensures.value
    c.is_some-base_given.ensures
    c.in_ok-items.ensures.items

pub returns-clause-record_of : goal.returns-clause-record_of
returns-clause-record_of c =
    λ number now.
    records number now c.args.peer c.args.params (linked_references c.args.body.now) _
    (returns-clause-draft c)

pub returns-clause-limited : goal.returns-clause-limited
returns-clause-limited c = not_limited c.args.body.now c.in_ok-items.ensures.good

pub returns-clause-is_draft : goal.returns-clause-is_draft
returns-clause-is_draft c =
    λ allowed.
    is_draft c.args.peer c.args.params c.args.body.now _ c.registered_base.ensures.fits allowed
    c.in_ok-items.ensures.good (returns-clause-draft c)
