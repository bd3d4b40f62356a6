use Rattle.std.proofs.Common.{◌≡◌, List, ap, ◌∙◌, subst}
use Rattle.std.specs.Prelude.{IfOk}
use Rattle.rd_base.specs.declared.records.Item.{Item}
use Rattle.record_model.specs.Records.{items_of}
use Rattle.registration.proofs.SubmissionLaws.{against_submitted, of_body-result}
use Rattle.registration.proofs.submissions.Submitted.against.Goals as goal

pub returns-clause-items : goal.returns-clause-items
returns-clause-items c =
    subst (λ (ls : List Item). IfOk c.rebased.result (λ items. items ≡ ls))
    (against_submitted c.args.base.now c.self.inside.items
    ∙ ap (items_of c.args.base.now) c.self.view_is) c.rebased.ensures.items

pub returns-clause-of_body : goal.returns-clause-of_body
returns-clause-of_body c =
    of_body-result c.args.base.now c.self.inside.items c.rebased.result c.self.invariant.1
    c.rebased.ensures.items
