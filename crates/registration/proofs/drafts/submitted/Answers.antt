use Rattle.std.proofs.Common.{List, [], Some, sym, ap, ◌∙◌}
use Rattle.rd_base.specs.declared.submitted_links.SubmittedLink.{SubmittedLink}
use Rattle.record_model.specs.Bodies.{linked_references}
use Rattle.registration.proofs.DraftLaws.{not_limited}
use Rattle.registration.proofs.SubmissionLaws.{
  nothing_is_without_query,
  submitted_body,
  of_body-read,
}
use Rattle.registration.proofs.drafts.submitted.Goals as goal

pub items_of-requires : goal.items_of-requires
items_of-requires c = nothing_is_without_query

pub returns-clause-links : goal.returns-clause-links
returns-clause-links c =
    submitted_body [] (linked_references c.args.body.now) c.in_ok-items.items
    c.in_ok-items.ensures.items
    ∙ ap (λ (ls : List SubmittedLink). Some ls) (sym c.of.ensures)

pub returns-clause-limited : goal.returns-clause-limited
returns-clause-limited c = not_limited c.args.body.now c.in_ok-items.ensures.good

pub of-requires-clause-of_body : goal.of-requires-clause-of_body
of-requires-clause-of_body c =
    of_body-read [] c.args.body.now c.in_ok-items.items c.in_ok-items.ensures.items
    (not_limited c.args.body.now c.in_ok-items.ensures.good)
