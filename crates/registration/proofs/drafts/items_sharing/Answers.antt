use Rattle.std.proofs.Common.{ℕ, List, ap, ◌∙◌}
use Rattle.record_model.specs.Parameters.{is_base}
use Rattle.registration.proofs.SubmissionLaws.{base_is_without_query}
use Rattle.registration.proofs.drafts.items_sharing.Goals as goal

pub items_of-requires : goal.items_of-requires
items_of-requires c =
    base_is_without_query c.as_str.result.now
    (ap (λ (t : List ℕ). is_base t) c.as_str.ensures ∙ c.requires.base)
