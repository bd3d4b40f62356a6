use Rattle.std.proofs.Common.{sym, refl, ◌∙◌}
use Rattle.watch_table.proofs.QueryLaws.{same_queries}
use Rattle.watch_table.proofs.same_queries.is_same_query.Goals as goal

pub returns : goal.returns
returns c =
    same_queries c.args.query.now c.args.other.now c.are_same_criteria.result
    (c.if-not-is_same_kind.ensures.0 refl) (c.if-not-is_same_page.ensures.0 refl)
    (c.if-not-is_same_count.ensures.0 refl) (
      λ same. sym c.as_slice.ensures
          ∙ (c.are_same_criteria.ensures.0 same ∙ c.as_slice-2.ensures),
      λ same.
          c.are_same_criteria.ensures.1 (c.as_slice.ensures ∙ (same ∙ sym c.as_slice-2.ensures)),
    )
