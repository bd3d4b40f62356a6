-- Whether a change of a registration changes the lines of a query.
use Rattle.std.proofs.Common.{◌≡◌, ◌↔◌, Bool, true, false, not, Option, refl, sym, ap, ap₂, ◌∙◌}
use Rattle.std.proofs.lemmas.Bool.{false≢true}
use Rattle.rd_base.specs.declared.queries.Query.{Query}
use Rattle.rd_base.specs.declared.records.Record.{Record}
use Rattle.record_model.specs.ListingLines.{part_or_none, same_lines}
use Rattle.history_model.specs.ChangedParts.{is_other_part}
use Rattle.distinct_criteria.specs.Distinct.{distinct_query}
use Rattle.distinct_criteria.proofs.PartLaws.{part_or_none_distinct}
use Rattle.history_model.proofs.ChangedLines.{same_from_test, test_from_same}

-- an answer that tells whether the parts are the same, turned
pub other_by : (query : Query) (old new : Option Record) (answer : Bool)
    → ((answer ≡ true) ↔ (part_or_none query old ≡ part_or_none query new))
    → not answer ≡ is_other_part query old new
other_by query old new answer same = by answer (is_other_part query old new) refl refl
  where
    by : (a b : Bool) → answer ≡ a → is_other_part query old new ≡ b → not a ≡ b
    by true false e f = refl
    by false true e f = refl
    by true true e f = absurd (false≢true (sym (test_from_same query old new (same.0 e)) ∙ f))
    by false false e f = absurd (false≢true (sym e ∙ same.1 (same_from_test query old new f)))

-- the lines of a query with each of its criteria once change where those of the query do
pub other_distinct : (query asked : Query) (old new : Option Record) (answer : Bool)
    → asked ≡ distinct_query query
    → answer ≡ is_other_part asked old new
    → answer ≡ is_other_part query old new
other_distinct query asked old new answer is told =
    told
    ∙ ap (λ (q : Query). is_other_part q old new) is
    ∙ ap₂ (λ before after. not (same_lines before after)) (part_or_none_distinct query old)
    (part_or_none_distinct query new)
