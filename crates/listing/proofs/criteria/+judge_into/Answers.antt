-- Where no criterion is left, nothing more is judged.
use Rattle.std.proofs.Common.{◌≡◌, Bool, List, [], ◌∷◌, length, arith}
use Rattle.rd_base.specs.declared.queries.Criterion.{Criterion}
use Rattle.rd_base.specs.declared.records.Record.{Record}
use Rattle.listing.specs.JudgedEndpoints.{AreJudged}
use Rattle.listing.proofs.criteria.+judge_into.Goals as goal

no_criteria : (r : Record) (judged : List Bool) (criteria : List Criterion)
    → length criteria ≡ 0
    → AreJudged r judged criteria
no_criteria r [] criteria e = tt
no_criteria r (answer ∷ judged) [] e = tt
no_criteria r (answer ∷ judged) (criterion ∷ criteria) e = absurd (omega arith)

pub returns-in_default : goal.returns-in_default
returns-in_default t c =
    no_criteria c.args.record_of.now c.args.judged.now c.args.criteria.now
    c.in_default.ensures.cases
