-- The criteria that match an endpoint, judged once for all of its links.
use Rattle.std.specs.Prelude.{◌≡◌, Bool, List, [], ◌∷◌, Option, Some, None}
use Rattle.rd_base.specs.declared.queries.Criterion.{Criterion}
use Rattle.rd_base.specs.declared.records.Record.{Record}
use Rattle.record_model.specs.Matching.{endpoint_matches}

-- States that each answer says whether the criterion at its index matches the endpoint by itself.
-- Answers beyond the last criterion mean nothing.
abbrev pub AreJudged : Record → List Bool → List Criterion → Type 0
AreJudged r [] criteria = Unit {0}
AreJudged r (answer ∷ judged) [] = Unit {0}
AreJudged r (answer ∷ judged) (criterion ∷ criteria) =
    (answer ≡ endpoint_matches criterion r) × AreJudged r judged criteria

-- States the same of the endpoint, if there is one.
abbrev pub AreJudgedOf : Option Record → List Bool → List Criterion → Type 0
AreJudgedOf (Some r) judged criteria = AreJudged r judged criteria
AreJudgedOf None judged criteria = Unit {0}
