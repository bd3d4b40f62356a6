-- The criteria of a query, each once.
use Rattle.std.specs.Prelude.{Bool, ◌&&◌, List, [], ◌∷◌, ◌++◌, if◌then◌else◌, bytes_eq}
use Rattle.std.specs.List.{list_any}
use Rattle.rd_base.specs.declared.queries.Criterion.{Criterion}
use Rattle.rd_base.specs.declared.queries.Query.{Query}

-- Returns whether two criteria have the same name and the same pattern, octet for octet.
abbrev pub is_same : Criterion → Criterion → Bool
is_same one other = bytes_eq one.name other.name && bytes_eq one.pattern other.pattern

-- Returns whether a criterion is among criteria.
abbrev pub is_among : List Criterion → Criterion → Bool
is_among criteria criterion = list_any (λ other. is_same other criterion) criteria

-- Returns the criteria that are not among those seen before, each where it first stands.
unfoldable pub unseen : List Criterion → List Criterion → List Criterion
unseen seen [] = []
unseen seen (criterion ∷ criteria) =
    if is_among seen criterion
    then unseen seen criteria
    else criterion ∷ unseen (seen ++ criterion ∷ []) criteria

-- Returns the criteria, each where it first stands, in their order.
abbrev pub distinct : List Criterion → List Criterion
distinct criteria = unseen [] criteria

-- Returns the query with each of its criteria once.
abbrev pub distinct_query : Query → Query
distinct_query query = record query { criteria = distinct query.criteria }
