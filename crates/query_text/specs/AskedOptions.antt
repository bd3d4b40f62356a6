-- What the options of a lookup ask for.
use Rattle.std.specs.Prelude.{
  ℕ,
  not,
  List,
  [],
  ◌∷◌,
  ◌++◌,
  bytes_eq,
  map,
  filter,
  Option,
  None,
  if◌then◌else◌,
}
use Rattle.rd_base.specs.declared.queries.Kind.{Kind}
use Rattle.rd_base.specs.declared.queries.Criterion.{Criterion}
use Rattle.rd_base.specs.declared.queries.Query.{Query}
use Rattle.record_model.specs.Faults.{or_else}
use Rattle.record_model.specs.Criteria.{page, count, is_cut, criterion_of, number_named}
use Rattle.query_text.specs.declared.asked_options.Asked.{Asked}
use Rattle.query_text.specs.Numbers.{number_in}

-- What the options of a lookup ask for: the criteria, the page and the count.
pub record Wanted : Type 0 where
  pub criteria : List Criterion
  pub page : Option ℕ
  pub count : Option ℕ

-- Returns what was stored.
abbrev pub wanted_in : Asked → Wanted
wanted_in asked = record { criteria = asked.criteria.items; page = asked.page; count = asked.count }

-- Returns what options ask for.
unfoldable pub wanted_of : List (List ℕ) → Wanted
wanted_of queries = record {
  criteria = map criterion_of (filter (λ query. not (is_cut query)) queries);
  page = number_named page queries;
  count = number_named count queries;
}

-- What no options ask for.
abbrev pub nothing_wanted : Wanted
nothing_wanted = record { criteria = []; page = None; count = None }

-- Returns what is asked for with one more option.
unfoldable pub wanted_with : Wanted → List ℕ → List ℕ → Wanted
wanted_with w name value =
    if bytes_eq name page then record {
      criteria = w.criteria;
      page = or_else w.page (number_in value);
      count = w.count;
    }
    else (if bytes_eq name count then record
    { criteria = w.criteria; page = w.page; count = or_else w.count (number_in value) }
    else record {
      criteria = w.criteria
          ++ (record { name = name; pattern = value } ∷ []);
      page = w.page;
      count = w.count;
    })

-- Returns the query of that kind that asks for this.
abbrev pub query_of : Kind → Wanted → Query
query_of kind w = record { kind = kind; criteria = w.criteria; page = w.page; count = w.count }
