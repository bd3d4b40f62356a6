-- The criteria of a lookup, and its page and count (RFC 9176 section 6.2).
use Rattle.std.specs.Prelude.{
  ℕ,
  Bool,
  not,
  ◌&&◌,
  ◌||◌,
  List,
  [],
  ◌∷◌,
  map,
  filter,
  codes,
  Option,
  Some,
  None,
  option_map,
  Result,
  if◌then◌else◌,
}
use Rattle.std.specs.Str.{is_utf8}
use Rattle.rd_base.specs.declared.queries.Kind.{Kind}
use Rattle.rd_base.specs.declared.queries.Criterion.{Criterion}
use Rattle.rd_base.specs.declared.queries.Query.{Query}
use Rattle.record_model.specs.declared.readings.Reading.{Reading}
use Rattle.record_model.specs.declared.readings.Reading.TheVariants as reading
use Rattle.record_model.specs.declared.readings.Why.{Why}
use Rattle.record_model.specs.declared.readings.Why.TheVariants as why
use Rattle.link_model.specs.Characters.{is_empty}
use Rattle.record_model.specs.Options.{
  option_name,
  option_value,
  is_named,
  has_named,
  value_named,
  is_number,
  number_of,
}
use Rattle.record_model.specs.Faults.{Fault, first_reason, first_fault}
use Rattle.record_model.specs.Parameters.{parameters_fault, unless_fault}

-- The names of the options that choose a part of the listing.
abbrev pub page : List ℕ
page = codes "page"

abbrev pub count : List ℕ
count = codes "count"

-- Returns whether the option chooses a part of the listing.
abbrev pub is_cut : List ℕ → Bool
is_cut query = is_named page query || is_named count query

-- Returns the reasons to refuse a page or a count after other options, each with whether it
-- applies.
abbrev pub cut_reasons : List (List ℕ) → List ℕ → List (Bool × Why)
cut_reasons others query =
    (has_named (option_name query) others, why.Repeated)
    ∷ (not (is_number (option_value query)), why.Number)
    ∷ []

-- Returns the reasons to refuse a criterion, each with whether it applies.
abbrev pub criterion_reasons : List ℕ → List (Bool × Why)
criterion_reasons query = (is_empty (option_name query), why.Name) ∷ []

-- Returns why an option of a lookup is refused after others, if it is.
unfoldable pub option_fault : List (List ℕ) → List ℕ → Option Why
option_fault others query =
    first_reason ((not (is_utf8 query), why.Utf8)
    ∷ (if is_cut query then cut_reasons others query else criterion_reasons query))

-- Returns the fault that is found after the last option: a page has no count.
abbrev pub page_fault : List (List ℕ) → Option Why
page_fault queries =
    if has_named page queries && not (has_named count queries) then Some why.PageAlone else None

-- Returns the first fault of the options of a lookup.
unfoldable pub lookup_fault : List (List ℕ) → Option Fault
lookup_fault queries = first_fault option_fault page_fault queries

-- Returns an option as a criterion: a name, and the pattern of its values.
abbrev pub criterion_of : List ℕ → Criterion
criterion_of query = record { name = option_name query; pattern = option_value query }

-- Returns the number of the first option with this name.
abbrev pub number_named : List ℕ → List (List ℕ) → Option ℕ
number_named name queries = option_map number_of (value_named name queries)

-- Returns the query of a lookup, if its options have no fault.
unfoldable pub lookup_values : Kind → List (List ℕ) → Query
lookup_values kind queries = record {
  kind = kind;
  criteria = map criterion_of (filter (λ query. not (is_cut query)) queries);
  page = number_named page queries;
  count = number_named count queries;
}

-- Returns the query of a lookup, or the first fault of its options.
unfoldable pub lookup_query : Kind → List (List ℕ) → Result Query Fault
lookup_query kind queries = unless_fault (lookup_fault queries) (lookup_values kind queries)

-- Returns the first fault of query options, by the kind of request that they are read for.
unfoldable pub fault_of : Reading → List (List ℕ) → Option Fault
fault_of reading.Lookup queries = lookup_fault queries
fault_of reading.Register queries = parameters_fault reading.Register queries
fault_of reading.Simple queries = parameters_fault reading.Simple queries
fault_of reading.Update queries = parameters_fault reading.Update queries
