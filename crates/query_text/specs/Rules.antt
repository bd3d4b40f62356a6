-- The reasons why an option is refused, by which names appeared before it.
use Rattle.std.specs.Prelude.{
  ℕ,
  Bool,
  true,
  false,
  not,
  ◌&&◌,
  ◌||◌,
  nat_lt,
  List,
  [],
  ◌∷◌,
  length,
  bytes_eq,
  Option,
  Some,
  None,
  if◌then◌else◌,
}
use Rattle.std.specs.Str.{is_utf8}
use Rattle.record_model.specs.declared.readings.Reading.{Reading}
use Rattle.record_model.specs.declared.readings.Reading.TheVariants as reading
use Rattle.record_model.specs.declared.readings.Why.{Why}
use Rattle.record_model.specs.declared.readings.Why.TheVariants as why
use Rattle.link_model.specs.Characters.{is_empty}
use Rattle.record_model.specs.Faults.{first_reason}
use Rattle.record_model.specs.Options.{option_name, option_value, is_number}
use Rattle.record_model.specs.Parameters.{
  ep,
  sector,
  lifetime,
  base,
  max_name,
  has_control,
  is_lifetime,
  is_base,
  is_link_local,
  is_extra_name,
  is_update,
  is_simple,
}
use Rattle.record_model.specs.Criteria.{page, count}
use Rattle.query_text.specs.declared.occurrences.Occurred.{Occurred}

-- Returns whether the options are those of a lookup.
abbrev pub is_lookup : Reading → Bool
is_lookup reading.Lookup = true
is_lookup _ = false

-- Returns why the name of an endpoint or a sector is refused, if it is.
abbrev pub name_fault : Reading → Bool → List ℕ → Option Why
name_fault kind occurred value =
    first_reason ((is_update kind, why.NotHere)
    ∷ (occurred, why.Repeated)
    ∷ (is_empty value, why.Empty)
    ∷ (nat_lt max_name (length value), why.TooLong)
    ∷ [])

-- Returns why a lifetime is refused, if it is.
abbrev pub lifetime_fault : Bool → List ℕ → Option Why
lifetime_fault occurred value =
    first_reason ((occurred, why.Repeated) ∷ (not (is_lifetime value), why.Lt) ∷ [])

-- Returns why a base is refused, if it is.
abbrev pub given_base_fault : Reading → Bool → List ℕ → Option Why
given_base_fault kind occurred value =
    first_reason ((is_simple kind, why.NotHere)
    ∷ (occurred, why.Repeated)
    ∷ (not (is_base value), why.Base)
    ∷ (is_link_local value, why.LinkLocal)
    ∷ [])

-- Returns why an extra attribute is refused, if it is.
abbrev pub extra_fault : List ℕ → Option Why
extra_fault name = first_reason ((not (is_extra_name name), why.Name) ∷ [])

-- Returns why a page or a count is refused, if it is.
abbrev pub cut_fault : Bool → List ℕ → Option Why
cut_fault occurred value =
    first_reason ((occurred, why.Repeated) ∷ (not (is_number value), why.Number) ∷ [])

-- Returns why a criterion is refused, if it is.
abbrev pub criterion_fault : List ℕ → Option Why
criterion_fault name = first_reason ((is_empty name, why.Name) ∷ [])

-- Returns why the rules of its name refuse a parameter, if they do.
unfoldable pub parameter_rules : Reading → Occurred → List ℕ → List ℕ → Option Why
parameter_rules kind occurred name value =
    if bytes_eq name ep then name_fault kind occurred.ep value
    else (if bytes_eq name sector then name_fault kind occurred.sector value
    else (if bytes_eq name lifetime then lifetime_fault occurred.lifetime value
    else (if bytes_eq name base then given_base_fault kind occurred.base value
    else extra_fault name)))

-- Returns why the rules of its name refuse an option of a lookup, if they do.
unfoldable pub option_rules : Occurred → List ℕ → List ℕ → Option Why
option_rules occurred name value =
    if bytes_eq name page then cut_fault occurred.page value
    else (if bytes_eq name count then cut_fault occurred.count value
    else criterion_fault name)

-- Returns why its characters or the rules of its name refuse an option, if they do.
unfoldable pub named_fault : Reading → Occurred → List ℕ → List ℕ → Option Why
named_fault kind occurred name value =
    if is_lookup kind then option_rules occurred name value
    else (if has_control value then Some why.Control else parameter_rules kind occurred name value)

-- Returns why its octets, its characters or the rules of its name refuse an option, if they do.
unfoldable pub fault_after : Reading → Occurred → List ℕ → Option Why
fault_after kind occurred query =
    if is_utf8 query
    then named_fault kind occurred (option_name query) (option_value query)
    else Some why.Utf8

-- Returns why an option is missing after the last, if one is.
unfoldable pub missing_after : Reading → Occurred → Option Why
missing_after kind occurred =
    if is_lookup kind
    then (if occurred.page && not occurred.count then Some why.PageAlone else None)
    else (if is_update kind || occurred.ep then None else Some why.NoEp)
