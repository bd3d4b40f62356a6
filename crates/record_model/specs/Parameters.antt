-- The parameters of a registration, a simple registration and an update (RFC 9176 sections 5, 5.1
-- and 5.3.1).
use Rattle.std.specs.Prelude.{
  ℕ,
  Bool,
  true,
  false,
  not,
  ◌&&◌,
  ◌||◌,
  ◌==◌,
  nat_lt,
  nat_le,
  List,
  [],
  ◌∷◌,
  length,
  take,
  drop,
  map,
  filter,
  codes,
  Option,
  Some,
  None,
  is_some,
  is_none,
  option_map,
  unwrap_or,
  Result,
  Ok,
  Err,
  if◌then◌else◌,
  chars,
}
use Rattle.std.specs.List.{list_any, list_all}
use Rattle.std.specs.Char.{is_ascii_hexdigit}
use Rattle.std.specs.Str.{is_utf8, str_to_ascii_lowercase}
use Rattle.rd_base.specs.declared.attributes.Pair.{Pair}
use Rattle.rd_base.specs.declared.records.Name.{Name}
use Rattle.rd_base.specs.declared.parameters.RegParams.{RegParams}
use Rattle.rd_base.specs.declared.parameters.UpdateParams.{UpdateParams}
use Rattle.record_model.specs.declared.readings.Reading.{Reading}
use Rattle.record_model.specs.declared.readings.Reading.TheVariants as reading
use Rattle.record_model.specs.declared.readings.Why.{Why}
use Rattle.record_model.specs.declared.readings.Why.TheVariants as why
use Rattle.link_model.specs.Characters.{
  colon,
  left_bracket,
  right_bracket,
  is_empty,
  is_run_of,
  is_attribute_name_character,
}
use Rattle.reference_model.specs.References.{Components, before, begins_with, reference, host}
use Rattle.record_model.specs.Options.{
  option_name,
  option_value,
  is_named,
  has_named,
  value_named,
  is_among,
  is_number,
  number_of,
}
use Rattle.record_model.specs.Faults.{Fault, first_reason, first_fault}

-- The names of the parameters that have a meaning of their own (RFC 9176 section 5).
abbrev pub ep : List ℕ
ep = codes "ep"

abbrev pub sector : List ℕ
sector = codes "d"

abbrev pub lifetime : List ℕ
lifetime = codes "lt"

abbrev pub base : List ℕ
base = codes "base"

abbrev pub own_names : List (List ℕ)
own_names = ep ∷ sector ∷ lifetime ∷ base ∷ []

-- The names that no extra attribute may have, since they mean something else in a lookup.
abbrev pub reserved_names : List (List ℕ)
reserved_names = codes "href" ∷ codes "anchor" ∷ codes "rt" ∷ codes "page" ∷ codes "count" ∷ []

-- The most octets of the name of an endpoint or a sector (RFC 9176 section 5).
abbrev pub max_name : ℕ
max_name = 63

-- The lifetime of a registration that gives none, in seconds (RFC 9176 section 5).
abbrev pub default_lifetime : ℕ
default_lifetime = 90_000

-- Returns whether a character is U+0000 to U+001F or U+007F to U+009F.
abbrev pub is_control : ℕ → Bool
is_control c = nat_le c 0x1F || (nat_le 0x7F c && nat_le c 0x9F)

-- Returns whether the text has a control character.
unfoldable pub has_control : List ℕ → Bool
has_control text = list_any is_control (chars text)

-- Returns whether a value is a lifetime: a number of seconds of 32 bits, and not 0.
abbrev pub is_lifetime : List ℕ → Bool
is_lifetime value = is_number value && nat_lt 0 (number_of value)

-- Returns whether there is a host that is not empty.
abbrev pub has_host : Option (List ℕ) → Bool
has_host None = false
has_host (Some text) = not (is_empty text)

-- Returns whether components are those of a URI with an authority and a host, and without query and
-- fragment.
abbrev pub is_base_of : Option Components → Bool
is_base_of None = false
is_base_of (Some c) = is_some c.scheme && has_host (host c) && is_none c.query && is_none c.fragment

-- Returns whether a value is a base: such a URI (RFC 9176 section 5, base).
unfoldable pub is_base : List ℕ → Bool
is_base value = is_base_of (reference value)

-- Returns the first group of an IP literal: what is in its brackets before the first colon, or all
-- of it if there is none.
abbrev pub first_group : List ℕ → List ℕ
first_group literal = before colon (before right_bracket (drop 1 literal))

-- Returns whether a group begins a link-local address: four hexadecimal digits, the first three
-- fe8, fe9, fea or feb (RFC 4291 section 2.5.6).
abbrev pub is_link_local_group : List ℕ → Bool
is_link_local_group group =
    length group == 4 && list_all is_ascii_hexdigit group
    && is_among (codes "fe8" ∷ codes "fe9" ∷ codes "fea" ∷ codes "feb" ∷ [])
    (str_to_ascii_lowercase (take 3 group))

-- Returns whether the host is an IP literal of a link-local address.
abbrev pub is_link_local_host : Option (List ℕ) → Bool
is_link_local_host None = false
is_link_local_host (Some text) =
    begins_with left_bracket text && is_link_local_group (first_group text)

-- Returns whether the host of the components is one.
abbrev pub is_link_local_in : Option Components → Bool
is_link_local_in None = false
is_link_local_in (Some c) = is_link_local_host (host c)

-- Returns whether the host of a base is a link-local address.
unfoldable pub is_link_local : List ℕ → Bool
is_link_local value = is_link_local_in (reference value)

-- Returns whether an extra attribute may have this name: one or more characters of an attribute's
-- name, and none of the reserved names.
abbrev pub is_extra_name : List ℕ → Bool
is_extra_name name =
    is_run_of is_attribute_name_character name && not (is_among reserved_names name)

-- Returns whether the request is an update, which names no endpoint and no sector.
abbrev pub is_update : Reading → Bool
is_update reading.Update = true
is_update _ = false

-- Returns whether the request is a simple registration, which gives no base.
abbrev pub is_simple : Reading → Bool
is_simple reading.Simple = true
is_simple _ = false

-- Returns the reasons to refuse the name of an endpoint or a sector after other parameters, in
-- order, each with whether it applies.
abbrev pub name_reasons : Reading → List (List ℕ) → List ℕ → List (Bool × Why)
name_reasons kind others query =
    (is_update kind, why.NotHere) ∷ (has_named (option_name query) others, why.Repeated)
    ∷ (is_empty (option_value query), why.Empty)
    ∷ (nat_lt max_name (length (option_value query)), why.TooLong)
    ∷ []

-- Returns the reasons to refuse a lifetime after other parameters.
abbrev pub lifetime_reasons : List (List ℕ) → List ℕ → List (Bool × Why)
lifetime_reasons others query =
    (has_named lifetime others, why.Repeated)
    ∷ (not (is_lifetime (option_value query)), why.Lt)
    ∷ []

-- Returns the reasons to refuse a base after other parameters.
abbrev pub base_reasons : Reading → List (List ℕ) → List ℕ → List (Bool × Why)
base_reasons kind others query =
    (is_simple kind, why.NotHere) ∷ (has_named base others, why.Repeated)
    ∷ (not (is_base (option_value query)), why.Base)
    ∷ (is_link_local (option_value query), why.LinkLocal)
    ∷ []

-- Returns the reasons to refuse an extra attribute.
abbrev pub extra_reasons : List ℕ → List (Bool × Why)
extra_reasons query = (not (is_extra_name (option_name query)), why.Name) ∷ []

-- Returns the reasons for which the rules of its name refuse a parameter.
abbrev pub reasons_of_name : Reading → List (List ℕ) → List ℕ → List (Bool × Why)
reasons_of_name kind others query =
    if is_named ep query || is_named sector query then name_reasons kind others query
    else (if is_named lifetime query then lifetime_reasons others query
    else (if is_named base query then base_reasons kind others query
    else extra_reasons query))

-- Returns why a parameter is refused after others, if it is. The checks are of its octets, then of
-- its characters, then of the rules of its name.
unfoldable pub parameter_fault : Reading → List (List ℕ) → List ℕ → Option Why
parameter_fault kind others query =
    first_reason ((not (is_utf8 query), why.Utf8)
    ∷ (has_control (option_value query), why.Control)
    ∷ reasons_of_name kind others query)

-- Returns the fault that is found after the last parameter: a registration does not name its
-- endpoint.
abbrev pub missing_fault : Reading → List (List ℕ) → Option Why
missing_fault kind queries = if is_update kind || has_named ep queries then None else Some why.NoEp

-- Returns the first fault of the parameters of a registration, a simple registration or an update.
unfoldable pub parameters_fault : Reading → List (List ℕ) → Option Fault
parameters_fault kind queries = first_fault (parameter_fault kind) (missing_fault kind) queries

-- Returns a parameter as an attribute.
abbrev pub pair_of_option : List ℕ → Pair
pair_of_option query = record { name = option_name query; value = option_value query }

-- Returns the extra attributes, in order: every parameter without a meaning of its own.
abbrev pub extra_attributes : List (List ℕ) → List Pair
extra_attributes queries =
    map pair_of_option (filter (λ query. not (is_among own_names (option_name query))) queries)

-- Returns the name of an endpoint, with its sector if it has one.
abbrev pub endpoint_name : List (List ℕ) → Name
endpoint_name queries = record {
  ep = unwrap_or (value_named ep queries) [];
  sector = value_named sector queries;
}

-- Returns the lifetime that is given, in seconds.
abbrev pub given_lifetime : List (List ℕ) → Option ℕ
given_lifetime queries = option_map number_of (value_named lifetime queries)

-- Returns the parameters of a registration, if they have no fault.
unfoldable pub registration_values : List (List ℕ) → RegParams
registration_values queries = record {
  name = endpoint_name queries;
  lt = unwrap_or (given_lifetime queries) default_lifetime;
  base = value_named base queries;
  attrs = extra_attributes queries;
}

-- Returns the parameters of an update, if they have no fault.
unfoldable pub update_values : List (List ℕ) → UpdateParams
update_values queries = record {
  lt = given_lifetime queries;
  base = value_named base queries;
  attrs = extra_attributes queries;
}

-- Returns a value, or the fault if there is one.
abbrev pub unless_fault : {A : Type 0} → Option Fault → A → Result A Fault
unless_fault None value = Ok value
unless_fault (Some fault) value = Err fault

-- Returns the parameters of a registration, or their first fault. A simple registration gives no
-- base.
unfoldable pub registration_parameters : Reading → List (List ℕ) → Result RegParams Fault
registration_parameters kind queries =
    unless_fault (parameters_fault kind queries) (registration_values queries)

-- Returns the parameters of an update, or their first fault.
unfoldable pub update_parameters : List (List ℕ) → Result UpdateParams Fault
update_parameters queries =
    unless_fault (parameters_fault reading.Update queries) (update_values queries)
