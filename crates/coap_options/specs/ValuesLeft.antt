-- The remaining values of the iterators.
use Rattle.std.specs.Prelude.{ℕ, false, ◌&&◌, ◌==◌, List, length, map, filter}
use Rattle.message_model.specs.Message.{Opt}
use Rattle.message_model.specs.OptionTable as table
use Rattle.message_model.specs.OptionTable.{definition_of, is_allowed_by}
use Rattle.coap_message.specs.OptionsLeft.{options_left}
use Rattle.coap_options.specs.declared.values.QueryIter.{QueryIter}
use Rattle.coap_options.specs.declared.values.EtagIter.{EtagIter}
use Rattle.coap_options.specs.declared.values.LocationIter.{LocationIter}

-- Returns the values of an option that may be repeated, in order: those with a length that the
-- table allows.
abbrev pub values_left : ℕ → List Opt → List (List ℕ)
values_left number options =
    map (λ option. option.1) (filter (λ option.
    option.0 == number && is_allowed_by (definition_of number) false (length option.1))
    options)

-- Returns the remaining query options, in order.
abbrev pub queries_left : QueryIter → List (List ℕ)
queries_left it = values_left table.uri_query (options_left it.options)

-- Returns the remaining entity tags, in order.
abbrev pub etags_left : EtagIter → List (List ℕ)
etags_left it = values_left table.etag (options_left it.options)

-- Returns the remaining segments of a location, in order.
abbrev pub locations_left : LocationIter → List (List ℕ)
locations_left it = values_left table.location_path (options_left it.options)
