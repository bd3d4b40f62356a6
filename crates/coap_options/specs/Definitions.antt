-- The entry of an option that the code stores.
use Rattle.message_model.specs.OptionTable as table
use Rattle.coap_options.specs.declared.table.Definition.{Definition}

-- Returns the entry with the same parts (RFC 7252 section 5.10).
abbrev pub definition_in : Definition → table.Definition
definition_in d = record { least = d.least; most = d.most; repeatable = d.repeatable }
