-- What an example unfolds, so that parameters, matching and lines compute on octets that are
-- written out.
use Rattle.std.specs.Prelude.{⊤}
use Rattle.std.specs.Fmt.{digits}
use Rattle.std.specs.Net.Text.{hex, hex_groups_text, ipv6_text}
use Rattle.record_model.specs.Options.{value_named}
use Rattle.record_model.specs.Parameters.{
  has_control,
  is_base,
  is_link_local,
  parameter_fault,
  parameters_fault,
  registration_values,
  update_values,
  registration_parameters,
  update_parameters,
}
use Rattle.record_model.specs.Criteria.{
  option_fault,
  lookup_fault,
  lookup_values,
  lookup_query,
  fault_of,
}
use Rattle.rd_base.specs.Bases.{base_of}
use Rattle.record_model.specs.Matching.{
  matches_value,
  matches_named,
  link_matches,
  location,
  endpoint_pairs,
  endpoint_matches,
}
use Rattle.record_model.specs.ListingLines.{
  link_listed,
  endpoint_listed,
  link_line,
  endpoint_line,
  part,
  weight,
  shown,
}
use Rattle.record_model.specs.Records.{
  based,
  item_of,
  rebased,
  updated_attributes,
  registered,
  updated,
}
use Rattle.record_model.specs.Refusals.{first_unlimited, is_refused_as_links, is_refused_as_limited}
use Rattle.record_model.specs.Discovery.{own_items, own_link_listed, discovery}
use Rattle.record_model.specs.BodyFaults.{references_of, first_no_reference, body_fault}
use Rattle.link_model.proofs.OnLiterals.{document_on_literals}
use Rattle.reference_model.proofs.OnLiterals.{reference_on_literals}
use Rattle.record_model.specs.Bodies.{is_uri, linked_references}

-- the definitions of records and queries
unfoldable pub record_on_literals : ⊤
unfolding document_on_literals reference_on_literals is_uri linked_references digits hex
    hex_groups_text ipv6_text value_named has_control is_base is_link_local parameter_fault
    parameters_fault registration_values update_values registration_parameters update_parameters
    option_fault lookup_fault lookup_values lookup_query fault_of base_of matches_value
    matches_named link_matches location endpoint_pairs endpoint_matches link_listed endpoint_listed
    link_line endpoint_line part weight shown based item_of rebased updated_attributes registered
    updated first_unlimited is_refused_as_links is_refused_as_limited own_items own_link_listed
    discovery references_of first_no_reference body_fault
record_on_literals = tt
