-- What an example unfolds, so that references compute on octets that are written out.
use Rattle.std.specs.Prelude.{⊤}
use Rattle.reference_model.specs.References.{
  before,
  after,
  from_first,
  through,
  components,
  recomposed,
  reference,
  host_of,
}
use Rattle.reference_model.specs.ReferenceFaults.{authority_prefix, reference_fault_at}
use Rattle.reference_model.specs.Resolution.{
  segments_of,
  remove_dot_segments,
  merged,
  resolution,
  resolved,
}

-- the definitions of references and of their resolution
unfoldable pub reference_on_literals : ⊤
unfolding before after from_first through components recomposed reference host_of authority_prefix
    reference_fault_at segments_of remove_dot_segments merged resolution resolved
reference_on_literals = tt
