use Rattle.std.proofs.Common.{◌≡◌, ◌+◌, ◌≤◌, ◌++◌, true, None, ℕ, List, length, map}
use Rattle.std.specs.List.{list_all}
use Rattle.link_model.specs.Quoting.{submitted_link}
use Rattle.record_model.specs.Records.{items_of}
use Rattle.reference_model.specs.References.{IsReference}
use Rattle.ref_resolve.specs.ComponentsOfParts.{components_of}
use Rattle.registration.specs.Drafts.{has_references}
use Rattle.registration.specs.LinkParameters.{WaitsForNone}
use Rattle.registration.specs.Links.{fault_from, room_of}
use Rattle.registration.proofs.links.read_links.Given as goal

abbrev pub invariant-links : goal.invariant-links
invariant-links l = record {
  same : fault_from l.start l.index l.unlimited l.left ≡ fault_from 0 0 None l.fn.links;
  items : (spelled : List ℕ)
      → IsReference spelled (components_of l.base)
      → l.builder.links ++ items_of spelled (map submitted_link l.left)
      ≡ items_of spelled (map submitted_link l.fn.links);
  references : list_all has_references l.builder.links ≡ true;
  room : l.start + room_of l.left ≤ room_of l.fn.links;
  counted : l.index ≤ l.start;
  waits : WaitsForNone l.builder;
}

abbrev pub decreases-links : goal.decreases-links
decreases-links l = length l.left
