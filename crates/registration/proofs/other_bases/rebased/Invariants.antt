use Rattle.std.proofs.Common.{◌≡◌, true, ◌++◌, ℕ, List, length, map}
use Rattle.std.specs.List.{list_all}
use Rattle.record_model.specs.Records.{rebased}
use Rattle.reference_model.specs.References.{IsReference}
use Rattle.ref_resolve.specs.ComponentsOfParts.{components_of}
use Rattle.registration.specs.Drafts.{has_references}
use Rattle.registration.specs.LinkParameters.{WaitsForNone}
use Rattle.registration.proofs.other_bases.rebased.Given as goal

abbrev pub invariant-links : goal.invariant-links
invariant-links l = record {
  done : (spelled : List ℕ)
      → IsReference spelled (components_of l.base)
      → l.builder.links ++ map (rebased spelled) l.left ≡ map (rebased spelled) l.fn.items;
  left : list_all has_references l.left ≡ true;
  new : list_all has_references l.builder.links ≡ true;
  waits : WaitsForNone l.builder;
}

abbrev pub decreases-links : goal.decreases-links
decreases-links l = length l.left
