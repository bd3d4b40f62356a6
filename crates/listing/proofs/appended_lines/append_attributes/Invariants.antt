use Rattle.std.proofs.Common.{◌≡◌, ◌++◌, take, flat_map}
use Rattle.record_model.specs.ListingLines.{extra_attribute}
use Rattle.listing.proofs.appended_lines.append_attributes.Given as goal

abbrev pub invariant-pairs : goal.invariant-pairs
invariant-pairs l = l.into ≡ l.initial.into ++ flat_map extra_attribute (take l.pair-index l.pairs)
