use Rattle.std.proofs.Common.{◌≡◌, ◌+◌, ◌<◌, ◌^◌, length, drop, flat_map}
use Rattle.record_model.specs.ListingLines.{extra_attribute}
use Rattle.registration.specs.Weights.{capped}
use Rattle.registration.proofs.weights.add_extras.Given as goal

abbrev pub invariant-pairs : goal.invariant-pairs
invariant-pairs l = record {
  same :
      capped (l.sum + length (flat_map extra_attribute (drop l.pair-index l.pairs)))
      ≡ capped (l.weight + length (flat_map extra_attribute l.pairs));
  fits : l.sum < 2 ^ 64;
}
