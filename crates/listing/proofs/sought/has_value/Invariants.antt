use Rattle.std.proofs.Common.{◌≡◌, length}
use Rattle.listing.specs.SoughtLinks.{has_value}
use Rattle.listing.proofs.sought.has_value.Given as goal

abbrev pub invariant-pairs : goal.invariant-pairs
invariant-pairs l = has_value l.name l.pattern l.left ≡ has_value l.name l.pattern l.fn.pairs

abbrev pub decreases-pairs : goal.decreases-pairs
decreases-pairs l = length l.left
