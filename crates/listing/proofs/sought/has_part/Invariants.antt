use Rattle.std.proofs.Common.{◌≡◌, length}
use Rattle.listing.specs.SoughtLinks.{has_part}
use Rattle.listing.proofs.sought.has_part.Given as goal

abbrev pub invariant-pairs : goal.invariant-pairs
invariant-pairs l = has_part l.name l.pattern l.left ≡ has_part l.name l.pattern l.fn.pairs

abbrev pub decreases-pairs : goal.decreases-pairs
decreases-pairs l = length l.left
