use Rattle.std.proofs.Common.{◌≡◌}
use Rattle.listing.specs.Views.{left, pieces_left}
use Rattle.listing.proofs.octets.Octets.next_octet.Given as goal

abbrev pub invariant-pieces : goal.invariant-pieces
invariant-pieces l = left l.self ≡ left l.initial.self

abbrev pub decreases-pieces : goal.decreases-pieces
decreases-pieces l = pieces_left l.self
