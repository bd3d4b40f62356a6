use Rattle.std.proofs.Common.{◌≡◌, bytes_eq, length}
use Rattle.listing.specs.Views.{left}
use Rattle.listing.proofs.octets.same_octets.Given as goal

abbrev pub invariant-octets : goal.invariant-octets
invariant-octets l =
    bytes_eq (left l.old) (left l.new) ≡ bytes_eq (left l.initial.old) (left l.initial.new)

abbrev pub decreases-octets : goal.decreases-octets
decreases-octets l = length (left l.old)
