use Rattle.std.proofs.Common.{◌≡◌, ◌++◌, ◌∷◌, take, flat_map}
use Rattle.install_list.specs.Printing.{escaped}
use Rattle.install_list.proofs.printing.push_segment.Given as goal

abbrev pub invariant-octets : goal.invariant-octets
invariant-octets l =
    l.into ≡ l.fn.into ++ (47 ∷ flat_map escaped (take l.octet-index l.segment))
