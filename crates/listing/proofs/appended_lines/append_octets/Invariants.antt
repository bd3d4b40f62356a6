use Rattle.std.proofs.Common.{◌≡◌, ◌++◌, take, flat_map}
use Rattle.link_model.specs.Quoting.{escaped_character}
use Rattle.listing.proofs.appended_lines.append_octets.Given as goal

abbrev pub invariant-octets : goal.invariant-octets
invariant-octets l =
    l.into ≡ l.initial.into ++ flat_map escaped_character (take l.octet-index l.text)
