use Rattle.std.proofs.Common.{◌≡◌, ◌++◌, take, flat_map}
use Rattle.install_list.specs.Lists.{quoted_octet}
use Rattle.install_list.proofs.lines.push_query.Given as goal

abbrev pub invariant-octets : goal.invariant-octets
invariant-octets l = l.into ≡ l.fn.into ++ flat_map quoted_octet (take l.octet-index l.query)
