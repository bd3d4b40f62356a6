use Rattle.std.proofs.Common.{◌≡◌, ◌≤◌, ◌-◌, ◌++◌, length, take, drop}
use Rattle.record_model.specs.Options.{option_name}
use Rattle.coap_stream.proofs.refusing.name_of.Given as goal

-- No equals sign stands before this place.
abbrev pub invariant-octets : goal.invariant-octets
invariant-octets l =
    (l.at ≤ length l.query)
    × (option_name l.query ≡ take l.at l.query ++ option_name (drop l.at l.query))

abbrev pub decreases-octets : goal.decreases-octets
decreases-octets l = length l.query - l.at
