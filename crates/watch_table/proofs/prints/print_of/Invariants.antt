use Rattle.std.proofs.Common.{◌≡◌, drop}
use Rattle.watch_table.specs.Prints.{print_from}
use Rattle.watch_table.proofs.prints.print_of.Given as goal

abbrev pub invariant-octets : goal.invariant-octets
invariant-octets l = print_from l.print (drop l.octet-index l.text) ≡ print_from 0 l.text
