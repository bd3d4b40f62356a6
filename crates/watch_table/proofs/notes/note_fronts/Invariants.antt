use Rattle.std.proofs.Common.{◌≡◌, drop}
use Rattle.watch_table.specs.Prints.{fronts_noted, print_from}
use Rattle.watch_table.proofs.notes.note_fronts.Given as goal

abbrev pub invariant-octets : goal.invariant-octets
invariant-octets l = record {
  noted :
      fronts_noted l.notes l.print (drop l.octet-index l.text)
      ≡ fronts_noted l.initial.notes l.before l.text;
  print : print_from l.print (drop l.octet-index l.text) ≡ print_from l.before l.text;
}
