use Rattle.std.proofs.Common.{◌≡◌, ◌<◌, drop}
use Rattle.attribute_index.specs.Abbreviations.{spelled, symbols_to}
use Rattle.attribute_index.proofs.AbbreviationLaws.{limit}
use Rattle.attribute_index.proofs.abbreviations.number_at.Given as goal

abbrev pub invariant-loop-i : goal.invariant-loop-i
invariant-loop-i l = record {
  spells : l.number ≡ spelled l.i (drop l.from (symbols_to l.last (l.name, l.value)));
  below : l.number < limit l.i;
}
