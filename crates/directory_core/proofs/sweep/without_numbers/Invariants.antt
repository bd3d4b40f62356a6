use Rattle.std.proofs.Common.{◌≡◌, length}
use Rattle.rd_base.proofs.lemmas.Pairs.{PairsByRecursion}
use Rattle.history_model.proofs.NumberLaws.{IsBelow}
use Rattle.directory_core.specs.Bounds.{AreEntriesOf}
use Rattle.directory_core.specs.NameSlots.{slots_of}
use Rattle.directory_core.specs.Swept.{without_all}
use Rattle.directory_core.proofs.sweep.without_numbers.Given as goal

abbrev pub invariant-numbers : goal.invariant-numbers
invariant-numbers l =
    record {
      left : without_all l.left l.records ≡ without_all l.fn.numbers l.fn.records;
      rising : PairsByRecursion IsBelow l.records;
      named : l.names ≡ slots_of l.records;
      entries : AreEntriesOf l.records l.index;
    }

abbrev pub decreases-numbers : goal.decreases-numbers
decreases-numbers l = length l.left
