use Rattle.std.proofs.Common.{◌≡◌, ◌<◌, length}
use Rattle.std.specs.Ordering.{nat_cmp}
use Rattle.rd_base.proofs.lemmas.Pairs.{PairsByRecursion}
use Rattle.chunk_map.specs.Sorted.{IsAscending}
use Rattle.directory_core.specs.Pages.{finished, numbered_lines}
use Rattle.directory_core.proofs.SeekerLaws.{AreFound}
use Rattle.directory_core.proofs.pages.Page.add_numbered.Given as goal

abbrev pub invariant-numbers : goal.invariant-numbers
invariant-numbers l =
    record {
      lines :
          finished l.self (numbered_lines l.query l.now.0 l.records l.left)
          ≡ finished l.fn.self (numbered_lines l.query l.now.0 l.records l.numbers);
      found : AreFound l.records l.seeker l.left;
      rising : PairsByRecursion (λ m n. m < n) l.left;
      ascends : IsAscending nat_cmp l.seeker;
    }

abbrev pub decreases-numbers : goal.decreases-numbers
decreases-numbers l = length l.left
