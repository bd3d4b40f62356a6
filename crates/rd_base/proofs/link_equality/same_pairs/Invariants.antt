-- The attributes that are left are the same exactly where all are.
use Rattle.std.proofs.Common.{◌≡◌, length}
use lib.Pointwise.{pointwise}
use Rattle.rd_base.specs.contracts.attributes.PairPartialEq.TheImpl.{eq-value}
use Rattle.rd_base.proofs.link_equality.same_pairs.Given as goal

abbrev pub invariant-pairs : goal.invariant-pairs
invariant-pairs l =
    pointwise eq-value.it l.left l.others ≡ pointwise eq-value.it l.fn.one l.fn.other

abbrev pub decreases-pairs : goal.decreases-pairs
decreases-pairs l = length l.left
