-- The links that are left are the same exactly where all are.
use Rattle.std.proofs.Common.{◌≡◌, length}
use lib.Pointwise.{pointwise}
use Rattle.rd_base.specs.contracts.records.ItemPartialEq.TheImpl.{eq-value}
use Rattle.rd_base.proofs.link_equality.same_links.Given as goal

abbrev pub invariant-links : goal.invariant-links
invariant-links l =
    pointwise eq-value.it l.left l.others ≡ pointwise eq-value.it l.fn.one l.fn.other

abbrev pub decreases-links : goal.decreases-links
decreases-links l = length l.left
