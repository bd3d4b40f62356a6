-- The links that are left carry the same attributes exactly where all do.
use Rattle.std.proofs.Common.{◌≡◌, ◌↔◌, List, map, length}
use Rattle.rd_base.specs.declared.attributes.Pair.{Pair}
use Rattle.directory_core.proofs.index.carry_alike.Given as goal

abbrev pub invariant-links : goal.invariant-links
invariant-links l =
    ◌≡◌ {A = List (List Pair)} (map (λ item. item.pairs) l.left) (map (λ item. item.pairs) l.right)
    ↔ ◌≡◌ {A = List (List Pair)} (map (λ item. item.pairs) l.fn.links)
    (map (λ item. item.pairs) l.fn.others)

abbrev pub decreases-links : goal.decreases-links
decreases-links l = length l.left
