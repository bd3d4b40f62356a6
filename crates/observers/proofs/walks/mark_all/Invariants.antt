use Rattle.std.proofs.Common.{◌≡◌, ◌++◌, map, take, drop}
use Rattle.observers.specs.Standing.{marked}
use Rattle.observers.proofs.walks.mark_all.Given as goal

abbrev pub invariant-items : goal.invariant-items
invariant-items l =
    l.item-items
    ≡ map (marked l.slot) (take l.item-index l.initial.item-items)
    ++ drop l.item-index l.initial.item-items
