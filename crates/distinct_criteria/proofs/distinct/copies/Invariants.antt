use Rattle.std.proofs.Common.{◌≡◌, map, take}
use Rattle.distinct_criteria.proofs.distinct.copies.Given as goal

abbrev pub invariant-criteria : goal.invariant-criteria
invariant-criteria l = l.copied.items ≡ map (λ c. c.now) (take l.criterion-index l.criteria)
