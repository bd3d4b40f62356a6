use Rattle.std.proofs.Common.{◌≡◌, ◌++◌, length, map, Bor}
use Rattle.std.specs.List.{list_any}
use Rattle.rd_base.specs.declared.queries.Criterion.{Criterion}
use Rattle.distinct_criteria.specs.Distinct.{distinct, is_among, is_same, unseen}
use Rattle.distinct_criteria.proofs.distinct.firsts.Given as goal

abbrev pub invariant-criteria : goal.invariant-criteria
invariant-criteria l = record {
  kept :
      map (λ c. c.now) l.kept.items ++ unseen (map (λ c. c.now) l.kept.items) l.rest
      ≡ distinct l.criteria;
  seen : (q : Bor Criterion)
      → list_any (λ k. is_same q.now k.now) l.seen.keys
      ≡ is_among (map (λ c. c.now) l.kept.items) q.now;
}

abbrev pub decreases-criteria : goal.decreases-criteria
decreases-criteria l = length l.rest
