use Rattle.std.proofs.Common.{◌==◌, eqb, sym, ap, ◌∙◌}
use Rattle.std.specs.List.{list_any}
use Rattle.std.proofs.lemmas.List.Filters.{dedup_is}
use Rattle.std.proofs.lemmas.List.Sorted.{list_any-IsPermutation}
use Rattle.std.proofs.lemmas.Map.Keys.{IsStrictlyIncreasing-dedup}
use Rattle.directory_core.proofs.RaceLaws.{any_dedup, rising_pairs}
use Rattle.directory_core.proofs.races.sorted.Goals as goal

pub returns-clause-rising : goal.returns-clause-rising
returns-clause-rising c =
    rw (dedup_is eqb _ _ c.dedup.ensures.filtered)
    (rising_pairs _ (IsStrictlyIncreasing-dedup _ c.sort_unstable.ensures.sorted))

pub returns-clause-same : goal.returns-clause-same
returns-clause-same c n =
    ap (list_any (λ m. n == m)) (dedup_is eqb _ _ c.dedup.ensures.filtered)
    ∙ any_dedup (λ m. n == m) _
    ∙ sym (list_any-IsPermutation (λ m. n == m) _ _ c.sort_unstable.ensures.permutation)
