use Rattle.std.proofs.Common.{◌≡◌, find, length}
use Rattle.transfers.specs.Keeping.{is_kept_as}
use Rattle.transfers.proofs.caching.entry_of.Given as goal

abbrev pub invariant-pairs : goal.invariant-pairs
invariant-pairs l =
    find (λ p. is_kept_as (l.peer, l.key) p.1) l.left
    ≡ find (λ p. is_kept_as (l.peer, l.key) p.1) l.cache.entries

abbrev pub decreases-pairs : goal.decreases-pairs
decreases-pairs l = length l.left
