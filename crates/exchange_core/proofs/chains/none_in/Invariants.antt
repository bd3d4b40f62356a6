use Rattle.std.proofs.Common.{◌≡◌, ℕ, ◌<◌, get_or}
use Rattle.exchange_core.proofs.chains.none_in.Given as goal

abbrev pub invariant-buckets : goal.invariant-buckets
invariant-buckets l = (k : ℕ) → k < l.number-index → get_or l.latest k 0 ≡ 0
