-- How many ends a plan has.
use Rattle.std.proofs.Common.{ℕ, ◌+◌, ◌-◌, ◌≤◌, ◌*◌, ◌/◌, arith}
use Rattle.std.proofs.Math.Nat.{le-div_iff_mul-le, mul-pos}

-- alongside this number of connections
pub few_ends : (addresses workers connections : ℕ) → 1 ≤ addresses → connections ≤ 16
    → workers ≤ (16 - connections) / addresses → workers * addresses + connections ≤ 16
few_ends addresses workers connections some few most =
    let ends : workers * addresses ≤ 16 - connections = (le-div_iff_mul-le some).0 most in
    below (workers * addresses) ends
  where
    below : (n : ℕ) → n ≤ 16 - connections → n + connections ≤ 16
    below n ends = omega (arith, ends, few)

pub some_ends : (addresses workers : ℕ) → 1 ≤ addresses → 1 ≤ workers
    → 1 ≤ workers * addresses
some_ends addresses workers some more = mul-pos more some
