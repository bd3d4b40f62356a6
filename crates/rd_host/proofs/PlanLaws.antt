-- A plan with fewer addresses.
use Rattle.std.proofs.Common.{ℕ, ◌-◌, ◌≤◌, ◌*◌, ◌/◌, arith}
use Rattle.std.proofs.Math.Nat.{le_trans, le-div_iff_mul-le, mul-le-mul_left}

-- As many workers fit fewer addresses, beside no more connections.
pub fewer_fit : (few many now before workers : ℕ) → 1 ≤ few → few ≤ many → now ≤ before
    → workers ≤ (16 - before) / many → workers ≤ (16 - now) / few
fewer_fit few many now before workers some fewer less most =
    let all : workers * many ≤ 16 - before = (le-div_iff_mul-le (le_trans some fewer)).0 most in
    let ends : workers * few ≤ 16 - before = le_trans (mul-le-mul_left workers fewer) all in
    (le-div_iff_mul-le some).1 (within (workers * few) ends)
  where
    within : (n : ℕ) → n ≤ 16 - before → n ≤ 16 - now
    within n ends = omega (arith, ends, less)
