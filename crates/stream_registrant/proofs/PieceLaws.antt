-- The octets that were read and not yet used.
use Rattle.std.proofs.Common.{◌≡◌, ℕ, ◌+◌, ◌-◌, ◌≤◌, List, length, take, drop, sym, ap, ◌∙◌, arith}
use Rattle.std.proofs.lemmas.List.{drop-drop, drop-take, length-take}

-- Some octets of a part are used.
pub spent : (xs : List ℕ) (from to count : ℕ)
    → count ≤ to - from
    → take (to - (from + count)) (drop (from + count) xs)
    ≡ drop count (take (to - from) (drop from xs))
spent xs from to count few =
    let size : to - from ≡ count + (to - (from + count)) = omega (arith, few) in
    ap (take (to - (from + count))) (sym (drop-drop count from xs))
    ∙ sym (drop-take count (to - (from + count)) (drop from xs))
    ∙ sym (ap (λ (n : ℕ). drop count (take n (drop from xs))) size)

-- No more are used than there are.
pub few_of : (xs part : List ℕ) (from to count : ℕ)
    → take (to - from) (drop from xs) ≡ part
    → count ≤ length part
    → count ≤ to - from
few_of xs part from to count is few =
    let size = length-take (to - from) (drop from xs) in
    let same = ap (λ (l : List ℕ). length l) is in
    omega (arith, few, size, same)
