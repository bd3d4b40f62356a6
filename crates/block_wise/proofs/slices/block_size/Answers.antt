use Rattle.std.proofs.Common.{ℕ, zero, suc, ◌+◌, ◌*◌, ◌%◌, ◌^◌, ◌<◌, ◌≤◌, arith, lit≤}
use Rattle.block_wise.proofs.slices.block_size.Goals as goal

-- the greatest size is that of the exponent 6
at_most_1024 : (szx : ℕ) → szx < 7 → 1 * 2 ^ (szx + 4) % 18446744073709551616 ≤ 1024
at_most_1024 zero h = lit≤ tt
at_most_1024 (suc zero) h = lit≤ tt
at_most_1024 (suc (suc zero)) h = lit≤ tt
at_most_1024 (suc (suc (suc zero))) h = lit≤ tt
at_most_1024 (suc (suc (suc (suc zero)))) h = lit≤ tt
at_most_1024 (suc (suc (suc (suc (suc zero))))) h = lit≤ tt
at_most_1024 (suc (suc (suc (suc (suc (suc zero)))))) h = lit≤ tt
at_most_1024 (suc (suc (suc (suc (suc (suc (suc n))))))) h = absurd (omega arith)

pub returns-clause-most : goal.returns-clause-most
returns-clause-most c = at_most_1024 c.args.szx c.requires
