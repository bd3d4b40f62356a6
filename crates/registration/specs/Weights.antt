-- Weights as numbers of 64 bits.
use Rattle.std.specs.Prelude.{ℕ, ◌-◌, ◌^◌, min}

-- Returns the number, or the greatest number of 64 bits if it is more.
abbrev pub capped : ℕ → ℕ
capped n = min n (2 ^ 64 - 1)
