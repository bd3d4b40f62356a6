-- Octets, and the numbers that octets encode.
use Rattle.std.specs.Prelude.{
  ℕ,
  ◌+◌,
  ◌*◌,
  ◌/◌,
  ◌%◌,
  ◌^◌,
  ◌<◌,
  List,
  [],
  ◌∷◌,
  fold,
  ◌==◌,
  nat_lt,
  if◌then◌else◌,
}
use Rattle.std.specs.List.{AllByRecursion}

-- The number of values of an octet.
abbrev pub byte_values : ℕ
byte_values = 256

-- States that a number is an octet: it is below 256.
abbrev pub IsByte : ℕ → Type 0
IsByte b = b < byte_values

-- States that each of these numbers is an octet.
abbrev pub AreBytes : List ℕ → Type 0
AreBytes bytes = AllByRecursion IsByte bytes

-- Returns the number that octets encode, the most significant octet first; no octets encode 0 (RFC
-- 7252 section 3.2).
abbrev pub uint_of : List ℕ → ℕ
uint_of bytes = fold (λ n b. n * byte_values + b) 0 bytes

-- Returns the fewest octets that encode a number below 2 ^ 24, so that 0 has none (RFC 7252 section
-- 3.2).
unfoldable pub uint_bytes : ℕ → List ℕ
uint_bytes n =
    if n == 0 then []
    else if nat_lt n byte_values then n ∷ []
    else if nat_lt n (byte_values ^ 2) then (n / byte_values) ∷ (n % byte_values) ∷ []
    else (n / byte_values ^ 2) ∷ (n / byte_values % byte_values) ∷ (n % byte_values) ∷ []
