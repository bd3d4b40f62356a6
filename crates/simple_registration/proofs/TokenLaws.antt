-- Tokens are made from the low 64 bits of the number of fetches that started.
use Rattle.std.proofs.Common.{◌≡◌, ℕ, ◌+◌, ◌*◌, ◌/◌, ◌%◌, ◌^◌, List, refl, sym, ap, ◌∙◌, arith}
use Rattle.std.specs.Int.{byte_at, bytes_high_first}

-- a number without what stands above its low 64 bits
low : (n : ℕ) → n ≡ n % 18446744073709551616 + 18446744073709551616 * (n / 18446744073709551616)
low n = omega arith

-- its octets
octet_0 : (n : ℕ) → byte_at 0 (n % 18446744073709551616) ≡ byte_at 0 n
octet_0 n = omega arith

octet_1 : (n : ℕ) → byte_at 1 (n % 18446744073709551616) ≡ byte_at 1 n
octet_1 n = omega arith

octet_2 : (n : ℕ) → byte_at 2 (n % 18446744073709551616) ≡ byte_at 2 n
octet_2 n = omega arith

octet_3 : (n : ℕ) → byte_at 3 (n % 18446744073709551616) ≡ byte_at 3 n
octet_3 n = omega arith

octet_4 : (n : ℕ) → byte_at 4 (n % 18446744073709551616) ≡ byte_at 4 n
octet_4 n = omega arith

octet_5 : (n : ℕ) → byte_at 5 (n % 18446744073709551616) ≡ byte_at 5 n
octet_5 n = omega arith

octet_6 : (n : ℕ) → byte_at 6 (n % 18446744073709551616) ≡ byte_at 6 n
octet_6 n = omega arith

octet_7 : (n : ℕ) → byte_at 7 (n % 18446744073709551616) ≡ byte_at 7 n
octet_7 n = omega arith

octets_low : (n : ℕ) → bytes_high_first 8 (n % 18446744073709551616) ≡ bytes_high_first 8 n
octets_low n =
    rw (octet_0 n, octet_1 n, octet_2 n, octet_3 n, octet_4 n, octet_5 n, octet_6 n, octet_7 n) refl

-- the octets of the number after one, as 64 bits count both
pub octets_after : (n : ℕ)
    → bytes_high_first 8 ((n % 2 ^ 64 + 1) % 2 ^ 64) ≡ bytes_high_first 8 (n + 1)
octets_after n =
    let same :
    (n % 18446744073709551616 + 1) % 18446744073709551616 ≡ (n + 1) % 18446744073709551616 =
    omega arith in
    ap (bytes_high_first 8) same ∙ octets_low (n + 1)
