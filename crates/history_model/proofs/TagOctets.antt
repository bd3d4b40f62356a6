-- The octets of a tag determine its two numbers.
use Rattle.std.proofs.Common.{
  ◌≡◌,
  ℕ,
  ◌/◌,
  ◌%◌,
  ◌^◌,
  ◌<◌,
  List,
  ◌∷◌,
  take,
  drop,
  refl,
  sym,
  ap,
  ◌∙◌,
  arith,
  w16,
  w64,
}
use Rattle.std.specs.Int.{bytes_high_first, to_be_bytes, from_be_bytes}
use Rattle.std.proofs.lemmas.Nat.{
  div_below,
  from_be_bytes-to_be_bytes_2,
  from_be_bytes-to_be_bytes_8,
}
use Rattle.history_model.specs.Listing.{tag_octets}

-- an octet above a number
above : (n k : ℕ) → 0 < k → n < k → n / k % 256 ≡ 0
above n k some below =
    let none : n / k < 1 = div_below n k 1 some (omega arith) in
    let zero : n / k ≡ 0 = omega arith in rw zero refl

-- a number of six octets as one of eight
eight_octets : (n : ℕ) → n < 2 ^ 48 → to_be_bytes w64 n ≡ 0 ∷ 0 ∷ bytes_high_first 6 n
eight_octets n below =
    let seventh : n / 256 ^ 7 % 256 ≡ 0 = above n (256 ^ 7) (omega arith) (omega arith) in
    let sixth : n / 256 ^ 6 % 256 ≡ 0 = above n (256 ^ 6) (omega arith) (omega arith) in
    cc

six_octets : (a b : ℕ)
    → a < 2 ^ 48
    → b < 2 ^ 48
    → bytes_high_first 6 a ≡ bytes_high_first 6 b
    → a ≡ b
six_octets a b low_a low_b e =
    let same : to_be_bytes w64 a ≡ to_be_bytes w64 b =
    eight_octets a low_a
    ∙ ap (λ (rest : List ℕ). 0 ∷ 0 ∷ rest) e
    ∙ sym (eight_octets b low_b) in
    sym (from_be_bytes-to_be_bytes_8 a (omega arith))
    ∙ ap (from_be_bytes w64) same
    ∙ from_be_bytes-to_be_bytes_8 b (omega arith)

two_octets : (a b : ℕ)
    → a < 2 ^ 16
    → b < 2 ^ 16
    → bytes_high_first 2 a ≡ bytes_high_first 2 b
    → a ≡ b
two_octets a b low_a low_b e =
    sym (from_be_bytes-to_be_bytes_2 a low_a)
    ∙ ap (from_be_bytes w16) e
    ∙ from_be_bytes-to_be_bytes_2 b low_b

-- equal tags have equal numbers
pub tag_octets_tell : (entries lapsed others other_lapsed : ℕ)
    → entries < 2 ^ 48
    → others < 2 ^ 48
    → lapsed < 2 ^ 16
    → other_lapsed < 2 ^ 16
    → tag_octets entries lapsed ≡ tag_octets others other_lapsed
    → (entries ≡ others) × (lapsed ≡ other_lapsed)
tag_octets_tell entries lapsed others other_lapsed a b c d e = (
  six_octets entries others a b (ap (take 6) e),
  two_octets lapsed other_lapsed c d (ap (drop 6) e),
)
