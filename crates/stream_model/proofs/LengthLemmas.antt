-- The lengths of a message, as they are spelled and as they are read (RFC 8323 section 3.2).
use Rattle.std.proofs.Common.{
  ◌≡◌,
  ℕ,
  ◌+◌,
  ◌-◌,
  ◌*◌,
  ◌/◌,
  ◌%◌,
  ◌<◌,
  ◌^◌,
  ◌==◌,
  lit<,
  Bool,
  true,
  false,
  cond,
  nat_lt,
  List,
  [],
  ◌∷◌,
  length,
  refl,
  sym,
  ap,
  arith,
}
use Rattle.std.proofs.lemmas.Bool.{ltb-true, ltb-false, lt-ltb, le-ltb}
use Rattle.message_model.specs.Numbers.{AreBytes}
use Rattle.stream_model.specs.Messages.{nibble_of, extension_of, four_octets}
use Rattle.stream_model.specs.Judging.{extension_size, length_said}

-- ---- read as they are spelled

four_read : (x : ℕ)
    → ((x / 16777216 * 256 + x / 65536 % 256) * 256 + x / 256 % 256) * 256 + x % 256 ≡ x
four_read x =
    let highest : x / 16777216 * 256 + x / 65536 % 256 ≡ x / 65536 = omega arith in
    let higher : x / 65536 * 256 + x / 256 % 256 ≡ x / 256 = omega arith in
    rw (highest, higher) (omega arith)

-- The length of a tail, as it is read again.
pub record IsReadAgain (n : ℕ) : Type 0 where
  pub few : nibble_of n < 16
  pub size : extension_size (nibble_of n) ≡ length (extension_of n)
  pub said : length_said (nibble_of n) (extension_of n) ≡ n

pub read_again : (n : ℕ) → IsReadAgain n
unfolding nibble_of extension_of extension_size length_said
read_again n = by (nat_lt n 13) (nat_lt n 269) (nat_lt n 65805) refl refl refl
  where
    by : (p q r : Bool)
        → nat_lt n 13 ≡ p
        → nat_lt n 269 ≡ q
        → nat_lt n 65805 ≡ r
        → IsReadAgain n
    by true q r ep eq er = record {
      few = rw ep (omega (arith, ltb-true n 13 ep));
      size = rw (ep, ep) refl;
      said = rw ep refl;
    }
    by false true r ep eq er = record {
      few = rw (ep, eq) (lit< tt);
      size = rw (ep, eq) refl;
      said = rw (ep, eq) (omega (arith, ltb-false n 13 ep));
    }
    by false false true ep eq er = record {
      few = rw (ep, eq, er) (lit< tt);
      size = rw (ep, eq, er) refl;
      said = rw (ep, eq, er) (omega (arith, ltb-false n 269 eq));
    }
    by false false false ep eq er = record {
      few = rw (ep, eq, er) (lit< tt);
      size = rw (ep, eq, er) refl;
      said = rw (ep, eq, er)
          (let read = four_read (n - 65805) in omega (arith, read, ltb-false n 65805 er));
    }

-- Both nibbles of the first octet.
pub high : (n t : ℕ) → t < 16 → (n * 16 + t) / 16 ≡ n
high n t few = omega (arith, few)

pub low : (n t : ℕ) → t < 16 → (n * 16 + t) % 16 ≡ t
low n t few = omega (arith, few)

pub joined : (b : ℕ) → b / 16 * 16 + b % 16 ≡ b
joined b = omega arith

-- ---- spelled as they are read

-- What a nibble and the octets that extend it say, as it is spelled again.
pub record IsSpelledAgain (nibble : ℕ) (extension : List ℕ) : Type 0 where
  pub nibble_is : nibble_of (length_said nibble extension) ≡ nibble
  pub extension_is : extension_of (length_said nibble extension) ≡ extension
  pub most : length_said nibble extension < 65805 + 2 ^ 32

four_places : (a b c d : ℕ) → b < 256 → c < 256 → d < 256
    → four_octets (((a * 256 + b) * 256 + c) * 256 + d) ≡ a ∷ b ∷ c ∷ d ∷ []
four_places a b c d hb hc hd =
    let x = ((a * 256 + b) * 256 + c) * 256 + d in
    let last : x / 256 ≡ (a * 256 + b) * 256 + c = omega (arith, hd) in
    let low_place : x % 256 ≡ d = omega (arith, hd) in
    let third : x / 256 % 256 ≡ c = rw last (omega (arith, hc)) in
    let second : x / 65536 % 256 ≡ b = omega (arith, hb, hc, hd) in
    let first : x / 16777216 ≡ a = omega (arith, hb, hc, hd) in
    rw (first, second, third, low_place) refl

pub spelled_again : (nibble : ℕ) (extension : List ℕ)
    → nibble < 16
    → length extension ≡ extension_size nibble
    → AreBytes extension
    → IsSpelledAgain nibble extension
unfolding nibble_of extension_of extension_size length_said
spelled_again nibble extension few size bytes =
    by (nat_lt nibble 13) (nibble == 13) (nibble == 14) refl refl refl extension size bytes
  where
    by : (p q r : Bool)
        → nat_lt nibble 13 ≡ p
        → (nibble == 13) ≡ q
        → (nibble == 14) ≡ r
        → (e : List ℕ)
        → length e ≡ cond p 0 (cond q 1 (cond r 2 4))
        → AreBytes e
        → IsSpelledAgain nibble e
    by true q r ep eq er [] size bytes = record {
      nibble_is = rw ep refl;
      extension_is = rw ep refl;
      most = omega (arith, few);
    }
    by true q r ep eq er (a ∷ e) size bytes = absurd (omega (arith, size))
    by false true r ep eq er [] size bytes = absurd (omega (arith, size))
    by false true r ep eq er (a ∷ []) size bytes =
        let is : nibble ≡ 13 = grind (arith, eq) in
        let low_end = le-ltb (13 + a) 13 (omega arith) in
        let high_end = lt-ltb (13 + a) 269 (omega (arith, bytes.0)) in
        record {
          nibble_is = rw (low_end, high_end) (sym is);
          extension_is = rw (low_end, high_end) (ap (λ n. n ∷ []) (omega arith));
          most = omega (arith, bytes.0);
        }
    by false true r ep eq er (a ∷ b ∷ e) size bytes = absurd (omega (arith, size))
    by false false true ep eq er [] size bytes = absurd (omega (arith, size))
    by false false true ep eq er (a ∷ []) size bytes = absurd (omega (arith, size))
    by false false true ep eq er (a ∷ b ∷ []) size bytes =
        let is : nibble ≡ 14 = grind (arith, er) in
        let n = 269 + (a * 256 + b) in
        let low_end = le-ltb n 13 (omega arith) in
        let middle = le-ltb n 269 (omega arith) in
        let high_end = lt-ltb n 65805 (omega (arith, bytes.0, bytes.1.0)) in
        let first : (n - 269) / 256 ≡ a = omega (arith, bytes.1.0) in
        let second : (n - 269) % 256 ≡ b = omega (arith, bytes.1.0) in
        record {
          nibble_is = rw (low_end, middle, high_end) (sym is);
          extension_is = rw (low_end, middle, high_end, first, second) refl;
          most = omega (arith, bytes.0, bytes.1.0);
        }
    by false false true ep eq er (a ∷ b ∷ c ∷ e) size bytes = absurd (omega (arith, size))
    by false false false ep eq er [] size bytes = absurd (omega (arith, size))
    by false false false ep eq er (a ∷ []) size bytes = absurd (omega (arith, size))
    by false false false ep eq er (a ∷ b ∷ []) size bytes = absurd (omega (arith, size))
    by false false false ep eq er (a ∷ b ∷ c ∷ []) size bytes = absurd (omega (arith, size))
    by false false false ep eq er (a ∷ b ∷ c ∷ d ∷ []) size bytes =
        let is : nibble ≡ 15 = grind (arith, few, ep, eq, er) in
        let x = ((a * 256 + b) * 256 + c) * 256 + d in
        let low_end = le-ltb (65805 + x) 13 (omega arith) in
        let middle = le-ltb (65805 + x) 269 (omega arith) in
        let high_end = le-ltb (65805 + x) 65805 (omega arith) in
        let same : 65805 + x - 65805 ≡ x = omega arith in
        record {
          nibble_is = rw (low_end, middle, high_end) (sym is);
          extension_is =
              rw (low_end, middle, high_end, same)
              (four_places a b c d bytes.1.0 bytes.1.1.0 bytes.1.1.1.0);
          most = omega (arith, bytes.0, bytes.1.0, bytes.1.1.0, bytes.1.1.1.0);
        }
    by false false false ep eq er (a ∷ b ∷ c ∷ d ∷ g ∷ e) size bytes =
        absurd (omega (arith, size))
