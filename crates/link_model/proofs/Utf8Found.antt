-- Octets that are read one by one as RFC 3629 section 4 says are text in UTF-8.
use Rattle.std.proofs.Common.{
  ◌≡◌,
  ℕ,
  zero,
  suc,
  ◌+◌,
  ◌-◌,
  ◌*◌,
  ◌/◌,
  ◌%◌,
  ◌<◌,
  ◌≤◌,
  true,
  false,
  ◌&&◌,
  List,
  [],
  ◌∷◌,
  ◌++◌,
  length,
  Some,
  None,
  refl,
  ap,
  ◌∙◌,
  ◌⊎◌,
  inl,
  inr,
  ⊎_elim,
  IsUtf8,
  arith,
}
use Rattle.std.specs.Int.{is_in_range}
use Rattle.std.specs.Char.{IsScalar, encode_utf8}
use Rattle.std.specs.Str.{all_scalars, encode_utf8_all}
use Rattle.std.proofs.lemmas.Bool.{and_parts, and_from, false≢true, cases_lt, cases_eq, cases_order}
use Rattle.std.proofs.lemmas.Bool.Decides.{nat_tests}
use Rattle.link_model.specs.Utf8Prefix.{tail, tails_of}
use Rattle.link_model.proofs.Utf8Reading.{
  is_utf8_after,
  one_octet,
  two_octets,
  three_octets,
  four_octets,
  lead_E0,
  lead_ED,
  lead_F0,
  lead_F4,
  encode_one,
  encode_two,
  encode_three,
  encode_four,
  scalar_of,
}

from_within : (lo hi b : ℕ) → is_in_range lo hi b ≡ true → (lo ≤ b) × (b ≤ hi)
from_within lo hi b h = grind (arith, nat_tests)

no_lead : (b : ℕ) → (128 ≤ b) × (b < 0xC2) ⊎ (0xF5 ≤ b) → tails_of b ≡ None
unfolding tails_of
no_lead b h = grind (arith, nat_tests)

-- a character in front of text
IsUtf8-character : (x : ℕ) (octets rest : List ℕ)
    → IsScalar x
    → encode_utf8 x ≡ octets
    → IsUtf8 rest
    → IsUtf8 (octets ++ rest)
IsUtf8-character x octets rest is e u = (
  x
      ∷ u.0,
  (
    and_from _ (all_scalars (u.0)) is (u.1.0),
    ap
        (λ (o : List ℕ). o ++ encode_utf8_all (u.0)) e
        ∙ ap (λ (t : List ℕ). octets ++ t) (u.1.1),
  ),
)

same_two : (b c x y : ℕ) → b ≡ x → c ≡ y → b ∷ c ∷ [] ≡ x ∷ y ∷ []
same_two b c x y e f = cc

same_three : (b c d x y z : ℕ) → b ≡ x → c ≡ y → d ≡ z → b ∷ c ∷ d ∷ [] ≡ x ∷ y ∷ z ∷ []
same_three b c d x y z e f g = cc

same_four : (b c d f x y z w : ℕ)
    → b ≡ x
    → c ≡ y
    → d ≡ z
    → f ≡ w
    → b ∷ c ∷ d ∷ f ∷ [] ≡ x ∷ y ∷ z ∷ w ∷ []
same_four b c d f x y z w e g h i = cc

octets_two : (b c : ℕ) (rest : List ℕ)
    → 0xC2 ≤ b
    → b ≤ 0xDF
    → 0x80 ≤ c
    → c ≤ 0xBF
    → IsUtf8 rest
    → IsUtf8 (b ∷ c ∷ rest)
octets_two b c rest l h m k u =
    let x : ℕ = (b - 192) * 64 + (c - 128) in
    let low : 128 ≤ x = omega arith in
    let high : x < 2048 = omega arith in
    let first : 192 + x / 64 ≡ b = omega arith in
    let second : 128 + x % 64 ≡ c = omega arith in
    IsUtf8-character x (b ∷ c ∷ []) rest (scalar_of x (inl (omega arith)))
    (encode_two x low high ∙ same_two (192 + x / 64) (128 + x % 64) b c first second) u

octets_three : (b c d : ℕ) (rest : List ℕ)
    → 0xE0 ≤ b
    → b ≤ 0xEF
    → 0x80 ≤ c
    → c ≤ 0xBF
    → 0x80 ≤ d
    → d ≤ 0xBF
    → (b ≡ 0xE0 → 0xA0 ≤ c)
    → (b ≡ 0xED → c ≤ 0x9F)
    → IsUtf8 rest
    → IsUtf8 (b ∷ c ∷ d ∷ rest)
octets_three b c d rest l h m k p q first_low surrogate u =
    let x : ℕ = (b - 224) * 4096 + (c - 128) * 64 + (d - 128) in
    let low : 2048 ≤ x =
    ⊎_elim (λ (e : b ≡ 0xE0). let a : 0xA0 ≤ c = first_low e in omega arith)
    (λ (n : b ≡ 0xE0 → ⊥). let a : 0xE1 ≤ b = omega arith in omega arith)
    (cases_eq b 0xE0) in
    let high : x < 65536 = omega arith in
    let scalar : (x < 0xD800) ⊎ ((0xE000 ≤ x) × (x < 0x11_0000)) =
    ⊎_elim (λ (e : b ≡ 0xED). let a : c ≤ 0x9F = surrogate e in inl (omega arith))
    (λ (o : (b < 0xED) ⊎ (0xED < b)).
    ⊎_elim (λ (y : b < 0xED). inl (omega arith))
    (λ (y : 0xED < b). inr (omega arith, omega arith)) o) (cases_order b 0xED) in
    let first : 224 + x / 4096 ≡ b = omega arith in
    let second : 128 + (x / 64) % 64 ≡ c = omega arith in
    let third : 128 + x % 64 ≡ d = omega arith in
    IsUtf8-character x (b ∷ c ∷ d ∷ []) rest (scalar_of x scalar)
    (encode_three x low high
    ∙ same_three (224 + x / 4096) (128 + (x / 64) % 64) (128 + x % 64) b c d first second
    third) u

octets_four : (b c d f : ℕ) (rest : List ℕ)
    → 0xF0 ≤ b
    → b ≤ 0xF4
    → 0x80 ≤ c
    → c ≤ 0xBF
    → 0x80 ≤ d
    → d ≤ 0xBF
    → 0x80 ≤ f
    → f ≤ 0xBF
    → (b ≡ 0xF0 → 0x90 ≤ c)
    → (b ≡ 0xF4 → c ≤ 0x8F)
    → IsUtf8 rest
    → IsUtf8 (b ∷ c ∷ d ∷ f ∷ rest)
octets_four b c d f rest l h m k p q r s first_low last_high u =
    let x : ℕ = (b - 240) * 262144 + (c - 128) * 4096 + (d - 128) * 64 + (f - 128) in
    let low : 65536 ≤ x =
    ⊎_elim (λ (e : b ≡ 0xF0). let a : 0x90 ≤ c = first_low e in omega arith)
    (λ (n : b ≡ 0xF0 → ⊥). let a : 0xF1 ≤ b = omega arith in omega arith)
    (cases_eq b 0xF0) in
    let high : x < 0x11_0000 =
    ⊎_elim (λ (e : b ≡ 0xF4). let a : c ≤ 0x8F = last_high e in omega arith)
    (λ (n : b ≡ 0xF4 → ⊥). let a : b ≤ 0xF3 = omega arith in omega arith)
    (cases_eq b 0xF4) in
    let first : 240 + x / 262144 ≡ b = omega arith in
    let second : 128 + (x / 4096) % 64 ≡ c = omega arith in
    let third : 128 + (x / 64) % 64 ≡ d = omega arith in
    let fourth : 128 + x % 64 ≡ f = omega arith in
    IsUtf8-character x (b ∷ c ∷ d ∷ f ∷ []) rest (scalar_of x (inr (omega arith, high)))
    (encode_four x low
    ∙ same_four (240 + x / 262144) (128 + (x / 4096) % 64) (128 + (x / 64) % 64) (128 + x % 64) b c
    d f first second third fourth) u

-- ---- text after a first octet

-- what is shorter and is read is text
abbrev Shorter : ℕ → Type 0
Shorter n = (rest : List ℕ) → length rest ≤ n → is_utf8_after [] rest ≡ true → IsUtf8 rest

after_two : (n b : ℕ)
    → 0xC2 ≤ b
    → b ≤ 0xDF
    → Shorter n
    → (bs : List ℕ)
    → length bs ≤ n
    → is_utf8_after (tail ∷ []) bs ≡ true
    → IsUtf8 (b ∷ bs)
after_two n b l h shorter [] k e = absurd (false≢true e)
after_two n b l h shorter (c ∷ rest) k e =
    let parts = and_parts (is_in_range 0x80 0xBF c) (is_utf8_after [] rest) e in
    let range = from_within 0x80 0xBF c (parts.0) in
    octets_two b c rest l h (range.0) (range.1) (shorter rest (omega arith) (parts.1))

after_three : (n b lo hi : ℕ)
    → 0xE0 ≤ b
    → b ≤ 0xEF
    → 0x80 ≤ lo
    → hi ≤ 0xBF
    → (b ≡ 0xE0 → 0xA0 ≤ lo)
    → (b ≡ 0xED → hi ≤ 0x9F)
    → Shorter n
    → (bs : List ℕ)
    → length bs ≤ n
    → is_utf8_after ((lo, hi) ∷ tail ∷ []) bs ≡ true
    → IsUtf8 (b ∷ bs)
after_three n b lo hi l h p q r s shorter [] k e = absurd (false≢true e)
after_three n b lo hi l h p q r s shorter (c ∷ []) k e =
    absurd (false≢true ((and_parts (is_in_range lo hi c) false e).1))
after_three n b lo hi l h p q r s shorter (c ∷ d ∷ rest) k e =
    let first =
    and_parts (is_in_range lo hi c) (is_in_range 0x80 0xBF d && is_utf8_after [] rest) e in
    let second = and_parts (is_in_range 0x80 0xBF d) (is_utf8_after [] rest) (first.1) in
    let one = from_within lo hi c (first.0) in
    let two = from_within 0x80 0xBF d (second.0) in
    octets_three b c d rest l h (omega arith) (omega arith) (two.0) (two.1)
    (λ x. let a : 0xA0 ≤ lo = r x in omega arith) (λ x. let a : hi ≤ 0x9F = s x in omega arith)
    (shorter rest (omega arith) (second.1))

after_four : (n b lo hi : ℕ)
    → 0xF0 ≤ b
    → b ≤ 0xF4
    → 0x80 ≤ lo
    → hi ≤ 0xBF
    → (b ≡ 0xF0 → 0x90 ≤ lo)
    → (b ≡ 0xF4 → hi ≤ 0x8F)
    → Shorter n
    → (bs : List ℕ)
    → length bs ≤ n
    → is_utf8_after ((lo, hi) ∷ tail ∷ tail ∷ []) bs ≡ true
    → IsUtf8 (b ∷ bs)
after_four n b lo hi l h p q r s shorter [] k e = absurd (false≢true e)
after_four n b lo hi l h p q r s shorter (c ∷ []) k e =
    absurd (false≢true ((and_parts (is_in_range lo hi c) false e).1))
after_four n b lo hi l h p q r s shorter (c ∷ d ∷ []) k e =
    absurd (false≢true ((and_parts (is_in_range 0x80 0xBF d) false
    ((and_parts (is_in_range lo hi c) (is_in_range 0x80 0xBF d && false) e).1)).1))
after_four n b lo hi l h p q r s shorter (c ∷ d ∷ f ∷ rest) k e =
    let first =
    and_parts (is_in_range lo hi c)
    (is_in_range 0x80 0xBF d && (is_in_range 0x80 0xBF f && is_utf8_after [] rest)) e in
    let second =
    and_parts (is_in_range 0x80 0xBF d) (is_in_range 0x80 0xBF f && is_utf8_after [] rest)
    (first.1) in
    let third = and_parts (is_in_range 0x80 0xBF f) (is_utf8_after [] rest) (second.1) in
    let one = from_within lo hi c (first.0) in
    let two = from_within 0x80 0xBF d (second.0) in
    let three = from_within 0x80 0xBF f (third.0) in
    octets_four b c d f rest l h (omega arith) (omega arith) (two.0) (two.1) (three.0) (three.1)
    (λ x. let a : 0x90 ≤ lo = r x in omega arith) (λ x. let a : hi ≤ 0x8F = s x in omega arith)
    (shorter rest (omega arith) (third.1))

after_first : (n b : ℕ) (bs : List ℕ)
    → Shorter n
    → length bs ≤ n
    → is_utf8_after [] (b ∷ bs) ≡ true
    → IsUtf8 (b ∷ bs)
after_first n b bs shorter k e =
    by_range (cases_lt b 128) (cases_lt b 0xC2) (cases_lt b 0xE0) (cases_lt b 0xF0)
    (cases_lt b 0xF5)
  where
    three : 0xE0 ≤ b
        → b < 0xF0
        → (b ≡ 0xE0) ⊎ (b ≡ 0xE0 → ⊥)
        → (b ≡ 0xED) ⊎ (b ≡ 0xED → ⊥)
        → IsUtf8 (b ∷ bs)
    three l h (inl x) y =
        let t : tails_of b ≡ Some ((0xA0, 0xBF) ∷ tail ∷ []) = ap tails_of x ∙ lead_E0 in
        after_three n b 0xA0 0xBF l (omega arith) (omega arith) (omega arith) (λ _. omega arith)
        (λ z. absurd (omega arith)) shorter bs k (rw t at e)
    three l h (inr x) (inl y) =
        let t : tails_of b ≡ Some ((0x80, 0x9F) ∷ tail ∷ []) = ap tails_of y ∙ lead_ED in
        after_three n b 0x80 0x9F l (omega arith) (omega arith) (omega arith) (λ z. absurd (x z))
        (λ _. omega arith) shorter bs k (rw t at e)
    three l h (inr x) (inr y) =
        let t : tails_of b ≡ Some (tail ∷ tail ∷ []) =
        three_octets b (omega arith) (omega arith) y in
        after_three n b 0x80 0xBF l (omega arith) (omega arith) (omega arith) (λ z. absurd (x z))
        (λ z. absurd (y z)) shorter bs k (rw t at e)

    four : 0xF0 ≤ b
        → b < 0xF5
        → (b ≡ 0xF0) ⊎ (b ≡ 0xF0 → ⊥)
        → (b ≡ 0xF4) ⊎ (b ≡ 0xF4 → ⊥)
        → IsUtf8 (b ∷ bs)
    four l h (inl x) y =
        let t : tails_of b ≡ Some ((0x90, 0xBF) ∷ tail ∷ tail ∷ []) = ap tails_of x ∙ lead_F0 in
        after_four n b 0x90 0xBF l (omega arith) (omega arith) (omega arith) (λ _. omega arith)
        (λ z. absurd (omega arith)) shorter bs k (rw t at e)
    four l h (inr x) (inl y) =
        let t : tails_of b ≡ Some ((0x80, 0x8F) ∷ tail ∷ tail ∷ []) = ap tails_of y ∙ lead_F4 in
        after_four n b 0x80 0x8F l (omega arith) (omega arith) (omega arith) (λ z. absurd (x z))
        (λ _. omega arith) shorter bs k (rw t at e)
    four l h (inr x) (inr y) =
        let t : tails_of b ≡ Some (tail ∷ tail ∷ tail ∷ []) =
        four_octets b (omega arith) (omega arith) in
        after_four n b 0x80 0xBF l (omega arith) (omega arith) (omega arith) (λ z. absurd (x z))
        (λ z. absurd (y z)) shorter bs k (rw t at e)

    by_range : (b < 128) ⊎ (128 ≤ b)
        → (b < 0xC2) ⊎ (0xC2 ≤ b)
        → (b < 0xE0) ⊎ (0xE0 ≤ b)
        → (b < 0xF0) ⊎ (0xF0 ≤ b)
        → (b < 0xF5) ⊎ (0xF5 ≤ b)
        → IsUtf8 (b ∷ bs)
    by_range (inl h) _ _ _ _ =
        let f : is_utf8_after [] bs ≡ true = rw (one_octet b h) at e in
        IsUtf8-character b (b ∷ []) bs (scalar_of b (inl (omega arith))) (encode_one b h)
        (shorter bs k f)
    by_range (inr l) (inl h) _ _ _ = absurd (false≢true (rw (no_lead b (inl (l, h))) at e))
    by_range _ (inr l) (inl h) _ _ =
        after_two n b l (omega arith) shorter bs k (rw (two_octets b l (omega arith)) at e)
    by_range _ _ (inr l) (inl h) _ = three l h (cases_eq b 0xE0) (cases_eq b 0xED)
    by_range _ _ _ (inr l) (inl h) = four l h (cases_eq b 0xF0) (cases_eq b 0xF4)
    by_range _ _ _ _ (inr l) = absurd (false≢true (rw (no_lead b (inr l)) at e))

is_utf8_within : (n : ℕ) → Shorter n
is_utf8_within zero [] k e = ([], (refl, refl))
is_utf8_within zero (b ∷ bs) k e = absurd (omega arith)
is_utf8_within (suc n) [] k e = ([], (refl, refl))
is_utf8_within (suc n) (b ∷ bs) k e = after_first n b bs (is_utf8_within n) (omega arith) e

-- octets that are read one by one are text
pub IsUtf8-is_utf8_after : (bytes : List ℕ) → is_utf8_after [] bytes ≡ true → IsUtf8 bytes
IsUtf8-is_utf8_after bytes e = is_utf8_within (length bytes) bytes (omega arith) e
