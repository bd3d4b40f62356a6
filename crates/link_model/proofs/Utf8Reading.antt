-- Which octets are text in UTF-8, octet by octet, as RFC 3629 section 4 says it.
use Rattle.std.proofs.Common.{
  ◌≡◌,
  ℕ,
  ◌+◌,
  ◌/◌,
  ◌%◌,
  ◌<◌,
  ◌≤◌,
  Bool,
  true,
  false,
  ◌&&◌,
  List,
  [],
  ◌∷◌,
  ◌++◌,
  Option,
  Some,
  None,
  refl,
  ap,
  ◌∙◌,
  subst,
  ◌⊎◌,
  inl,
  inr,
  ⊎_elim,
  IsUtf8,
  arith,
  lt-ltb,
  le-ltb,
}
use Rattle.std.specs.Int.{is_in_range}
use Rattle.std.specs.Char.{IsScalar, encode_utf8}
use Rattle.std.specs.Str.{all_scalars, encode_utf8_all}
use Rattle.std.proofs.lemmas.Bool.{and_parts, cond-true, cond-false, cases_lt, cases_eq}
use Rattle.std.proofs.lemmas.Bool.Decides.{nat_tests}
use Rattle.link_model.specs.Utf8Prefix.{OctetRange, tail, tails_of}

-- what the test says of the value, and false where there is none
abbrev pub passes : {A : Type 0} → (A → Bool) → Option A → Bool
passes test None = false
passes test (Some x) = test x

-- the octets are such that must come first, and then text
abbrev pub is_utf8_after : List OctetRange → List ℕ → Bool
is_utf8_after [] [] = true
is_utf8_after (r ∷ ranges) [] = false
is_utf8_after [] (b ∷ bs) = passes (λ ranges. is_utf8_after ranges bs) (tails_of b)
is_utf8_after (r ∷ ranges) (b ∷ bs) = is_in_range (r.0) (r.1) b && is_utf8_after ranges bs

pub one_octet : (c : ℕ) → c < 128 → tails_of c ≡ Some []
unfolding tails_of
one_octet c h = grind (arith, nat_tests)

pub two_octets : (b : ℕ) → 0xC2 ≤ b → b ≤ 0xDF → tails_of b ≡ Some (tail ∷ [])
unfolding tails_of
two_octets b l h = grind (arith, nat_tests)

pub three_octets : (b : ℕ)
    → 0xE1 ≤ b
    → b ≤ 0xEF
    → (b ≡ 0xED → ⊥)
    → tails_of b ≡ Some (tail ∷ tail ∷ [])
unfolding tails_of
three_octets b l h n = grind (arith, nat_tests)

pub four_octets : (b : ℕ) → 0xF1 ≤ b → b ≤ 0xF3 → tails_of b ≡ Some (tail ∷ tail ∷ tail ∷ [])
unfolding tails_of
four_octets b l h = grind (arith, nat_tests)

pub lead_E0 : tails_of 0xE0 ≡ Some ((0xA0, 0xBF) ∷ tail ∷ [])
unfolding tails_of
lead_E0 = refl

pub lead_ED : tails_of 0xED ≡ Some ((0x80, 0x9F) ∷ tail ∷ [])
unfolding tails_of
lead_ED = refl

pub lead_F0 : tails_of 0xF0 ≡ Some ((0x90, 0xBF) ∷ tail ∷ tail ∷ [])
unfolding tails_of
lead_F0 = refl

pub lead_F4 : tails_of 0xF4 ≡ Some ((0x80, 0x8F) ∷ tail ∷ tail ∷ [])
unfolding tails_of
lead_F4 = refl

within : (lo hi b : ℕ) → lo ≤ b → b ≤ hi → is_in_range lo hi b ≡ true
within lo hi b l h = grind (arith, nat_tests)

read_two : (b c : ℕ) (r : OctetRange) (rest : List ℕ)
    → tails_of b ≡ Some (r ∷ [])
    → is_in_range (r.0) (r.1) c ≡ true
    → is_utf8_after [] (b ∷ c ∷ rest) ≡ is_utf8_after [] rest
read_two b c r rest e f = rw (e, f) refl

read_three : (b c d : ℕ) (r s : OctetRange) (rest : List ℕ)
    → tails_of b ≡ Some (r ∷ s ∷ [])
    → is_in_range (r.0) (r.1) c ≡ true
    → is_in_range (s.0) (s.1) d ≡ true
    → is_utf8_after [] (b ∷ c ∷ d ∷ rest) ≡ is_utf8_after [] rest
read_three b c d r s rest e f g = rw (e, f, g) refl

read_four : (b c d x : ℕ) (r s t : OctetRange) (rest : List ℕ)
    → tails_of b ≡ Some (r ∷ s ∷ t ∷ [])
    → is_in_range (r.0) (r.1) c ≡ true
    → is_in_range (s.0) (s.1) d ≡ true
    → is_in_range (t.0) (t.1) x ≡ true
    → is_utf8_after [] (b ∷ c ∷ d ∷ x ∷ rest) ≡ is_utf8_after [] rest
read_four b c d x r s t rest e f g h = rw (e, f, g, h) refl

-- ---- the octets of a character

pub encode_one : (c : ℕ) → c < 128 → encode_utf8 c ≡ c ∷ []
unfolding encode_utf8
encode_one c h = cond-true _ _ _ (lt-ltb c 128 h)

pub encode_two : (c : ℕ) → 128 ≤ c → c < 2048 → encode_utf8 c ≡ (192 + c / 64) ∷ (128 + c % 64) ∷ []
unfolding encode_utf8
encode_two c l h = cond-false _ _ _ (le-ltb c 128 l) ∙ cond-true _ _ _ (lt-ltb c 2048 h)

pub encode_three : (c : ℕ)
    → 2048 ≤ c
    → c < 65536
    → encode_utf8 c ≡ (224 + c / 4096) ∷ (128 + (c / 64) % 64) ∷ (128 + c % 64) ∷ []
unfolding encode_utf8
encode_three c l h =
    cond-false _ _ _ (le-ltb c 128 (omega arith))
    ∙ cond-false _ _ _ (le-ltb c 2048 l)
    ∙ cond-true _ _ _ (lt-ltb c 65536 h)

pub encode_four : (c : ℕ)
    → 65536 ≤ c
    → encode_utf8 c
    ≡ (240 + c / 262144) ∷ (128 + (c / 4096) % 64) ∷ (128 + (c / 64) % 64) ∷ (128 + c % 64) ∷ []
unfolding encode_utf8
encode_four c l =
    cond-false _ _ _ (le-ltb c 128 (omega arith))
    ∙ cond-false _ _ _ (le-ltb c 2048 (omega arith))
    ∙ cond-false _ _ _ (le-ltb c 65536 l)

pub scalar_of : (c : ℕ) → (c < 0xD800) ⊎ ((0xE000 ≤ c) × (c < 0x11_0000)) → IsScalar c
scalar_of c h = grind (arith, nat_tests)

of_scalar : (c : ℕ) → IsScalar c → (c < 0xD800) ⊎ ((0xE000 ≤ c) × (c < 0x11_0000))
of_scalar c h = grind (arith, nat_tests)

character_two : (c : ℕ) (rest : List ℕ)
    → 128 ≤ c
    → c < 2048
    → is_utf8_after [] (encode_utf8 c ++ rest) ≡ is_utf8_after [] rest
character_two c rest l h =
    rw (encode_two c l h) (read_two (192 + c / 64) (128 + c % 64) tail rest
    (two_octets (192 + c / 64) (omega arith) (omega arith))
    (within 0x80 0xBF (128 + c % 64) (omega arith) (omega arith)))

character_three : (c : ℕ) (rest : List ℕ)
    → 2048 ≤ c
    → c < 65536
    → (c < 0xD800) ⊎ (0xE000 ≤ c)
    → is_utf8_after [] (encode_utf8 c ++ rest) ≡ is_utf8_after [] rest
character_three c rest l h k =
    rw (encode_three c l h) (by_first (cases_lt c 4096) (cases_eq (c / 4096) 13))
  where
    last : is_in_range 0x80 0xBF (128 + c % 64) ≡ true
    last = within 0x80 0xBF (128 + c % 64) (omega arith) (omega arith)

    by_first : (c < 4096) ⊎ (4096 ≤ c)
        → (c / 4096 ≡ 13) ⊎ (c / 4096 ≡ 13 → ⊥)
        → is_utf8_after [] ((224 + c / 4096) ∷ (128 + (c / 64) % 64) ∷ (128 + c % 64) ∷ rest)
        ≡ is_utf8_after [] rest
    by_first (inl low) e =
        let first : 224 + c / 4096 ≡ 0xE0 = omega arith in
        read_three (224 + c / 4096) (128 + (c / 64) % 64) (128 + c % 64) (0xA0, 0xBF) tail rest
        (ap tails_of first ∙ lead_E0)
        (within 0xA0 0xBF (128 + (c / 64) % 64) (omega arith) (omega arith)) last
    by_first (inr high) (inl e) =
        let below : c < 0xD800 =
        ⊎_elim (λ (x : c < 0xD800). x) (λ (x : 0xE000 ≤ c). absurd (omega arith)) k in
        let first : 224 + c / 4096 ≡ 0xED = omega arith in
        read_three (224 + c / 4096) (128 + (c / 64) % 64) (128 + c % 64) (0x80, 0x9F) tail rest
        (ap tails_of first ∙ lead_ED)
        (within 0x80 0x9F (128 + (c / 64) % 64) (omega arith) (omega arith)) last
    by_first (inr high) (inr n) =
        read_three (224 + c / 4096) (128 + (c / 64) % 64) (128 + c % 64) tail tail rest
        (three_octets (224 + c / 4096) (omega arith) (omega arith) (λ x. n (omega arith)))
        (within 0x80 0xBF (128 + (c / 64) % 64) (omega arith) (omega arith)) last

character_four : (c : ℕ) (rest : List ℕ)
    → 65536 ≤ c
    → c < 0x11_0000
    → is_utf8_after [] (encode_utf8 c ++ rest) ≡ is_utf8_after [] rest
character_four c rest l h = rw (encode_four c l) (by_first (cases_lt c 262144) (cases_lt c 1048576))
  where
    third : is_in_range 0x80 0xBF (128 + (c / 64) % 64) ≡ true
    third = within 0x80 0xBF (128 + (c / 64) % 64) (omega arith) (omega arith)

    last : is_in_range 0x80 0xBF (128 + c % 64) ≡ true
    last = within 0x80 0xBF (128 + c % 64) (omega arith) (omega arith)

    by_first : (c < 262144) ⊎ (262144 ≤ c) → (c < 1048576) ⊎ (1048576 ≤ c)
        → is_utf8_after [] ((240 + c / 262144)
        ∷ (128 + (c / 4096) % 64)
        ∷ (128 + (c / 64) % 64)
        ∷ (128 + c % 64)
        ∷ rest)
        ≡ is_utf8_after [] rest
    by_first (inl low) e =
        let first : 240 + c / 262144 ≡ 0xF0 = omega arith in
        read_four (240 + c / 262144) (128 + (c / 4096) % 64) (128 + (c / 64) % 64) (128 + c % 64)
        (0x90, 0xBF) tail tail rest (ap tails_of first ∙ lead_F0)
        (within 0x90 0xBF (128 + (c / 4096) % 64) (omega arith) (omega arith)) third last
    by_first (inr high) (inl low) =
        read_four (240 + c / 262144) (128 + (c / 4096) % 64) (128 + (c / 64) % 64) (128 + c % 64)
        tail tail tail rest (four_octets (240 + c / 262144) (omega arith) (omega arith))
        (within 0x80 0xBF (128 + (c / 4096) % 64) (omega arith) (omega arith)) third last
    by_first (inr high) (inr most) =
        let first : 240 + c / 262144 ≡ 0xF4 = omega arith in
        read_four (240 + c / 262144) (128 + (c / 4096) % 64) (128 + (c / 64) % 64) (128 + c % 64)
        (0x80, 0x8F) tail tail rest (ap tails_of first ∙ lead_F4)
        (within 0x80 0x8F (128 + (c / 4096) % 64) (omega arith) (omega arith)) third last

-- a character in front leaves the text that follows
character_first : (c : ℕ) (rest : List ℕ)
    → IsScalar c
    → is_utf8_after [] (encode_utf8 c ++ rest) ≡ is_utf8_after [] rest
character_first c rest is = by_size (cases_lt c 128) (cases_lt c 2048) (cases_lt c 65536)
  where
    by_size : (c < 128) ⊎ (128 ≤ c)
        → (c < 2048) ⊎ (2048 ≤ c)
        → (c < 65536) ⊎ (65536 ≤ c)
        → is_utf8_after [] (encode_utf8 c ++ rest) ≡ is_utf8_after [] rest
    by_size (inl h) _ _ = rw (encode_one c h) (rw (one_octet c h) refl)
    by_size (inr l) (inl h) _ = character_two c rest l h
    by_size (inr _) (inr l) (inl h) =
        character_three c rest l h
        (⊎_elim (λ (x : c < 0xD800). inl x) (λ (x : (0xE000 ≤ c) × (c < 0x11_0000)). inr (x.0))
        (of_scalar c is))
    by_size (inr _) (inr _) (inr l) =
        character_four c rest l
        (⊎_elim (λ (x : c < 0xD800). omega arith) (λ (x : (0xE000 ≤ c) × (c < 0x11_0000)). x.1)
        (of_scalar c is))

encoded_text : (cs : List ℕ) → all_scalars cs ≡ true → is_utf8_after [] (encode_utf8_all cs) ≡ true
encoded_text [] h = refl
encoded_text (c ∷ cs) h =
    let parts = and_parts _ (all_scalars cs) h in
    character_first c (encode_utf8_all cs) (parts.0) ∙ encoded_text cs (parts.1)

-- text in UTF-8 is read octet by octet
pub is_utf8_after-IsUtf8 : (bytes : List ℕ) → IsUtf8 bytes → is_utf8_after [] bytes ≡ true
is_utf8_after-IsUtf8 bytes u =
    subst (λ (b : List ℕ). is_utf8_after [] b ≡ true) (u.1.1) (encoded_text (u.0) (u.1.0))
