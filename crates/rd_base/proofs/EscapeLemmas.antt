-- Texts in quotes, character by character.
use Rattle.std.proofs.Common.{
  ◌≡◌,
  ℕ,
  ◌+◌,
  ◌/◌,
  ◌%◌,
  ◌<◌,
  ◌≤◌,
  Bool,
  true,
  false,
  ◌||◌,
  List,
  [],
  ◌∷◌,
  ◌++◌,
  length,
  flat_map,
  refl,
  sym,
  ap,
  ◌∙◌,
  ◌⊎◌,
  inl,
  inr,
  append_assoc,
  append-nil,
  arith,
  lt-ltb,
  le-ltb,
}
use Rattle.std.specs.Prelude.{◌==◌, nat_le}
use Rattle.std.specs.List.{list_all, list_any}
use Rattle.std.specs.Char.{encode_utf8}
use Rattle.std.proofs.lemmas.Bool.{and_parts, or_parts, cases_lt, cond-true, cond-false}
use Rattle.std.proofs.lemmas.Bool.Decides.{nat_tests}
use Rattle.std.proofs.lemmas.Grind.{flat_map-append}
use Rattle.rd_base.specs.LinkLines.{quote_mark, backslash, escaped_character}

-- an octet of a character past ASCII
abbrev pub is_high : ℕ → Bool
is_high b = nat_le 128 b

high : (b : ℕ) → 128 ≤ b → is_high b ≡ true
high b h = grind (arith, nat_tests)

encode_one : (c : ℕ) → c < 128 → encode_utf8 c ≡ c ∷ []
unfolding encode_utf8
encode_one c h = cond-true _ _ _ (lt-ltb c 128 h)

all_high : (c : ℕ) → 128 ≤ c → list_all is_high (encode_utf8 c) ≡ true
unfolding encode_utf8
all_high c l = by_size (cases_lt c 2048) (cases_lt c 65536)
  where
    two : c < 2048 → encode_utf8 c ≡ (192 + c / 64) ∷ (128 + c % 64) ∷ []
    two h = cond-false _ _ _ (le-ltb c 128 l) ∙ cond-true _ _ _ (lt-ltb c 2048 h)

    three : 2048 ≤ c
        → c < 65536
        → encode_utf8 c ≡ (224 + c / 4096) ∷ (128 + (c / 64) % 64) ∷ (128 + c % 64) ∷ []
    three g h =
        cond-false _ _ _ (le-ltb c 128 l)
        ∙ cond-false _ _ _ (le-ltb c 2048 g)
        ∙ cond-true _ _ _ (lt-ltb c 65536 h)

    four : 65536 ≤ c
        → encode_utf8 c
        ≡ (240 + c / 262144)
        ∷ (128 + (c / 4096) % 64)
        ∷ (128 + (c / 64) % 64)
        ∷ (128 + c % 64)
        ∷ []
    four g =
        cond-false _ _ _ (le-ltb c 128 l)
        ∙ cond-false _ _ _ (le-ltb c 2048 (omega arith))
        ∙ cond-false _ _ _ (le-ltb c 65536 g)

    by_size : (c < 2048) ⊎ (2048 ≤ c)
        → (c < 65536) ⊎ (65536 ≤ c)
        → list_all is_high (encode_utf8 c) ≡ true
    by_size (inl h) _ =
        ap (list_all is_high) (two h)
        ∙ rw (high (192 + c / 64) (omega arith), high (128 + c % 64) (omega arith)) refl
    by_size (inr g) (inl h) =
        ap (list_all is_high) (three g h)
        ∙ rw (
          high (224 + c / 4096) (omega arith),
          high (128 + (c / 64) % 64) (omega arith),
          high
              (128 + c % 64) (omega arith),
        ) refl
    by_size _ (inr g) =
        ap (list_all is_high) (four g)
        ∙ rw (
          high (240 + c / 262144) (omega arith),
          high (128 + (c / 4096) % 64) (omega arith),
          high
              (128 + (c / 64) % 64) (omega arith),
          high (128 + c % 64) (omega arith),
        ) refl

no_quote : (b : ℕ) → is_high b ≡ true → (b == quote_mark) ≡ false
no_quote b h = grind (arith, nat_tests)

no_backslash : (b : ℕ) → is_high b ≡ true → (b == backslash) ≡ false
no_backslash b h = grind (arith, nat_tests)

spelled_high : (xs : List ℕ) → list_all is_high xs ≡ true → flat_map escaped_character xs ≡ xs
spelled_high [] h = refl
spelled_high (b ∷ xs) h =
    let parts = and_parts (is_high b) (list_all is_high xs) h in
    rw (no_quote b parts.0, no_backslash b parts.0)
    (ap (λ (t : List ℕ). b ∷ t) (spelled_high xs parts.1))

different : (c d : ℕ) → (c ≡ d → ⊥) → (c == d) ≡ false
different c d h = grind (arith, nat_tests)

-- a character that is no quote and no backslash
pub spelled_plain : (c : ℕ)
    → (c ≡ quote_mark → ⊥)
    → (c ≡ backslash → ⊥)
    → flat_map escaped_character (encode_utf8 c) ≡ encode_utf8 c
spelled_plain c q b = by_size (cases_lt c 128)
  where
    by_size : (c < 128) ⊎ (128 ≤ c) → flat_map escaped_character (encode_utf8 c) ≡ encode_utf8 c
    by_size (inl h) =
        rw (encode_one c h) (rw (different c quote_mark q, different c backslash b) refl)
    by_size (inr h) = spelled_high (encode_utf8 c) (all_high c h)

-- a text with neither of both stands in quotes as it is
pub nothing_escaped : (text : List ℕ)
    → list_any (λ c. c == quote_mark || c == backslash) text ≡ false
    → flat_map escaped_character text ≡ text
nothing_escaped [] h = refl
nothing_escaped (c ∷ cs) h =
    let parts =
    or_parts (c == quote_mark || c == backslash)
    (list_any (λ d. d == quote_mark || d == backslash) cs) h in
    rw parts.0 (ap (λ (t : List ℕ). c ∷ t) (nothing_escaped cs parts.1))

pub nothing_left : (rest : List ℕ) → length rest ≡ 0 → rest ≡ []
nothing_left [] e = refl
nothing_left (b ∷ bs) e = absurd (omega arith)

-- a character more of a text in quotes
pub more_escaped : (text now whole rest after : List ℕ) (c : ℕ)
    → text ++ flat_map escaped_character rest ≡ whole
    → rest ≡ encode_utf8 c ++ after
    → now ≡ text ++ flat_map escaped_character (encode_utf8 c)
    → now ++ flat_map escaped_character after ≡ whole
more_escaped text now whole rest after c w r n =
    ap (λ (t : List ℕ). t ++ flat_map escaped_character after) n ∙ append_assoc text _ _
    ∙ ap (λ (t : List ℕ). text ++ t) (sym (flat_map-append escaped_character (encode_utf8 c) after)
    ∙ ap (flat_map escaped_character) (sym r))
    ∙ w

pub all_escaped : (text before more rest : List ℕ)
    → text ++ flat_map escaped_character rest ≡ before ++ flat_map escaped_character more
    → length rest ≡ 0
    → text ≡ before ++ flat_map escaped_character more
all_escaped text before more [] w e = sym (append-nil text) ∙ w
all_escaped text before more (b ∷ bs) w e = absurd (omega arith)
