-- Quoting and its undoing, character by character.
use Rattle.std.proofs.Common.{
  ◌≡◌,
  ℕ,
  ◌+◌,
  ◌/◌,
  ◌%◌,
  ◌<◌,
  ◌≤◌,
  Bool,
  true,
  false,
  ◌||◌,
  List,
  [],
  ◌∷◌,
  ◌++◌,
  length,
  flat_map,
  refl,
  sym,
  ap,
  ◌∙◌,
  ◌⊎◌,
  inl,
  inr,
  append_assoc,
  append-nil,
  arith,
}
use Rattle.std.specs.Prelude.{◌==◌, nat_le}
use Rattle.std.specs.List.{list_all, list_any}
use Rattle.std.specs.Char.{encode_utf8}
use Rattle.std.proofs.lemmas.Bool.{and_parts, false≢true, cases_lt, or_parts}
use Rattle.std.proofs.lemmas.Bool.Decides.{nat_tests}
use Rattle.link_model.specs.Characters.{quote_mark, backslash}
use Rattle.link_model.specs.Quoting.{content_up_to_quote, unquoted, escaped_character, quoted}
use Rattle.link_model.proofs.Utf8Reading.{encode_one, encode_two, encode_three, encode_four}

-- an octet of a character past ASCII
abbrev pub is_high : ℕ → Bool
is_high b = nat_le 128 b

high : (b : ℕ) → 128 ≤ b → is_high b ≡ true
high b h = grind (arith, nat_tests)

pub all_high : (c : ℕ) → 128 ≤ c → list_all is_high (encode_utf8 c) ≡ true
all_high c l = by_size (cases_lt c 2048) (cases_lt c 65536)
  where
    by_size : (c < 2048) ⊎ (2048 ≤ c)
        → (c < 65536) ⊎ (65536 ≤ c)
        → list_all is_high (encode_utf8 c) ≡ true
    by_size (inl h) _ =
        rw (encode_two c l h)
        (rw (high (192 + c / 64) (omega arith), high (128 + c % 64) (omega arith)) refl)
    by_size (inr g) (inl h) =
        rw (encode_three c g h)
        (rw (
          high (224 + c / 4096) (omega arith),
          high (128 + (c / 64) % 64) (omega arith),
          high
              (128 + c % 64) (omega arith),
        ) refl)
    by_size _ (inr g) =
        rw (encode_four c g)
        (rw (
          high (240 + c / 262144) (omega arith),
          high (128 + (c / 4096) % 64) (omega arith),
          high (128 + (c / 64) % 64) (omega arith),
          high (128 + c % 64) (omega arith),
        )
        refl)

pub not_empty : (c : ℕ) → 128 ≤ c → 0 < length (encode_utf8 c)
not_empty c l = by_size (cases_lt c 2048) (cases_lt c 65536)
  where
    by_size : (c < 2048) ⊎ (2048 ≤ c) → (c < 65536) ⊎ (65536 ≤ c) → 0 < length (encode_utf8 c)
    by_size (inl h) _ = rw (encode_two c l h) (omega arith)
    by_size (inr g) (inl h) = rw (encode_three c g h) (omega arith)
    by_size _ (inr g) = rw (encode_four c g) (omega arith)

no_quote : (b : ℕ) → is_high b ≡ true → (b == quote_mark) ≡ false
no_quote b h = grind (arith, nat_tests)

no_backslash : (b : ℕ) → is_high b ≡ true → (b == backslash) ≡ false
no_backslash b h = grind (arith, nat_tests)

-- ---- the content of a quoted string

content_high : (xs rest : List ℕ)
    → list_all is_high xs ≡ true
    → content_up_to_quote false (xs ++ rest) ≡ xs ++ content_up_to_quote false rest
content_high [] rest h = refl
content_high (b ∷ xs) rest h =
    let parts = and_parts (is_high b) (list_all is_high xs) h in
    rw (no_quote b parts.0, no_backslash b parts.0)
    (ap (λ (t : List ℕ). b ∷ t) (content_high xs rest parts.1))

escaped_high : (xs rest : List ℕ)
    → 0 < length xs
    → list_all is_high xs ≡ true
    → content_up_to_quote true (xs ++ rest) ≡ xs ++ content_up_to_quote false rest
escaped_high [] rest l h = absurd (omega arith)
escaped_high (b ∷ xs) rest l h =
    let parts = and_parts (is_high b) (list_all is_high xs) h in
    ap (λ (t : List ℕ). b ∷ t) (content_high xs rest parts.1)

-- a character after a backslash stands for itself
pub content_escaped : (c : ℕ) (rest : List ℕ)
    → content_up_to_quote true (encode_utf8 c ++ rest)
    ≡ encode_utf8 c ++ content_up_to_quote false rest
content_escaped c rest = by_size (cases_lt c 128)
  where
    by_size : (c < 128) ⊎ (128 ≤ c)
        → content_up_to_quote true (encode_utf8 c ++ rest)
        ≡ encode_utf8 c ++ content_up_to_quote false rest
    by_size (inl h) = rw (encode_one c h) refl
    by_size (inr h) = escaped_high (encode_utf8 c) rest (not_empty c h) (all_high c h)

-- any other character stands for itself
pub content_plain : (c : ℕ) (rest : List ℕ)
    → (c == quote_mark) ≡ false
    → (c == backslash) ≡ false
    → content_up_to_quote false (encode_utf8 c ++ rest)
    ≡ encode_utf8 c ++ content_up_to_quote false rest
content_plain c rest q b = by_size (cases_lt c 128)
  where
    by_size : (c < 128) ⊎ (128 ≤ c)
        → content_up_to_quote false (encode_utf8 c ++ rest)
        ≡ encode_utf8 c ++ content_up_to_quote false rest
    by_size (inl h) = rw (encode_one c h) (rw (q, b) refl)
    by_size (inr h) = content_high (encode_utf8 c) rest (all_high c h)

-- what stands before a closing quote at the end, where no other quote and no backslash is in it
pub content_closed : (front : List ℕ)
    → list_any (λ c. c == quote_mark) front ≡ false
    → list_any (λ c. c == backslash) front ≡ false
    → front ≡ content_up_to_quote false (front ++ quote_mark ∷ [])
content_closed [] q b = refl
content_closed (c ∷ cs) q b =
    let quotes = or_parts (c == quote_mark) (list_any (λ c. c == quote_mark) cs) q in
    let escapes = or_parts (c == backslash) (list_any (λ c. c == backslash) cs) b in
    rw (quotes.0, escapes.0) (ap (λ (t : List ℕ). c ∷ t) (content_closed cs quotes.1 escapes.1))

-- ---- what a value says

pub unquoted_quote : (rest : List ℕ)
    → unquoted (encode_utf8 quote_mark ++ rest) ≡ content_up_to_quote false rest
unfolding unquoted
unquoted_quote rest = rw (encode_one quote_mark (omega arith)) refl

unquoted_high : (xs rest : List ℕ)
    → 0 < length xs
    → list_all is_high xs ≡ true
    → unquoted (xs ++ rest) ≡ xs ++ rest
unfolding unquoted
unquoted_high [] rest l h = absurd (omega arith)
unquoted_high (b ∷ xs) rest l h =
    let parts = and_parts (is_high b) (list_all is_high xs) h in rw (no_quote b parts.0) refl

unquoted_ascii : (c : ℕ) (rest : List ℕ)
    → c < 128
    → (c == quote_mark) ≡ false
    → unquoted (encode_utf8 c ++ rest) ≡ encode_utf8 c ++ rest
unfolding unquoted
unquoted_ascii c rest h q = rw (encode_one c h) (rw q refl)

pub unquoted_plain : (c : ℕ) (rest : List ℕ)
    → (c == quote_mark) ≡ false
    → unquoted (encode_utf8 c ++ rest) ≡ encode_utf8 c ++ rest
unquoted_plain c rest q = by_size (cases_lt c 128)
  where
    by_size : (c < 128) ⊎ (128 ≤ c) → unquoted (encode_utf8 c ++ rest) ≡ encode_utf8 c ++ rest
    by_size (inl h) = unquoted_ascii c rest h q
    by_size (inr h) = unquoted_high (encode_utf8 c) rest (not_empty c h) (all_high c h)

pub unquoted_empty : (text : List ℕ) → length text ≡ 0 → unquoted text ≡ []
unfolding unquoted
unquoted_empty [] h = refl
unquoted_empty (b ∷ bs) h = absurd (omega arith)

-- ---- text in quotes

spelled_high : (xs : List ℕ) → list_all is_high xs ≡ true → flat_map escaped_character xs ≡ xs
spelled_high [] h = refl
spelled_high (b ∷ xs) h =
    let parts = and_parts (is_high b) (list_all is_high xs) h in
    rw (no_quote b parts.0, no_backslash b parts.0)
    (ap (λ (t : List ℕ). b ∷ t) (spelled_high xs parts.1))

-- a character that is no quote and no backslash
pub spelled_plain : (c : ℕ)
    → (c == quote_mark) ≡ false
    → (c == backslash) ≡ false
    → flat_map escaped_character (encode_utf8 c) ≡ encode_utf8 c
spelled_plain c q b = by_size (cases_lt c 128)
  where
    by_size : (c < 128) ⊎ (128 ≤ c) → flat_map escaped_character (encode_utf8 c) ≡ encode_utf8 c
    by_size (inl h) = rw (encode_one c h) (rw (q, b) refl)
    by_size (inr h) = spelled_high (encode_utf8 c) (all_high c h)

-- ---- steps of loops over characters

different : (c d : ℕ) → (c ≡ d → ⊥) → (c == d) ≡ false
different c d h = grind (arith, nat_tests)

pub content_plain_step : (text more whole rest after : List ℕ) (c : ℕ) (escaped : Bool)
    → text ++ content_up_to_quote escaped rest ≡ whole
    → escaped ≡ false
    → rest ≡ encode_utf8 c ++ after
    → (c ≡ quote_mark → ⊥)
    → (c ≡ backslash → ⊥)
    → more ≡ text ++ encode_utf8 c
    → more ++ content_up_to_quote escaped after ≡ whole
content_plain_step text more whole rest after c true w f r q b m = absurd (false≢true (sym f))
content_plain_step text more whole rest after c false w f r q b m =
    ap (λ (t : List ℕ). t ++ content_up_to_quote false after) m
    ∙ append_assoc text (encode_utf8 c) (content_up_to_quote false after)
    ∙ ap (λ (t : List ℕ). text ++ t)
    (sym (content_plain c after (different c quote_mark q) (different c backslash b))
    ∙ ap (content_up_to_quote false) (sym r))
    ∙ w

pub content_escaped_step : (text more whole rest after : List ℕ) (c : ℕ) (escaped : Bool)
    → text ++ content_up_to_quote escaped rest ≡ whole
    → escaped ≡ true
    → rest ≡ encode_utf8 c ++ after
    → more ≡ text ++ encode_utf8 c
    → more ++ content_up_to_quote false after ≡ whole
content_escaped_step text more whole rest after c false w f r m = absurd (false≢true f)
content_escaped_step text more whole rest after c true w f r m =
    ap (λ (t : List ℕ). t ++ content_up_to_quote false after) m
    ∙ append_assoc text (encode_utf8 c) (content_up_to_quote false after)
    ∙ ap (λ (t : List ℕ). text ++ t)
    (sym (content_escaped c after) ∙ ap (content_up_to_quote true) (sym r))
    ∙ w

pub unquoted_first : (value rest : List ℕ) (c : ℕ)
    → value ≡ encode_utf8 c ++ rest
    → (c ≡ quote_mark → ⊥)
    → value ≡ unquoted value
unquoted_first value rest c e q =
    e ∙ sym (unquoted_plain c rest (different c quote_mark q)) ∙ ap unquoted (sym e)

pub unquoted_opened : (value rest : List ℕ) (c : ℕ)
    → value ≡ encode_utf8 c ++ rest
    → c ≡ quote_mark
    → content_up_to_quote false rest ≡ unquoted value
unquoted_opened value rest c e q =
    sym (unquoted_quote rest)
    ∙ ap (λ (d : ℕ). unquoted (encode_utf8 d ++ rest)) (sym q)
    ∙ ap unquoted (sym e)

pub spelled_other : (c : ℕ)
    → (c == quote_mark || c == backslash) ≡ false
    → encode_utf8 c ≡ flat_map escaped_character (encode_utf8 c)
spelled_other c h =
    let n = or_parts (c == quote_mark) (c == backslash) h in sym (spelled_plain c n.0 n.1)

-- the text with its closing quote
pub quoted_closed : (text whole value : List ℕ)
    → text ++ [] ≡ quote_mark ∷ flat_map escaped_character value
    → whole ≡ text ++ encode_utf8 quote_mark
    → whole ≡ quoted value
unfolding quoted
quoted_closed text whole value e f =
    f
    ∙ ap (λ (t : List ℕ). text ++ t) (encode_one quote_mark (omega arith))
    ∙ ap (λ (t : List ℕ). t ++ quote_mark ∷ []) (sym (append-nil text) ∙ e)

pub nothing_left : (rest : List ℕ) → length rest ≡ 0 → rest ≡ []
nothing_left [] e = refl
nothing_left (b ∷ bs) e = absurd (omega arith)
