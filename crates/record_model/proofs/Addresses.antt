-- The octets that the texts of addresses and ports are made of.
use Rattle.std.proofs.Common.{
  ◌≡◌,
  ℕ,
  zero,
  suc,
  ◌+◌,
  ◌/◌,
  ◌%◌,
  ◌^◌,
  ◌<◌,
  Bool,
  true,
  false,
  List,
  [],
  ◌∷◌,
  ◌++◌,
  length,
  get_or,
  take,
  drop,
  decimal,
  All,
  refl,
  arith,
  inl,
  inr,
}
use Rattle.std.proofs.lemmas.Bool.{cond_both, and_parts, true≢false}
use Rattle.std.proofs.lemmas.Bool.Decides.{nat_tests}
use Rattle.std.proofs.lemmas.List.Elements.{All-head, All-tail}
use Rattle.std.proofs.NetLemmas.Alphabet.{
  IsDigitOrDot,
  IsHexOrColon,
  All-ipv4_text,
  All-hex_groups_text,
}
use Rattle.std.proofs.NetLemmas.Texts.{AllSegments, AllSegments-drop}
use Rattle.std.specs.Prelude.{codes, nat_le, if◌then◌else◌}
use Rattle.std.specs.List.{list_all}
use Rattle.std.specs.Char.{is_ascii_digit, digit_char}
use Rattle.std.specs.Fmt.{digits_onto, digits}
use Rattle.std.specs.Net.Addr.{octets_of}
use Rattle.std.specs.Net.Text.{
  ipv4_text,
  ipv6_text,
  hex,
  hex_groups_text,
  compressed_text,
  longest_zero_run,
  groups_text,
}
use Rattle.link_model.specs.Characters.{
  percent_sign,
  is_empty,
  is_name_character,
  is_literal_character,
}
use Rattle.reference_model.specs.References.{is_text_of}
use Rattle.rd_base.proofs.lemmas.Numbers.{other_octet}

-- every octet of the text passes the test (a record, so that antt reads the text off a goal)
pub record Passes (test : ℕ → Bool) (text : List ℕ) : Type 0 where
  pub all : list_all test text ≡ true

-- the text is not empty
pub record Filled (text : List ℕ) : Type 0 where
  pub some : is_empty text ≡ false

-- all octets pass where they are of a kind that passes
passes_by_kind : (P : ℕ → Type 0) (test : ℕ → Bool)
    → ((c : ℕ) → P c → test c ≡ true)
    → (text : List ℕ)
    → All P text
    → Passes test text
passes_by_kind P test passes text h = record { all = go text h }
  where
    go : (xs : List ℕ) → All P xs → list_all test xs ≡ true
    go [] h = refl
    go (c ∷ cs) h = rw (passes c (All-head P c cs h), go cs (All-tail P c cs h)) refl

-- octets that pass are a text of such octets, where the percent sign does not pass
pub text_of_run : (test : ℕ → Bool)
    → test percent_sign ≡ false
    → (text : List ℕ)
    → list_all test text ≡ true
    → is_text_of test text ≡ true
text_of_run test p [] h = refl
text_of_run test p (c ∷ cs) h =
    let parts = and_parts (test c) (list_all test cs) h in
    rw (other_octet test c percent_sign (parts.0) p, parts.0, text_of_run test p cs (parts.1)) refl

-- a text is not empty where a part of it is not
left_filled : (a b : List ℕ) → Filled a → Filled (a ++ b)
left_filled [] b h = absurd (true≢false h.some)
left_filled (c ∷ a) b h = record { some = refl }

right_filled : (a b : List ℕ) → Filled b → Filled (a ++ b)
right_filled [] b h = h
right_filled (c ∷ a) b h = record { some = refl }

-- ---- ports

-- the last digit of a number is a digit
digit_passes : (n : ℕ) → is_ascii_digit (digit_char (n % 10)) ≡ true
digit_passes n = grind (arith, nat_tests)

-- and so are those before it, where the ones after are
digits_pass : (k n : ℕ) (rest : List ℕ)
    → Passes is_ascii_digit rest
    → Passes is_ascii_digit (digits_onto k 10 false n rest)
digits_pass zero n rest h = h
digits_pass (suc k) n rest h =
    let more : Passes is_ascii_digit (digit_char (n % 10) ∷ rest) = record {
      all = rw (digit_passes n, h.all) refl;
    } in
    cond_both _ _ _ (Passes is_ascii_digit) (λ _. more) (λ _. digits_pass k (n / 10) _ more)

-- the digits of any number
pub decimal_passes : (n : ℕ) → Passes is_ascii_digit (decimal n)
unfolding digits
decimal_passes n = digits_pass 64 n [] (record { all = refl })

-- ---- IPv4 addresses

-- digits and full stops stand in names, and in IP literals
in_name : (c : ℕ) → IsDigitOrDot c → is_name_character c ≡ true
in_name c (inl h) = grind (arith, nat_tests)
in_name c (inr e) = rw e refl

in_literal : (c : ℕ) → IsDigitOrDot c → is_literal_character c ≡ true
in_literal c (inl h) = grind (arith, nat_tests)
in_literal c (inr e) = rw e refl

-- an IPv4 address has the characters of a name
pub ipv4_passes : (octets : List ℕ)
    → ((k : ℕ) → get_or octets k 0 < 2 ^ 8)
    → Passes is_name_character (ipv4_text octets)
ipv4_passes octets fits =
    passes_by_kind IsDigitOrDot is_name_character in_name (ipv4_text octets)
    (All-ipv4_text octets fits)

-- and has some
pub ipv4_filled : (octets : List ℕ) → Filled (ipv4_text octets)
ipv4_filled octets =
    left_filled _ (decimal (get_or octets 3 0))
    (right_filled _ (codes ".") (record { some = refl }))

-- ---- IPv6 addresses

-- hexadecimal digits and colons stand in IP literals
hex_in_literal : (c : ℕ) → IsHexOrColon c → is_literal_character c ≡ true
hex_in_literal c (inl h) = grind (arith, nat_tests)
hex_in_literal c (inr h) = grind (arith, nat_tests)

-- the octets of groups of 16 bits
octets_fit : (groups : List ℕ)
    → AllSegments groups
    → (k : ℕ)
    → get_or (octets_of groups) k 0 < 2 ^ 8
octets_fit [] fits k = omega arith
octets_fit (g ∷ groups) fits zero = omega (arith, fits 0)
octets_fit (g ∷ groups) fits (suc zero) = omega arith
octets_fit (g ∷ groups) fits (suc (suc k)) = octets_fit groups (λ j. fits (suc j)) k

-- an address that ends in an IPv4 address
mapped_passes : (octets : List ℕ)
    → ((k : ℕ) → get_or octets k 0 < 2 ^ 8)
    → Passes is_literal_character (codes "::ffff:" ++ ipv4_text octets)
mapped_passes octets fits = record {
  all =
      (passes_by_kind IsDigitOrDot is_literal_character in_literal (ipv4_text octets)
      (All-ipv4_text octets fits)).all;
}

-- an IPv6 address has the characters of an IP literal
pub ipv6_passes : (groups : List ℕ)
    → AllSegments groups
    → Passes is_literal_character (ipv6_text groups)
unfolding ipv6_text
ipv6_passes groups fits =
    cond_both _ _ _ (Passes is_literal_character)
    (λ _. mapped_passes (octets_of (drop 6 groups))
    (octets_fit (drop 6 groups) (AllSegments-drop 6 groups fits)))
    (λ _. passes_by_kind IsHexOrColon is_literal_character hex_in_literal (hex_groups_text groups)
    (All-hex_groups_text groups fits))

-- a group has at least one digit
hex_filled : (n : ℕ) → Filled (hex n)
unfolding hex
hex_filled n = record { some = by (nat_le 0x1000 n) (nat_le 0x100 n) (nat_le 0x10 n) }
  where
    by : (a b c : Bool)
        → is_empty (drop (if a then 0 else (if b then 1 else (if c then 2 else 3)))
        (digit_char (n / 0x1000)
        ∷ digit_char (n / 0x100 % 16)
        ∷ digit_char (n / 0x10 % 16)
        ∷ digit_char (n % 16)
        ∷ []))
        ≡ false
    by true b c = refl
    by false true c = refl
    by false false true = refl
    by false false false = refl

-- eight groups have some
groups_filled : (groups : List ℕ) → length groups ≡ 8 → Filled (groups_text groups)
groups_filled [] eight = absurd (omega (arith, eight))
groups_filled (g ∷ groups) eight = left_filled (hex g) _ (hex_filled g)

-- an address with or without a run of zeros
compressed_filled : (groups : List ℕ) (zeros : ℕ × ℕ)
    → length groups ≡ 8
    → Filled (compressed_text groups zeros)
compressed_filled groups zeros eight =
    let front = groups_text (take zeros.0 groups) in
    let back = groups_text (drop (zeros.0 + zeros.1) groups) in
    let both =
    left_filled (front ++ codes "::") back
    (right_filled front (codes "::") (record { some = refl })) in
    cond_both _ _ _ Filled (λ _. both) (λ _. groups_filled groups eight)

-- an address of eight groups has some
hex_groups_filled : (groups : List ℕ) → length groups ≡ 8 → Filled (hex_groups_text groups)
unfolding hex_groups_text
hex_groups_filled groups eight = compressed_filled groups (longest_zero_run groups) eight

-- an IPv6 address has some characters
pub ipv6_filled : (groups : List ℕ) → length groups ≡ 8 → Filled (ipv6_text groups)
unfolding ipv6_text
ipv6_filled groups eight =
    let mapped : Filled (codes "::ffff:" ++ ipv4_text (octets_of (drop 6 groups))) = record {
      some = refl;
    } in
    cond_both _ _ _ Filled (λ _. mapped) (λ _. hex_groups_filled groups eight)
