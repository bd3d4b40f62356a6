-- What stands after groups, one by one.
use Rattle.std.proofs.Common.{
  ◌≡◌,
  ℕ,
  ◌+◌,
  ◌<◌,
  List,
  [],
  ◌∷◌,
  ◌++◌,
  length,
  take,
  drop,
  codes,
  flat_map,
  cond,
  Some,
  None,
  refl,
  sym,
  ap,
  ◌∙◌,
  lt-ltb,
  arith,
}
use Rattle.std.specs.Net.Text.{hex, groups_text, longest_zero_run, compressed_text, hex_groups_text}
use Rattle.std.specs.Net.Text.{ipv4_text, ipv6_text}
use Rattle.std.specs.Net.Addr.{ipv6_segments, IsIpv4Mapped, low_octets}
use Rattle.std.specs.declared.net.ipv6_addr.Ipv6Addr.{Ipv6Addr}
use Rattle.std.proofs.lemmas.Slice.Eq.{bytes_eq-Decides}
use Rattle.rd_base.specs.Prefixes.{after_prefix, ◌then◌}
use Rattle.rd_base.proofs.PrefixLemmas.{after_two}

-- groups with a colon before each
abbrev further : List ℕ → List ℕ
further groups = flat_map (λ g. codes ":" ++ hex g) groups

pub further_none : (groups text : List ℕ)
    → length groups ≡ 0
    → after_prefix (further groups) text ≡ Some text
unfolding after_prefix
further_none [] text e = refl
further_none (g ∷ groups) text e = absurd (omega (arith, e))

pub further_more : (groups more text : List ℕ) (g : ℕ)
    → groups ≡ g ∷ more
    → after_prefix (further groups) text
    ≡ ((after_prefix (codes ":") text then hex g) then further more)
further_more groups more text g e =
    ap (λ gs. after_prefix (further gs) text) e
    ∙ after_two (codes ":" ++ hex g) (further more) text
    ∙ ap (λ o. o then further more) (after_two (codes ":") (hex g) text)

pub groups_none : (groups text : List ℕ)
    → length groups ≡ 0
    → after_prefix (groups_text groups) text ≡ Some text
unfolding after_prefix
groups_none [] text e = refl
groups_none (g ∷ groups) text e = absurd (omega (arith, e))

pub groups_more : (groups more text : List ℕ) (g : ℕ)
    → groups ≡ g ∷ more
    → after_prefix (groups_text groups) text ≡ (after_prefix (hex g) text then further more)
groups_more groups more text g e =
    ap (λ gs. after_prefix (groups_text gs) text) e ∙ after_two (hex g) (further more) text

-- the walk over groups with a colon before each
module _ (groups more text : List ℕ) (g : ℕ) (parts : groups ≡ g ∷ more) where
  pub further_no_colon : None ≡ after_prefix (codes ":") text
      → None ≡ after_prefix (further groups) text
  further_no_colon e =
      ap (λ o. (o then hex g) then further more) e ∙ sym (further_more groups more text g parts)

  pub further_no_group : (rest : List ℕ)
      → Some rest ≡ after_prefix (codes ":") text
      → None ≡ after_prefix (hex g) rest
      → None ≡ after_prefix (further groups) text
  further_no_group rest e h =
      ap (λ o. o then further more) h
      ∙ ap (λ o. (o then hex g) then further more) e
      ∙ sym (further_more groups more text g parts)

  pub further_goes : (rest last : List ℕ)
      → Some rest ≡ after_prefix (codes ":") text
      → Some last ≡ after_prefix (hex g) rest
      → after_prefix (further more) last ≡ after_prefix (further groups) text
  further_goes rest last e h =
      ap (λ o. o then further more) h
      ∙ ap (λ o. (o then hex g) then further more) e
      ∙ sym (further_more groups more text g parts)

  pub groups_no_group : None ≡ after_prefix (hex g) text
      → None ≡ after_prefix (groups_text groups) text
  groups_no_group e = ap (λ o. o then further more) e ∙ sym (groups_more groups more text g parts)

  pub groups_goes : (rest : List ℕ)
      → Some rest ≡ after_prefix (hex g) text
      → after_prefix (further more) rest ≡ after_prefix (groups_text groups) text
  groups_goes rest e = ap (λ o. o then further more) e ∙ sym (groups_more groups more text g parts)

-- the groups round the longest run of zeros
module _ (groups text : List ℕ) (start count : ℕ) (run : (start, count) ≡ longest_zero_run groups)
    (long : 1 < count) where
  pub round_zeros :
      after_prefix (hex_groups_text groups) text
      ≡ ((after_prefix (groups_text (take start groups)) text then codes "::") then groups_text
      (drop (start + count) groups))
  unfolding hex_groups_text
  round_zeros =
      ap (λ r. after_prefix (compressed_text groups r) text) (sym run)
      ∙ ap (λ t.
      after_prefix (cond t (groups_text (take start groups)
      ++ codes "::"
      ++ groups_text (drop (start + count) groups)) (groups_text groups)) text)
      (lt-ltb 1 count long)
      ∙ after_two (groups_text (take start groups) ++ codes "::")
      (groups_text (drop (start + count) groups)) text
      ∙ ap (λ o. o then groups_text (drop (start + count) groups))
      (after_two (groups_text (take start groups)) (codes "::") text)

  pub no_colons : (rest : List ℕ)
      → Some rest ≡ after_prefix (groups_text (take start groups)) text
      → None ≡ after_prefix (codes "::") rest
      → None ≡ after_prefix (hex_groups_text groups) text
  no_colons rest e h =
      ap (λ o. o then groups_text (drop (start + count) groups)) h
      ∙ ap (λ o. (o then codes "::") then groups_text (drop (start + count) groups)) e
      ∙ sym round_zeros

  pub after_colons : (rest last : List ℕ)
      → Some rest ≡ after_prefix (groups_text (take start groups)) text
      → Some last ≡ after_prefix (codes "::") rest
      → after_prefix (groups_text (drop (start + count) groups)) last
      ≡ after_prefix (hex_groups_text groups) text
  after_colons rest last e h =
      ap (λ o. o then groups_text (drop (start + count) groups)) h
      ∙ ap (λ o. (o then codes "::") then groups_text (drop (start + count) groups)) e
      ∙ sym round_zeros

-- an address that maps an IPv4 address
module _ (groups text octets : List ℕ) (a : Ipv6Addr) (same : ipv6_segments a ≡ groups)
    (mapped : IsIpv4Mapped (ipv6_segments a)) (low : octets ≡ low_octets a) where
  mapped_text : ipv6_text groups ≡ codes "::ffff:" ++ ipv4_text octets
  unfolding ipv6_text
  mapped_text =
      ap (λ gs. ipv6_text gs) (sym same)
      ∙ ap (λ t.
      cond t (codes "::ffff:" ++ ipv4_text (low_octets a))
      (hex_groups_text (ipv6_segments a)))
      ((bytes_eq-Decides (take 6 (ipv6_segments a)) (0 ∷ 0 ∷ 0 ∷ 0 ∷ 0 ∷ 0xffff ∷ [])).1 mapped)
      ∙ ap (λ o. codes "::ffff:" ++ ipv4_text o) (sym low)

  mapped_parts :
      after_prefix (ipv6_text groups) text
      ≡ (after_prefix (codes "::ffff:") text then ipv4_text octets)
  mapped_parts =
      ap (λ t. after_prefix t text) mapped_text
      ∙ after_two (codes "::ffff:") (ipv4_text octets) text

  pub not_mapped_text : None ≡ after_prefix (codes "::ffff:") text
      → None ≡ after_prefix (ipv6_text groups) text
  not_mapped_text e = ap (λ o. o then ipv4_text octets) e ∙ sym mapped_parts

  pub after_mapped : (rest : List ℕ)
      → Some rest ≡ after_prefix (codes "::ffff:") text
      → after_prefix (ipv4_text octets) rest ≡ after_prefix (ipv6_text groups) text
  after_mapped rest e = ap (λ o. o then ipv4_text octets) e ∙ sym mapped_parts
