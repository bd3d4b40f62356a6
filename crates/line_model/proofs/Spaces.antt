-- No field of a printed line has a space.
use Rattle.std.proofs.Common.{
  ◌≡◌,
  ◌≢◌,
  ℕ,
  zero,
  suc,
  lit<,
  ◌/◌,
  ◌%◌,
  ◌<◌,
  ◌^◌,
  ◌==◌,
  inl,
  inr,
  false,
  List,
  [],
  ◌∷◌,
  ◌++◌,
  codes,
  take,
  drop,
  decimal,
  slice_index,
  bytes_eq,
  refl,
  sym,
  ap,
  ◌∙◌,
  arith,
  true,
  subst,
}
use Rattle.std.proofs.lemmas.Bool.{ne_eqb, cond_both, both_ways}
use Rattle.std.proofs.lemmas.Option.{none-some}
use Rattle.std.proofs.lemmas.Fmt.{decimal_is_IsNumeral}
use Rattle.std.proofs.lemmas.Str.Parse.{digit_at}
use Rattle.std.proofs.lemmas.List.Elements.{All-from_get_or, recursion_from_All, All-head, All-tail}
use Rattle.std.specs.List.{AllByRecursion, AllPass}
use Rattle.std.specs.Net.Addr.{octets_of}
use Rattle.std.specs.Net.Text.{ipv4_text, ipv6_text, hex_groups_text, socket_text}
use Rattle.std.proofs.NetLemmas.Alphabet.{
  IsDigitOrDot,
  IsHexOrColon,
  All-ipv4_text,
  All-hex_groups_text,
}
use Rattle.std.proofs.NetLemmas.Texts.{AllSegments, AllSegments-drop}
use Rattle.hex.specs.Hex.{
  IsBytes,
  encode_with,
  encode_lower,
  lower_digits,
  hex_digit_value,
  is_hex_digit,
}
use Rattle.hex.proofs.HexLemmas.{IsDigits-lower_digits, decode_of-ok}
use Rattle.rd_base.specs.declared.peers.Host.{Host}
use Rattle.rd_base.specs.declared.peers.Host.TheVariants as host
use Rattle.rd_base.specs.declared.peers.Peer.{Peer}
use Rattle.rd_base.specs.Peers.{IsHost, IsPeer, socket_of, peer_text}
use Rattle.line_model.specs.Datagrams.{datagram_text, IsDatagramText}
use Rattle.line_model.specs.Lines.{space}

-- a byte that is no space
abbrev pub IsNoSpace : ℕ → Type 0
IsNoSpace b = (b == space) ≡ false

-- no byte is a space
abbrev pub HasNoSpace : List ℕ → Type 0
HasNoSpace text = AllByRecursion IsNoSpace text

other : (b : ℕ) → b ≢ space → IsNoSpace b
other b h = ne_eqb b space h

joined_spaceless : (xs ys : List ℕ) → HasNoSpace xs → HasNoSpace ys → HasNoSpace (xs ++ ys)
joined_spaceless [] ys h k = k
joined_spaceless (x ∷ xs) ys h k = (h.0, joined_spaceless xs ys h.1 k)

pub decimal_spaceless : (n : ℕ) → n < 2 ^ 64 → HasNoSpace (decimal n)
decimal_spaceless n small =
    recursion_from_All IsNoSpace (decimal n) (All-from_get_or IsNoSpace (decimal n) 0 λ i h.
    let range = digit_at (decimal n) i (decimal_is_IsNumeral n small).0.1 h in
    other _ (λ e. omega (arith, e, range)))

digit_or_dot : (b : ℕ) → IsDigitOrDot b → IsNoSpace b
digit_or_dot b (inl r) = other b (λ e. omega (arith, e, r))
digit_or_dot b (inr r) = other b (λ e. omega (arith, e, r))

hex_or_colon : (b : ℕ) → IsHexOrColon b → IsNoSpace b
hex_or_colon b (inl r) = other b (λ e. omega (arith, e, r))
hex_or_colon b (inr r) = other b (λ e. omega (arith, e, r))

ipv4_spaceless : (octets : List ℕ)
    → ((k : ℕ) → slice_index octets k < 2 ^ 8)
    → HasNoSpace (ipv4_text octets)
ipv4_spaceless octets fits =
    recursion_from_All IsNoSpace (ipv4_text octets)
    (λ k d h. digit_or_dot _ (All-ipv4_text octets fits k d h))

pub octets_fit : (groups : List ℕ)
    → AllSegments groups
    → (k : ℕ)
    → slice_index (octets_of groups) k < 2 ^ 8
octets_fit [] fits k = lit< tt
octets_fit (g ∷ groups) fits zero = let small = fits 0 in omega (arith, small)
octets_fit (g ∷ groups) fits (suc zero) = omega arith
octets_fit (g ∷ groups) fits (suc (suc k)) = octets_fit groups (λ j. fits (suc j)) k

ipv6_spaceless : (groups : List ℕ) → AllSegments groups → HasNoSpace (ipv6_text groups)
unfolding ipv6_text
ipv6_spaceless groups fits =
    let tail = octets_of (drop 6 groups) in
    cond_both (bytes_eq (take 6 groups) (0 ∷ 0 ∷ 0 ∷ 0 ∷ 0 ∷ 0xffff ∷ []))
    (codes "::ffff:" ++ ipv4_text tail) (hex_groups_text groups) HasNoSpace
    (λ _. (
      refl,
      (
        refl,
        (
          refl,
          (
            refl,
            (
              refl,
              (
                refl,
                (
                  refl,
                  ipv4_spaceless tail (octets_fit (drop 6 groups)
                      (AllSegments-drop 6 groups fits)),
                ),
              ),
            ),
          ),
        ),
      ),
    ))
    (λ _. recursion_from_All IsNoSpace (hex_groups_text groups)
    (λ k d h. hex_or_colon _ (All-hex_groups_text groups fits k d h)))

host_spaceless : (h : Host) (port : ℕ)
    → IsHost h
    → port < 2 ^ 16
    → HasNoSpace (socket_text (socket_of h port))
host_spaceless (host.V4 octets) port fits small =
    joined_spaceless (ipv4_text octets ++ codes ":") (decimal port)
    (joined_spaceless (ipv4_text octets) (codes ":") (ipv4_spaceless octets fits.1) (refl, tt))
    (decimal_spaceless port (omega arith))
host_spaceless (host.V6 groups) port fits small = (
  refl,
  joined_spaceless (ipv6_text groups ++ [] ++ codes "]:") (decimal port)
      (joined_spaceless (ipv6_text groups ++ []) (codes "]:")
      (joined_spaceless (ipv6_text groups) [] (ipv6_spaceless groups fits.1) tt)
      (refl, (refl, tt)))
      (decimal_spaceless port (omega arith)),
)

pub peer_spaceless : (peer : Peer) → IsPeer peer → HasNoSpace (peer_text peer)
unfolding peer_text
peer_spaceless peer fits = host_spaceless peer.host peer.port fits.host fits.port_high

-- a digit is no space, since a space is no digit
lower_digit : (d : ℕ) → d < 16 → slice_index lower_digits d ≢ space
lower_digit d h e = none-some d (sym (ap hex_digit_value e) ∙ IsDigits-lower_digits d h)

encode_spaceless : (octets : List ℕ) → IsBytes octets → HasNoSpace (encode_lower octets)
unfolding encode_with
encode_spaceless [] h = tt
encode_spaceless (octet ∷ octets) h =
    let small : octet < 256 = h 0 in (
      other _ (lower_digit (octet / 16) (omega arith)),
      (
        other _ (lower_digit (octet % 16) (omega arith)),
        encode_spaceless octets
            (λ k. h (suc k)),
      ),
    )

pub datagram_spaceless : (octets : List ℕ) → IsBytes octets → HasNoSpace (datagram_text octets)
datagram_spaceless [] h = (refl, tt)
datagram_spaceless (octet ∷ octets) h = encode_spaceless (octet ∷ octets) h

-- hexadecimal digits are no spaces
digit_no_space : (c : ℕ) → is_hex_digit c ≡ true → c ≢ space
digit_no_space c h e = both_ways (is_hex_digit space) refl (ap is_hex_digit (sym e) ∙ h)

digits_spaceless : (text : List ℕ) → AllPass is_hex_digit text → HasNoSpace text
digits_spaceless [] h = tt
digits_spaceless (c ∷ cs) h = (
  other c (digit_no_space c (All-head (λ x. is_hex_digit x ≡ true) c cs h)),
  digits_spaceless cs
      (All-tail (λ x. is_hex_digit x ≡ true) c cs h),
)

-- nor is a text that writes a datagram
pub IsDatagramText_spaceless : (text octets : List ℕ) → IsDatagramText text octets → HasNoSpace text
IsDatagramText_spaceless text octets (inl h) = subst HasNoSpace (sym h.0) (refl, tt)
IsDatagramText_spaceless text octets (inr h) =
    digits_spaceless text (decode_of-ok text octets h.0).1
