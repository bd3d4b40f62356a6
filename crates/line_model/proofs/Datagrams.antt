-- The text of a datagram is read as that datagram.
use Rattle.hex.specs.declared.error.FromHexError.{FromHexError}
use Rattle.std.proofs.lemmas.Option.{none-some, same_Some}
use Rattle.std.proofs.Common.{
  ◌≡◌,
  ◌≢◌,
  ℕ,
  ◌≤◌,
  ◌&&◌,
  false,
  List,
  [],
  ◌∷◌,
  length,
  Some,
  None,
  nat_le,
  bytes_eq,
  refl,
  ap,
  ◌∙◌,
  arith,
  Result,
  Ok,
  Err,
  inl,
  inr,
  subst,
  sym,
}
use Rattle.std.proofs.lemmas.Bool.{and_from, le-leb, false_from_ne_true, and_parts, leb-true}
use Rattle.std.proofs.lemmas.Slice.Eq.{bytes_eq-Decides}
use Rattle.hex.specs.Hex.{IsBytes, decode_of, encode_lower, lower_digits}
use Rattle.hex.proofs.HexLemmas.{length-encode_with, decode_of-encode_lower, decode_of-ok}
use Rattle.line_model.specs.Datagrams.{
  max_datagram,
  no_octets,
  datagram_text,
  datagram_of,
  if_sized,
  IsDatagramText,
}
use Rattle.rd_base.proofs.lemmas.Choices.{let_through, chosen_true, chosen_false, either_of}

-- lists of different lengths are not equal
not_same : (xs ys : List ℕ) → length xs ≢ length ys → bytes_eq xs ys ≡ false
not_same xs ys h =
    false_from_ne_true (bytes_eq xs ys)
    (λ e. h (ap (λ (zs : List ℕ). length zs) ((bytes_eq-Decides xs ys).0 e)))

-- the digits of an octet and more are no dash
not_dash : (octet : ℕ) (octets : List ℕ)
    → bytes_eq (encode_lower (octet ∷ octets)) no_octets ≡ false
not_dash octet octets =
    let len = length-encode_with lower_digits (octet ∷ octets) in
    not_same (encode_lower (octet ∷ octets)) no_octets (λ e. omega (arith, len, e))

-- the text of a datagram is read as that datagram
pub datagram_of-datagram_text : (octets : List ℕ)
    → length octets ≤ max_datagram
    → IsBytes octets
    → datagram_of (datagram_text octets) ≡ Some octets
unfolding datagram_of
datagram_of-datagram_text [] small bytes = refl
datagram_of-datagram_text (octet ∷ octets) small bytes =
    let all = octet ∷ octets in
    chosen_false (bytes_eq (encode_lower all) no_octets) (Some [])
    (if_sized (decode_of (encode_lower all))) (not_dash octet octets)
    ∙ ap if_sized (decode_of-encode_lower all bytes)
    ∙ chosen_true (nat_le 1 (length all) && nat_le (length all) max_datagram) (Some all) None
    (and_from (nat_le 1 (length all)) (nat_le (length all) max_datagram)
    (le-leb 1 (length all) (omega arith)) (le-leb (length all) max_datagram small))

-- what was decoded and let through is 1 to 4,096 octets
sized : (r : Result (List ℕ) FromHexError) (octets : List ℕ)
    → if_sized r ≡ Some octets
    → (r ≡ Ok octets) × (1 ≤ length octets) × (length octets ≤ max_datagram)
sized (Ok found) octets e =
    let (test, same) =
    let_through (nat_le 1 (length found) && nat_le (length found) max_datagram) found octets
    e in
    let parts = and_parts (nat_le 1 (length found)) (nat_le (length found) max_datagram) test in
    let low : 1 ≤ length found = leb-true 1 (length found) parts.0 in
    let high : length found ≤ max_datagram = leb-true (length found) max_datagram parts.1 in (
      ap (λ (xs : List ℕ). Ok xs) same,
      subst (λ (xs : List ℕ). 1 ≤ length xs) same low,
      subst
          (λ (xs : List ℕ). length xs ≤ max_datagram) same high,
    )
sized (Err fault) octets e = absurd (none-some octets e)

-- what is read is the datagram that the text writes
pub datagram_of-found : (text octets : List ℕ)
    → datagram_of text ≡ Some octets
    → IsDatagramText text octets
unfolding datagram_of
datagram_of-found text octets e =
    elim (either_of (bytes_eq text no_octets) (Some []) (if_sized (decode_of text)) (Some octets)
    e) [
      | inl h ↦ inl ((bytes_eq-Decides text no_octets).0 h.0, sym (same_Some [] octets h.1))
      | inr h ↦ inr (sized (decode_of text) octets h.1)
    ]

-- digits are no dash
digits_no_dash : (text octets : List ℕ)
    → decode_of text ≡ Ok octets
    → bytes_eq text no_octets ≡ false
digits_no_dash text octets e =
    not_same text no_octets
    (λ len. let even = (decode_of-ok text octets e).0 in omega (arith, len, even))

-- a text that writes a datagram is read as it
pub datagram_of-IsDatagramText : (text octets : List ℕ)
    → IsDatagramText text octets
    → datagram_of text ≡ Some octets
unfolding datagram_of
datagram_of-IsDatagramText text octets (inl h) =
    chosen_true (bytes_eq text no_octets) (Some []) (if_sized (decode_of text))
    ((bytes_eq-Decides text no_octets).1 h.0)
    ∙ ap (λ (xs : List ℕ). Some xs) (sym h.1)
datagram_of-IsDatagramText text octets (inr h) =
    chosen_false (bytes_eq text no_octets) (Some []) (if_sized (decode_of text))
    (digits_no_dash text octets h.0)
    ∙ ap if_sized h.0
    ∙ chosen_true (nat_le 1 (length octets) && nat_le (length octets) max_datagram) (Some octets)
    None
    (and_from (nat_le 1 (length octets)) (nat_le (length octets) max_datagram)
    (le-leb 1 (length octets) h.1) (le-leb (length octets) max_datagram h.2))
