-- Datagrams as text: hexadecimal digits, or a dash for the empty datagram.
use Rattle.std.specs.Prelude.{
  ◌⊎◌,
  ◌≤◌,
  ◌≡◌,
  ℕ,
  ◌&&◌,
  List,
  [],
  ◌∷◌,
  length,
  codes,
  Option,
  Some,
  None,
  Result,
  Ok,
  Err,
  if◌then◌else◌,
  nat_le,
  bytes_eq,
}
use Rattle.hex.specs.Hex.{decode_of, encode_lower}
use Rattle.hex.specs.declared.error.FromHexError.{FromHexError}
use Rattle.line_model.specs.declared.limits.TheConstants.{MAX_DATAGRAM}

-- The most octets of a datagram.
abbrev pub max_datagram : ℕ
max_datagram = MAX_DATAGRAM

-- The text of the empty datagram.
abbrev pub no_octets : List ℕ
no_octets = codes "-"

-- Returns a datagram as it is printed: two lower-case digits for each octet.
abbrev pub datagram_text : List ℕ → List ℕ
datagram_text [] = no_octets
datagram_text (octet ∷ octets) = encode_lower (octet ∷ octets)

-- Returns what was decoded, if it has 1 to 4,096 octets.
abbrev pub if_sized : Result (List ℕ) FromHexError → Option (List ℕ)
if_sized (Ok octets) =
    if nat_le 1 (length octets) && nat_le (length octets) max_datagram then Some octets else None
if_sized (Err _) = None

-- Returns the datagram that a text spells, in digits of either case, if it spells one.
unfoldable pub datagram_of : List ℕ → Option (List ℕ)
datagram_of text = if bytes_eq text no_octets then Some [] else if_sized (decode_of text)

-- States that the text spells this datagram: a dash for the empty one, or the digits of 1 to 4,096
-- octets.
abbrev pub IsDatagramText : List ℕ → List ℕ → Type 0
IsDatagramText text octets =
    ((text ≡ no_octets) × (octets ≡ []))
    ⊎ ((decode_of text ≡ Ok octets) × (1 ≤ length octets) × (length octets ≤ max_datagram))
