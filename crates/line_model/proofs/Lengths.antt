-- A printed line is not too long.
use Rattle.std.proofs.Common.{
  ℕ,
  ◌+◌,
  ◌*◌,
  ◌/◌,
  ◌%◌,
  ◌≤◌,
  ◌<◌,
  ◌^◌,
  List,
  [],
  ◌∷◌,
  ◌++◌,
  length,
  codes,
  take,
  drop,
  flat_map,
  decimal,
  slice_index,
  bytes_eq,
  arith,
  length-append,
  length-drop,
  length-take,
  nat_lt,
}
use Rattle.std.proofs.lemmas.Bool.{cond_both}
use Rattle.std.proofs.lemmas.Fmt.{length-decimal-le}
use Rattle.std.specs.Char.{digit_char}
use Rattle.std.specs.Net.Addr.{octets_of}
use Rattle.std.specs.Net.Text.{
  hex,
  groups_text,
  compressed_text,
  longest_zero_run,
  leading_zero_digits,
  hex_groups_text,
  ipv4_text,
  ipv6_text,
  socket_text,
}
use Rattle.std.proofs.NetLemmas.Texts.{AllSegments, AllSegments-drop}
use Rattle.hex.specs.Hex.{lower_digits}
use Rattle.hex.proofs.HexLemmas.{length-encode_with}
use Rattle.rd_base.specs.declared.peers.Host.{Host}
use Rattle.rd_base.specs.declared.peers.Host.TheVariants as host
use Rattle.rd_base.specs.declared.peers.Peer.{Peer}
use Rattle.rd_base.specs.Peers.{IsHost, IsPeer, socket_of, peer_text}
use Rattle.line_model.proofs.Spaces.{octets_fit}
use Rattle.line_model.specs.Datagrams.{max_datagram, datagram_text}

-- a group has at most four digits
length-hex : (n : ℕ) → length (hex n) ≤ 4
unfolding hex
length-hex n =
    omega (
      arith,
      length-drop (leading_zero_digits n) (digit_char (n / 0x1000)
          ∷ digit_char (n / 0x100 % 16)
          ∷ digit_char (n / 0x10 % 16)
          ∷ digit_char (n % 16)
          ∷ []),
    )

length_more : (groups : List ℕ) → length (flat_map (λ t. 58 ∷ hex t) groups) ≤ 5 * length groups
length_more [] = omega arith
length_more (g ∷ groups) =
    omega (
      arith,
      length-append (58 ∷ hex g) (flat_map (λ t. 58 ∷ hex t) groups),
      length-hex g,
      length_more groups,
    )

length-groups_text : (groups : List ℕ) → length (groups_text groups) ≤ 5 * length groups
length-groups_text [] = omega arith
length-groups_text (g ∷ groups) =
    omega (
      arith,
      length-append (hex g) (flat_map (λ t. 58 ∷ hex t) groups),
      length-hex g,
      length_more
          groups,
    )

length-compressed_text : (groups : List ℕ) (run : ℕ × ℕ)
    → length groups ≤ 8
    → length (compressed_text groups run) ≤ 82
length-compressed_text groups run eight =
    let front = take run.0 groups in
    let back = drop (run.0 + run.1) groups in
    let len_front : length (groups_text front) ≤ 40 =
    omega (arith, length-groups_text front, length-take run.0 groups) in
    let len_back : length (groups_text back) ≤ 40 =
    omega (arith, length-groups_text back, length-drop (run.0 + run.1) groups) in
    let len_first : length (groups_text front ++ codes "::") ≤ 42 =
    omega (arith, len_front, length-append (groups_text front) (codes "::")) in
    cond_both (nat_lt 1 run.1) (groups_text front ++ codes "::" ++ groups_text back)
    (groups_text groups) (λ t. length t ≤ 82)
    (λ _. omega (
      arith,
      len_first,
      len_back,
      length-append (groups_text front ++ codes "::")
          (groups_text back),
    ))
    (λ _. omega (arith, length-groups_text groups))

-- an octet has at most three digits
length-octet : (n : ℕ) → n < 2 ^ 8 → length (decimal n) ≤ 3
length-octet n h = length-decimal-le 3 n (omega arith) (omega arith) (omega arith)

joined_lengths : (a b c d : List ℕ)
    → length a ≤ 3
    → length b ≤ 3
    → length c ≤ 3
    → length d ≤ 3
    → length (a ++ codes "." ++ b ++ codes "." ++ c ++ codes "." ++ d) ≤ 15
joined_lengths a b c d ha hb hc hd =
    let ab = a ++ codes "." ++ b in
    let abc = ab ++ codes "." ++ c in
    omega (
      arith,
      length-append (abc ++ codes ".") d,
      length-append abc (codes "."),
      length-append
          (ab ++ codes ".") c,
      length-append ab (codes "."),
      length-append (a ++ codes ".") b,
      length-append a (codes "."),
    )

length-ipv4_text : (octets : List ℕ)
    → ((k : ℕ) → slice_index octets k < 2 ^ 8)
    → length (ipv4_text octets) ≤ 15
length-ipv4_text octets fits =
    joined_lengths _ _ _ _ (length-octet _ (fits 0)) (length-octet _ (fits 1))
    (length-octet _ (fits 2)) (length-octet _ (fits 3))

length-ipv6_text : (groups : List ℕ)
    → length groups ≤ 8
    → AllSegments groups
    → length (ipv6_text groups) ≤ 82
unfolding ipv6_text hex_groups_text
length-ipv6_text groups eight fits =
    let tail = octets_of (drop 6 groups) in
    cond_both (bytes_eq (take 6 groups) (0 ∷ 0 ∷ 0 ∷ 0 ∷ 0 ∷ 0xffff ∷ []))
    (codes "::ffff:" ++ ipv4_text tail) (hex_groups_text groups) (λ t. length t ≤ 82)
    (λ _. omega (
      arith,
      length-append (codes "::ffff:") (ipv4_text tail),
      length-ipv4_text tail
          (octets_fit (drop 6 groups) (AllSegments-drop 6 groups fits)),
    ))
    (λ _. length-compressed_text groups (longest_zero_run groups) eight)

-- a port has at most five digits
length-port : (n : ℕ) → n < 2 ^ 16 → length (decimal n) ≤ 5
length-port n h = length-decimal-le 5 n (omega arith) (omega arith) (omega arith)

length-host : (h : Host) (port : ℕ)
    → IsHost h
    → port < 2 ^ 16
    → length (socket_text (socket_of h port)) ≤ 100
length-host (host.V4 octets) port fits small =
    omega (
      arith,
      length-append (ipv4_text octets ++ codes ":") (decimal port),
      length-append
          (ipv4_text octets) (codes ":"),
      length-ipv4_text octets fits.1,
      length-port port small,
    )
length-host (host.V6 groups) port fits small =
    omega (
      arith,
      length-append (codes "[" ++ ipv6_text groups ++ [] ++ codes "]:") (decimal port),
      length-append (codes "[" ++ ipv6_text groups ++ []) (codes "]:"),
      length-append
          (codes "[" ++ ipv6_text groups) [],
      length-append (codes "[") (ipv6_text groups),
      length-ipv6_text groups (omega (arith, fits.0)) fits.1,
      length-port port small,
    )

-- a peer has at most 100 bytes
pub length-peer_text : (peer : Peer) → IsPeer peer → length (peer_text peer) ≤ 100
unfolding peer_text
length-peer_text peer fits = length-host peer.host peer.port fits.host fits.port_high

-- a datagram has two digits an octet, or a dash
pub length-datagram_text : (octets : List ℕ)
    → length octets ≤ max_datagram
    → length (datagram_text octets) ≤ 2 * max_datagram
length-datagram_text [] h = omega arith
length-datagram_text (octet ∷ octets) h =
    omega (arith, length-encode_with lower_digits (octet ∷ octets))
