-- What is read as a peer is a peer: its numbers fit.
use Rattle.std.proofs.Common.{
  ◌≡◌,
  ◌↔◌,
  ℕ,
  zero,
  suc,
  ◌+◌,
  ◌-◌,
  ◌*◌,
  ◌≤◌,
  ◌<◌,
  ◌^◌,
  ◌==◌,
  inl,
  inr,
  lit<,
  Bool,
  true,
  false,
  List,
  [],
  ◌∷◌,
  ◌++◌,
  length,
  replicate,
  slice_index,
  Option,
  Some,
  None,
  refl,
  sym,
  ap,
  subst,
  ◌∙◌,
  arith,
  length-append,
}
use Rattle.std.proofs.lemmas.List.{length-replicate}
use Rattle.std.specs.Str.Parse.{digits_value}
use Rattle.std.proofs.lemmas.Int.Digits.{digits_value-lt}
use Rattle.std.proofs.lemmas.Bool.{ne_eqb}
use Rattle.std.proofs.lemmas.Option.{option_and_then_some, none-some, same_Some}
use Rattle.std.specs.Net.Addr.{segments_of}
use Rattle.std.specs.Net.Grammar.{IsDotted, IsGroup, IsGroupsAfter, IsColonHex}
use Rattle.std.specs.Net.Reader.{read_socket_v4, read_socket_v6, whole_value}
use Rattle.std.proofs.NetLemmas.Texts.{AllSegments}
use Rattle.std.proofs.NetLemmas.Sockets.{read_socket_v4_sound, read_socket_v6_sound}
use Rattle.rd_base.specs.declared.peers.Host.TheVariants as host
use Rattle.rd_base.specs.declared.peers.Peer.{Peer}
use Rattle.rd_base.specs.Peers.{IsHost, IsPeer, IsPeerText, named_peer, named, if_printed, peer_of}
use Rattle.rd_base.proofs.PeerTexts.{v4_of, peer_of-found, peer_of-peer_text}
use Rattle.rd_base.proofs.lemmas.Choices.{let_through, chosen_false}

-- every group is of 16 bits
and_more : (s : ℕ) (rest : List ℕ) → s < 2 ^ 16 → AllSegments rest → AllSegments (s ∷ rest)
and_more s rest h k zero = h
and_more s rest h k (suc i) = k i

none_there : AllSegments []
none_there k = lit< tt

both : (xs ys : List ℕ) → AllSegments xs → AllSegments ys → AllSegments (xs ++ ys)
both [] ys h k = k
both (x ∷ xs) ys h k = and_more x (xs ++ ys) (h 0) (both xs ys (λ i. h (suc i)) k)

zeros : (n : ℕ) → AllSegments (replicate n 0)
zeros zero = none_there
zeros (suc n) = and_more 0 (replicate n 0) (omega arith) (zeros n)

-- a group of at most four digits is below 2 ^ 16
four_digits : (n len value : ℕ) → value < 16 ^ len → len ≤ 4 → n ≡ value → n < 2 ^ 16
four_digits n zero value h k e = omega (arith, h, e)
four_digits n (suc zero) value h k e = omega (arith, h, e)
four_digits n (suc (suc zero)) value h k e = omega (arith, h, e)
four_digits n (suc (suc (suc zero))) value h k e = omega (arith, h, e)
four_digits n (suc (suc (suc (suc zero)))) value h k e = omega (arith, h, e)
four_digits n (suc (suc (suc (suc (suc len))))) value h k e = absurd (omega (arith, k))

group_fits : (text : List ℕ) (s : ℕ) → IsGroup text s → s < 2 ^ 16
group_fits text s h =
    four_digits s (length text) (digits_value 16 text) (digits_value-lt 16 text h.0.0.1) h.1
    (sym h.0.1)

-- an IPv4 address as two groups
two_groups : (text octets : List ℕ) → IsDotted text octets → AllSegments (segments_of octets)
two_groups text octets h =
    let (fa, fb, fc, fd) = h.fit in
    rw h.value (and_more (h.a * 256 + h.b) ((h.c * 256 + h.d) ∷ []) (omega arith)
    (and_more (h.c * 256 + h.d) [] (omega arith) none_there))

groups_fit : (ipv4 : Bool) (lead text segments : List ℕ)
    → IsGroupsAfter ipv4 lead text segments
    → AllSegments segments
groups_fit ipv4 lead text [] h = none_there
groups_fit ipv4 lead text (s ∷ segments) (inl h) =
    let (group, rest, split, is_group, more) = h in
    and_more s segments (group_fits group s is_group) (groups_fit ipv4 (58 ∷ []) rest segments more)
groups_fit ipv4 lead text (s ∷ segments) (inr h) =
    let (last, octets, allowed, split, dotted, same) = h in
    subst AllSegments (sym same) (two_groups last octets dotted)

colon_hex_fits : (text segments : List ℕ)
    → IsColonHex text segments
    → (length segments ≡ 8) × AllSegments segments
colon_hex_fits text segments (inl h) = (h.1, groups_fit true [] text segments h.0)
colon_hex_fits text segments (inr h) =
    let zeroes = replicate (8 - length h.head - length h.tail) 0 in
    let all =
    both (h.head ++ zeroes) h.tail
    (both h.head zeroes (groups_fit false [] h.head_text h.head h.head_groups) (zeros _))
    (groups_fit true [] h.tail_text h.tail h.tail_groups) in
    let room = h.room in (
      ap (λ (xs : List ℕ). length xs) h.value
          ∙ omega (
            arith,
            room,
            length-append (h.head ++ zeroes) h.tail,
            length-append h.head zeroes,
            length-replicate {A = ℕ} (8 - length h.head - length h.tail) 0,
          ),
      subst AllSegments (sym h.value) all,
    )

four_fit : (a b c d : ℕ)
    → a < 256
    → b < 256
    → c < 256
    → d < 256
    → (k : ℕ)
    → slice_index (a ∷ b ∷ c ∷ d ∷ []) k < 2 ^ 8
four_fit a b c d ha hb hc hd zero = ha
four_fit a b c d ha hb hc hd (suc zero) = hb
four_fit a b c d ha hb hc hd (suc (suc zero)) = hc
four_fit a b c d ha hb hc hd (suc (suc (suc zero))) = hd
four_fit a b c d ha hb hc hd (suc (suc (suc (suc k)))) = lit< tt

-- four octets fit
dotted_fits : (text octets : List ℕ) → IsDotted text octets → IsHost (host.V4 octets)
dotted_fits text octets h =
    let (fa, fb, fc, fd) = h.fit in (
      ap (λ (xs : List ℕ). length xs) h.value,
      subst (λ xs. (k : ℕ) → slice_index xs k < 2 ^ 8)
          (sym h.value) (four_fit h.a h.b h.c h.d fa fb fc fd),
    )

-- what is read whole leaves nothing
pub whole_read : {A : Type 0} (r : Option (A × List ℕ)) (x : A)
    → whole_value r ≡ Some x
    → r ≡ Some (x, [])
whole_read None x e = absurd (none-some x e)
whole_read (Some (y, [])) x e = ap (λ z. Some (z, [])) (same_Some y x e)
whole_read (Some (y, b ∷ rest)) x e =
    absurd (none-some x (sym (chosen_false (suc (length rest) == 0) (Some y) None
    (ne_eqb (suc (length rest)) 0 (λ z. omega (arith, z))))
    ∙ e))

-- a host and a port that are read fit
v4_fits : (text : List ℕ) (v : List ℕ × ℕ)
    → whole_value (read_socket_v4 text) ≡ Some v
    → IsHost (host.V4 v.0) × (v.1 < 2 ^ 16)
v4_fits text v e =
    let (front, split, spelled) =
    read_socket_v4_sound text [] (v4_of v.0 v.1) (whole_read (read_socket_v4 text) v e) in
    let (ip, port, both_texts, is_ip, is_port) = spelled in
    (dotted_fits ip v.0 is_ip, is_port.3)

v6_fits : (text : List ℕ) (v : List ℕ × ℕ × ℕ × ℕ)
    → whole_value (read_socket_v6 text) ≡ Some v
    → IsHost (host.V6 v.0) × (v.1 < 2 ^ 16)
v6_fits text v e =
    let (front, split, spelled) =
    read_socket_v6_sound text []
    (record { ip = record { segments = v.0 }; port = v.1; flowinfo = v.2; scope_id = v.3 })
    (whole_read (read_socket_v6 text) v e) in
    (colon_hex_fits spelled.ip v.0 spelled.ip_text, spelled.port_text.3)

named_fits : (text : List ℕ) (v4 : Option (List ℕ × ℕ)) (v6 : Option (List ℕ × ℕ × ℕ × ℕ))
    (peer : Peer)
    → whole_value (read_socket_v4 text) ≡ v4
    → whole_value (read_socket_v6 text) ≡ v6
    → named v4 v6 ≡ Some peer
    → IsHost peer.host × (peer.port < 2 ^ 16)
named_fits text (Some v) v6 peer e4 e6 e =
    subst (λ p. IsHost p.host × (p.port < 2 ^ 16)) (same_Some _ peer e) (v4_fits text v e4)
named_fits text None (Some v) peer e4 e6 e =
    subst (λ p. IsHost p.host × (p.port < 2 ^ 16)) (same_Some _ peer e) (v6_fits text v e6)
named_fits text None None peer e4 e6 e = absurd (none-some peer e)

-- what is read as a peer is one
pub peer_of-IsPeer : (text : List ℕ) (peer : Peer) → peer_of text ≡ Some peer → IsPeer peer
unfolding peer_of named_peer
peer_of-IsPeer text peer e =
    option_and_then_some (if_printed text) (named_peer text) peer e λ p read shown.
    let (test, same) = let_through _ p peer shown in
    let (fits, small) = named_fits text _ _ p refl refl read in
    let low = (peer_of-found text peer e).1 in
    record {
      host = subst (λ q. IsHost q.host) same fits;
      port_low = low;
      port_high = subst (λ q. q.port < 2 ^ 16) same small;
    }

-- a text is read as a peer exactly where it prints that peer
pub peer_of-IsPeerText : (text : List ℕ) (peer : Peer)
    → (peer_of text ≡ Some peer) ↔ IsPeerText text peer
peer_of-IsPeerText text peer = (
  λ e. record { fits = peer_of-IsPeer text peer e; printed = (peer_of-found text peer e).0 },
  λ h. ap (λ t. peer_of t) h.printed ∙ peer_of-peer_text peer h.fits,
)
