-- The peer that a text names, by what the standard library parses of it.
use Rattle.std.proofs.Common.{
  ◌≡◌,
  ◌↔◌,
  ℕ,
  List,
  [],
  ◌++◌,
  Option,
  Some,
  None,
  Result,
  Ok,
  ok_or,
  refl,
  sym,
  ap,
  subst,
  ◌∙◌,
  append-nil,
  append_assoc,
  codes,
  decimal,
}
use Rattle.std.specs.Net.Addr.{ipv4_octets, ipv6_segments}
use Rattle.std.specs.Net.Socket.{v4_ip, v4_port, v6_ip, v6_port}
use Rattle.std.specs.Net.Grammar.{IsSocketV4Text, IsSocketV6Text}
use Rattle.std.specs.Net.Reader.{read_socket_v4, read_socket_v6, whole_value}
use Rattle.std.specs.Net.Text.{ipv4_text, socket_text}
use Rattle.std.specs.declared.net.socket_addr.SocketAddrV4.{SocketAddrV4}
use Rattle.std.specs.declared.net.socket_addr.SocketAddrV6.{SocketAddrV6}
use Rattle.std.proofs.NetLemmas.Sockets.{
  read_socket_v4_complete,
  read_socket_v4_sound,
  read_socket_v6_complete,
  read_socket_v6_sound,
}
use Rattle.rd_base.specs.declared.peers.Host.{Host}
use Rattle.rd_base.specs.declared.peers.Host.TheVariants as host
use Rattle.rd_base.specs.declared.peers.Peer.{Peer}
use Rattle.rd_base.specs.Peers.{socket_of, peer_text, named, named_peer, peer_of, IsPeerText}
use Rattle.rd_base.specs.Bases.{host_text}
use Rattle.rd_base.proofs.PeerTexts.{v4_of}
use Rattle.rd_base.proofs.PeerBounds.{whole_read, peer_of-IsPeerText}

no_value : {A : Type 0} (o : Option A) → ((x : A) → o ≡ Some x → ⊥) → o ≡ None
no_value None h = refl
no_value (Some x) h = absurd (h x refl)

v4_unread : (text : List ℕ)
    → ((a : SocketAddrV4) → ¬ (IsSocketV4Text text a))
    → whole_value (read_socket_v4 text) ≡ None
v4_unread text none = no_value (whole_value (read_socket_v4 text)) λ v e.
    let a = v4_of v.0 v.1 in
    let (front, split, spelled) =
    read_socket_v4_sound text [] a (whole_read (read_socket_v4 text) v e) in
    none a (subst (λ t. IsSocketV4Text t a) (sym (split ∙ append-nil front)) spelled)

v6_unread : (text : List ℕ)
    → ((a : SocketAddrV6) → ¬ (IsSocketV6Text text a))
    → whole_value (read_socket_v6 text) ≡ None
v6_unread text none = no_value (whole_value (read_socket_v6 text)) λ v e.
    let a : SocketAddrV6 = record {
      ip = record { segments = v.0 };
      port = v.1;
      flowinfo = v.2;
      scope_id = v.3;
    } in
    let (front, split, spelled) =
    read_socket_v6_sound text [] a (whole_read (read_socket_v6 text) v e) in
    none a (subst (λ t. IsSocketV6Text t a) (sym (split ∙ append-nil front)) spelled)

module _ (text : List ℕ) where
  -- an IPv4 socket address
  pub names_v4 : (a : SocketAddrV4)
      → IsSocketV4Text text a
      → Some (record { host = host.V4 (ipv4_octets (v4_ip a)); port = v4_port a }) ≡ named_peer text
  unfolding named_peer
  names_v4 a h =
      sym (ap (λ r. named (whole_value r) (whole_value (read_socket_v6 text)))
      (read_socket_v4_complete text a h))

  -- an IPv6 socket address, where there is no IPv4 one
  pub names_v6 : (a : SocketAddrV6)
      → ((b : SocketAddrV4) → ¬ (IsSocketV4Text text b))
      → IsSocketV6Text text a
      → Some (record { host = host.V6 (ipv6_segments (v6_ip a)); port = v6_port a })
      ≡ named_peer text
  unfolding named_peer
  names_v6 a none h =
      sym (ap (λ o. named o (whole_value (read_socket_v6 text))) (v4_unread text none)
      ∙ ap (λ r. named None (whole_value r)) (read_socket_v6_complete text a h))

  -- and neither
  pub names_none : ((b : SocketAddrV4) → ¬ (IsSocketV4Text text b))
      → ((a : SocketAddrV6) → ¬ (IsSocketV6Text text a))
      → None ≡ named_peer text
  unfolding named_peer
  names_none none no_other =
      sym (ap (λ o. named o (whole_value (read_socket_v6 text))) (v4_unread text none)
      ∙ ap (λ o. named None o) (v6_unread text no_other))

-- a peer is printed as its address, a colon and its port
host_and_port : (h : Host) (port : ℕ)
    → socket_text (socket_of h port) ≡ host_text h ++ (codes ":" ++ decimal port)
host_and_port (host.V4 octets) port = append_assoc (ipv4_text octets) (codes ":") (decimal port)
host_and_port (host.V6 groups) port = simp append_assoc

pub peer_text_parts : (peer : Peer)
    → peer_text peer ≡ host_text peer.host ++ (codes ":" ++ decimal peer.port)
unfolding peer_text
peer_text_parts peer = host_and_port peer.host peer.port

ok_there : {E : Type 0} (o : Option Peer) (e : E) (peer : Peer)
    → ok_or o e ≡ Ok peer
    → o ≡ Some peer
ok_there (Some p) e peer h = cc h
ok_there None e peer h = cc h

-- what is read is what is printed
pub read_printed : {E : Type 0} (text : List ℕ) (e : E) (r : Result Peer E)
    → r ≡ ok_or (peer_of text) e
    → (peer : Peer)
    → (r ≡ Ok peer) ↔ IsPeerText text peer
read_printed text e r read peer = (
  λ h. (peer_of-IsPeerText text peer).0 (ok_there (peer_of text) e peer (sym read ∙ h)),
  λ h. read ∙ ap (λ o. ok_or o e) ((peer_of-IsPeerText text peer).1 h),
)
