-- The address that a text names, by what the standard library parses of it.
use Rattle.std.proofs.Common.{◌≡◌, ℕ, List, [], Option, Some, None, refl, sym, ap, subst, ◌∙◌}
use Rattle.std.proofs.Common.{append-nil, lit≤}
use Rattle.std.specs.Net.Addr.{ipv4_octets, ipv6_segments}
use Rattle.std.specs.Net.Grammar.{IsIpv4Text, IsIpv6Text}
use Rattle.std.specs.Net.Reader.{read_ipv4, read_ipv6, whole_value}
use Rattle.std.specs.declared.net.ipv4_addr.Ipv4Addr.{Ipv4Addr}
use Rattle.std.specs.declared.net.ipv6_addr.Ipv6Addr.{Ipv6Addr}
use Rattle.std.proofs.NetLemmas.Ipv4.{read_ipv4_complete, read_ipv4_sound}
use Rattle.std.proofs.NetLemmas.Ipv6.{EndsGroups-nil, read_ipv6_complete, read_ipv6_sound}
use Rattle.rd_base.specs.declared.peers.Host.TheVariants as host
use Rattle.rd_base.proofs.PeerBounds.{whole_read}
use Rattle.hosting.specs.Networks.{host_of, named}

no_value : {A : Type 0} (o : Option A) → ((x : A) → o ≡ Some x → ⊥) → o ≡ None
no_value None h = refl
no_value (Some x) h = absurd (h x refl)

module _ (text : List ℕ) where
  v4_read : (a : Ipv4Addr) → IsIpv4Text text a
      → whole_value (read_ipv4 text) ≡ Some (ipv4_octets a)
  v4_read a h =
      ap whole_value (subst (λ (t : List ℕ). read_ipv4 t ≡ Some (ipv4_octets a, []))
      (append-nil text) (read_ipv4_complete text (ipv4_octets a) [] h (lit≤ tt)))

  v6_read : (a : Ipv6Addr) → IsIpv6Text text a
      → whole_value (read_ipv6 text) ≡ Some (ipv6_segments a)
  v6_read a h =
      ap whole_value (subst (λ (t : List ℕ). read_ipv6 t ≡ Some (ipv6_segments a, []))
      (append-nil text) (read_ipv6_complete text (ipv6_segments a) [] h EndsGroups-nil))

  v4_unread : ((a : Ipv4Addr) → ¬ (IsIpv4Text text a)) → whole_value (read_ipv4 text) ≡ None
  v4_unread none = no_value (whole_value (read_ipv4 text)) λ v e.
      let a : Ipv4Addr = record { octets = v } in
      let (front, split, spelled) =
      read_ipv4_sound text v [] (whole_read (read_ipv4 text) v e) in
      none a (subst (λ (t : List ℕ). IsIpv4Text t a) (sym (split ∙ append-nil front)) spelled)

  v6_unread : ((a : Ipv6Addr) → ¬ (IsIpv6Text text a)) → whole_value (read_ipv6 text) ≡ None
  v6_unread none = no_value (whole_value (read_ipv6 text)) λ v e.
      let a : Ipv6Addr = record { segments = v } in
      let (front, split, spelled) =
      read_ipv6_sound text v [] (whole_read (read_ipv6 text) v e) in
      none a (subst (λ (t : List ℕ). IsIpv6Text t a) (sym (split ∙ append-nil front)) spelled)

  pub names_v4 : (a : Ipv4Addr) → IsIpv4Text text a
      → Some (host.V4 (ipv4_octets a)) ≡ host_of text
  unfolding host_of
  names_v4 a h = sym (ap (λ o. named o (whole_value (read_ipv6 text))) (v4_read a h))

  pub names_v6 : (a : Ipv6Addr) → ((b : Ipv4Addr) → ¬ (IsIpv4Text text b)) → IsIpv6Text text a
      → Some (host.V6 (ipv6_segments a)) ≡ host_of text
  unfolding host_of
  names_v6 a none h =
      sym (ap (λ o. named o (whole_value (read_ipv6 text))) (v4_unread none)
      ∙ ap (λ o. named None o) (v6_read a h))

  pub names_none : ((b : Ipv4Addr) → ¬ (IsIpv4Text text b))
      → ((a : Ipv6Addr) → ¬ (IsIpv6Text text a)) → None ≡ host_of text
  unfolding host_of
  names_none none no_other =
      sym (ap (λ o. named o (whole_value (read_ipv6 text))) (v4_unread none)
      ∙ ap (λ o. named None o) (v6_unread no_other))
