-- The base of what a peer registers is a base.
use Rattle.std.proofs.Common.{
  ◌≡◌,
  ℕ,
  true,
  false,
  List,
  [],
  ◌∷◌,
  ◌++◌,
  decimal,
  Some,
  None,
  refl,
  sym,
  ap,
  ◌∙◌,
  append_assoc,
  append-nil,
  arith,
}
use Rattle.std.proofs.lemmas.Bool.{cond_both, or_right, true≢false}
use Rattle.std.proofs.lemmas.Bool.Decides.{nat_tests}
use Rattle.std.specs.Prelude.{codes, ◌==◌}
use Rattle.std.specs.Net.Text.{ipv4_text, ipv6_text}
use Rattle.rd_base.specs.declared.peers.Host.{Host}
use Rattle.rd_base.specs.declared.peers.Host.TheVariants as host
use Rattle.rd_base.specs.declared.peers.Peer.{Peer}
use Rattle.rd_base.specs.Peers.{IsHost}
use Rattle.rd_base.specs.Bases.{coap_port, host_text, port_text, base_of}
use Rattle.link_model.specs.Characters.{
  colon,
  at_sign,
  left_bracket,
  right_bracket,
  is_empty,
  is_name_character,
  is_literal_character,
}
use Rattle.reference_model.specs.References.{
  Components,
  before,
  after,
  from_first,
  through,
  has_octet,
  begins_with,
  host_in,
  host_of,
  recomposed,
  is_port_text,
  is_literal_and_port,
  is_name_and_port,
  is_host_and_port,
  is_authority,
}
use Rattle.record_model.specs.Parameters.{is_base}
use Rattle.reference_model.proofs.ReferenceCuts.{
  after_none,
  before-marked,
  after-marked,
  has_octet-append,
}
use Rattle.reference_model.proofs.ReferenceMarks.{no_mark_in_run}
use Rattle.reference_model.proofs.ReferenceReading.{
  before-append,
  from_first-append,
  reference_only,
}
use Rattle.record_model.proofs.Addresses.{
  Passes,
  Filled,
  text_of_run,
  decimal_passes,
  ipv4_passes,
  ipv4_filled,
  ipv6_passes,
  ipv6_filled,
}
use Rattle.reference_model.proofs.FaultHosts.{no_at_in_host}

-- ---- what stands after `coap://`

-- an authority of a host that is not empty, and a port or none
record IsHostAndPort (authority : List ℕ) : Type 0 where
  allowed : is_host_and_port authority ≡ true
  has_host : is_empty (host_in authority) ≡ false

-- the components of a base with such an authority
coap : List ℕ → Components
coap authority = record {
  scheme = Some (codes "coap");
  authority = Some authority;
  path = [];
  query = None;
  fragment = None;
}

-- such a base is a base
coap_is_base : (authority : List ℕ)
    → IsHostAndPort authority
    → is_base (codes "coap://" ++ authority) ≡ true
unfolding coap recomposed host_of is_base
coap_is_base authority h =
    let no_at = no_at_in_host authority h.allowed in
    let nothing = after_none at_sign authority no_at in
    let allowed : is_authority authority ≡ true = rw (no_at, nothing) h.allowed in
    let spelled : codes "coap://" ++ authority ≡ recomposed (coap authority) =
    ap (λ (t : List ℕ). codes "coap://" ++ t) (sym (append-nil authority)) in
    let read =
    reference_only (codes "coap://" ++ authority) (coap authority)
    (record { spelled = spelled; allowed = rw allowed refl }) in
    rw (read, nothing, h.has_host) refl

-- ---- ports

-- nothing, or a colon and digits
record IsPortPart (text : List ℕ) : Type 0 where
  front : before colon text ≡ []
  whole : from_first colon text ≡ text
  allowed : is_port_text text ≡ true

-- the port of a base is one
port_part : (port : ℕ) → IsPortPart (port_text port)
unfolding before from_first
port_part port =
    cond_both (port == coap_port) [] (codes ":" ++ decimal port) IsPortPart
    (λ _. record { front = refl; whole = refl; allowed = refl })
    (λ _. record { front = refl; whole = refl; allowed = (decimal_passes port).all })

-- ---- hosts

-- a text does not begin with a bracket where its first part has none
no_bracket_first : (name rest : List ℕ)
    → is_empty name ≡ false
    → has_octet left_bracket name ≡ false
    → begins_with left_bracket (name ++ rest) ≡ false
no_bracket_first [] rest h k = absurd (true≢false h)
no_bracket_first (c ∷ name) rest h k = grind (arith, nat_tests)

-- an IPv4 address is a name
name_and_port : (name port : List ℕ)
    → Filled name
    → Passes is_name_character name
    → IsPortPart port
    → IsHostAndPort (name ++ port)
name_and_port name port some run is_port =
    let no_colon = no_mark_in_run is_name_character colon refl name run.all in
    let front : before colon (name ++ port) ≡ name =
    before-append colon name port no_colon
    ∙ ap (λ (t : List ℕ). name ++ t) is_port.front
    ∙ append-nil name in
    let back : from_first colon (name ++ port) ≡ port =
    from_first-append colon name port no_colon ∙ is_port.whole in
    let no_bracket =
    no_bracket_first name port some.some
    (no_mark_in_run is_name_character left_bracket refl name run.all) in
    let allowed : is_name_and_port (name ++ port) ≡ true =
    rw (front, back, text_of_run is_name_character refl name run.all) is_port.allowed in
    record {
      allowed =
          or_right (is_literal_and_port (name ++ port)) (is_name_and_port (name ++ port)) allowed;
      has_host = rw (no_bracket, front) some.some;
    }

-- an IPv6 address is a literal in brackets
literal_and_port : (literal port : List ℕ)
    → Filled literal
    → Passes is_literal_character literal
    → IsPortPart port
    → IsHostAndPort ((codes "[" ++ (literal ++ codes "]")) ++ port)
unfolding through
literal_and_port literal port some run is_port =
    let no_bracket = no_mark_in_run is_literal_character right_bracket refl literal run.all in
    let flat : (literal ++ codes "]") ++ port ≡ literal ++ right_bracket ∷ port =
    append_assoc literal (codes "]") port in
    let front : before right_bracket (literal ++ right_bracket ∷ port) ≡ literal =
    before-marked right_bracket literal (Some port) no_bracket in
    let back : after right_bracket (literal ++ right_bracket ∷ port) ≡ Some port =
    after-marked right_bracket literal (Some port) no_bracket in
    let closed : has_octet right_bracket (literal ++ right_bracket ∷ port) ≡ true =
    has_octet-append right_bracket literal (right_bracket ∷ port) ∙ rw no_bracket refl in
    let allowed : is_literal_and_port ((codes "[" ++ (literal ++ codes "]")) ++ port) ≡ true =
    rw (flat, front, back, closed, some.some, run.all, is_port.allowed) refl in
    record { allowed = rw allowed refl; has_host = refl }

-- the host and the port of a peer
host_and_port : (h : Host) (port : ℕ) → IsHost h → IsHostAndPort (host_text h ++ port_text port)
host_and_port (host.V4 octets) port fits =
    name_and_port (ipv4_text octets) (port_text port) (ipv4_filled octets)
    (ipv4_passes octets fits.1) (port_part port)
host_and_port (host.V6 groups) port fits =
    literal_and_port (ipv6_text groups) (port_text port) (ipv6_filled groups fits.0)
    (ipv6_passes groups fits.1) (port_part port)

-- the base of a peer is a base
pub is_base-base_of : (peer : Peer) → IsHost peer.host → is_base (base_of peer) ≡ true
unfolding base_of
is_base-base_of peer fits =
    coap_is_base (host_text peer.host ++ port_text peer.port)
    (host_and_port peer.host peer.port fits)

-- and so is a text that is that base
pub peer_base_is_base : (peer : Peer) (base : List ℕ)
    → IsHost peer.host
    → base ≡ base_of peer
    → is_base base ≡ true
peer_base_is_base peer base fits e = ap is_base e ∙ is_base-base_of peer fits
