use Rattle.std.proofs.Common.{◌∙◌, ap, Some}
use Rattle.std.specs.Net.Addr.{ipv4_octets, ipv6_segments}
use Rattle.rd_base.specs.declared.peers.Host.TheVariants as host
use Rattle.rd_base.proofs.PeerNames.{names_v4, names_v6, names_none}
use Rattle.rd_base.proofs.peer_spelling.named_peer.Goals as goal

pub returns-in-Ok : goal.returns-in-Ok
returns-in-Ok c =
    let octets = c.octets.ensures ∙ ap ipv4_octets c.ip.ensures in
    ap (λ o. Some (record { host = host.V4 o; port = c.port.result })) octets
    ∙ ap (λ p. Some (record { host = host.V4 (ipv4_octets c.in-Ok.address.ip); port = p }))
    c.port.ensures
    ∙ names_v4 _ _ c.in-Ok.ensures

pub returns-in-Ok-parse_ascii : goal.returns-in-Ok-parse_ascii
returns-in-Ok-parse_ascii c =
    let groups = c.segments.ensures ∙ ap ipv6_segments c.ip-in-Ok-parse_ascii.ensures in
    ap (λ g. Some (record { host = host.V6 g; port = c.port-in-Ok-parse_ascii.result })) groups
    ∙ ap (λ p.
    Some (record
    { host = host.V6 (ipv6_segments c.in-Ok-parse_ascii.address.ip); port = p }))
    c.port-in-Ok-parse_ascii.ensures
    ∙ names_v6 _ _ c.in_default.ensures c.in-Ok-parse_ascii.ensures

pub returns : goal.returns
returns c = names_none _ c.in_default.ensures c.in_default-parse_ascii.ensures
