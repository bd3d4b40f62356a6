use Rattle.std.proofs.Common.{◌∙◌, ap, Some}
use Rattle.rd_base.specs.declared.peers.Host.TheVariants as host
use Rattle.hosting.proofs.NetworkNames.{names_v4, names_v6, names_none}
use Rattle.hosting.proofs.networks.host_read.Goals as goal

pub returns-in-Ok : goal.returns-in-Ok
returns-in-Ok c =
    ap (λ o. Some (host.V4 o)) c.octets.ensures ∙ names_v4 _ _ c.in-Ok.ensures

pub returns-in-Ok-parse_ascii : goal.returns-in-Ok-parse_ascii
returns-in-Ok-parse_ascii c =
    ap (λ g. Some (host.V6 g)) c.segments.ensures
    ∙ names_v6 _ _ c.in_default.ensures c.in-Ok-parse_ascii.ensures

pub returns : goal.returns
returns c = names_none _ c.in_default.ensures c.in_default-parse_ascii.ensures
