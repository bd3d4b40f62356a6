use Rattle.std.proofs.Common.{ap, ◌∙◌, option_map, refl}
use Rattle.rd_base.proofs.GroupLemmas.{not_mapped_text, after_mapped}
use Rattle.rd_base.proofs.addresses.after_ipv6.Goals as goal

pub returns-in_err-after_prefix-in-Some : goal.returns-in_err-after_prefix-in-Some
returns-in_err-after_prefix-in-Some c =
    ap (option_map (λ b. b.now)) c.from_residual.ensures
    ∙ not_mapped_text c.args.groups _ _ c.from.result c.from.ensures
    (c.in-Some.ensures.found.0 refl) c.in-Some.ensures.value
    c.in_err-after_prefix-in-Some.ensures

pub returns-in_ok-after_prefix-in-Some : goal.returns-in_ok-after_prefix-in-Some
returns-in_ok-after_prefix-in-Some c =
    c.after_ipv4.ensures
    ∙ after_mapped c.args.groups _ _ c.from.result c.from.ensures (c.in-Some.ensures.found.0 refl)
    (c.octets.ensures ∙ c.in-Some.ensures.value) _ c.in_ok-after_prefix-in-Some.ensures
