use Rattle.std.proofs.Common.{◌∙◌, ap, sym, option_map, codes}
use Rattle.std.specs.Net.Text.{ipv6_text}
use Rattle.rd_base.specs.Prefixes.{after_prefix}
use Rattle.rd_base.specs.Bases.{host_text}
use Rattle.rd_base.proofs.PrefixLemmas.{no_first, no_second, after_three}
use Rattle.rd_base.proofs.peer_spelling.after_host.Goals as goal

pub returns-in_err-rest-in-V6 : goal.returns-in_err-rest-in-V6
returns-in_err-rest-in-V6 c =
    ap (option_map (λ b. b.now)) c.from_residual.ensures
    ∙ no_first (codes "[") (ipv6_text c.in-V6.groups) (codes "]") _ c.in_err-rest-in-V6.ensures
    ∙ sym (ap (λ h. after_prefix (host_text h) c.args.text.now) c.in-V6.is)

pub returns-in_err-rest-in-V6-2 : goal.returns-in_err-rest-in-V6-2
returns-in_err-rest-in-V6-2 c =
    ap (option_map (λ b. b.now)) c.from_residual-in_err-rest-in-V6-2.ensures
    ∙ no_second (codes "[") (ipv6_text c.in-V6.groups) (codes "]") _ _ c.in_ok-rest-in-V6.ensures
    c.in_err-rest-in-V6-2.ensures
    ∙ sym (ap (λ h. after_prefix (host_text h) c.args.text.now) c.in-V6.is)

pub returns-in_ok-rest-in-V6-2 : goal.returns-in_ok-rest-in-V6-2
returns-in_ok-rest-in-V6-2 c =
    c.after_prefix-in-V6.ensures
    ∙ after_three (codes "[") (ipv6_text c.in-V6.groups) (codes "]") _ _ _
    c.in_ok-rest-in-V6.ensures c.in_ok-rest-in-V6-2.ensures
    ∙ sym (ap (λ h. after_prefix (host_text h) c.args.text.now) c.in-V6.is)
