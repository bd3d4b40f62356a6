use Rattle.std.proofs.Common.{ap, ◌∙◌, option_map, ◌+◌, drop, arith}
use Rattle.std.specs.Net.Text.{groups_text}
use Rattle.std.proofs.lemmas.List.{length-drop, take_all}
use Rattle.rd_base.specs.Prefixes.{after_prefix}
use Rattle.rd_base.proofs.GroupLemmas.{no_colons, after_colons}
use Rattle.rd_base.proofs.addresses.after_hex_groups.Goals as goal

pub returns-in_err-rest-2 : goal.returns-in_err-rest-2
returns-in_err-rest-2 c =
    let over = c.if-count-le1.false in
    ap (option_map (λ b. b.now)) c.from_residual-in_err-rest-2.ensures
    ∙ no_colons c.args.groups.now _ _ _ c.longest_zeros-start.ensures.value (omega (arith, over)) _
    c.in_ok-rest.ensures c.in_err-rest-2.ensures

pub returns : goal.returns
returns c =
    let over = c.if-count-le1.false in
    let place = c.longest_zeros-start.result.0 + c.longest_zeros-start.result.1 in
    c.after_groups-3.ensures
    ∙ ap (λ gs. after_prefix (groups_text gs) c.in_ok-rest-2.rest.now)
    (take_all _ (drop place c.args.groups.now)
    (omega (arith, length-drop place c.args.groups.now)))
    ∙ after_colons c.args.groups.now _ _ _ c.longest_zeros-start.ensures.value (omega (arith, over))
    _ _ c.in_ok-rest.ensures c.in_ok-rest-2.ensures
