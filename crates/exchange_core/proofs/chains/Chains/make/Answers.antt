use Rattle.std.proofs.Common.{◌≡◌, ◌<◌, ap, sym, ◌∙◌, length, get_or, arith}
use Rattle.std.proofs.lemmas.List.{get_or-replicate}
use Rattle.exchange_core.proofs.chains.Chains.make.Goals as goal

pub returns-clause-none : goal.returns-clause-none
returns-clause-none c i within =
    let long = c.in_ok-latest.ensures.len in
    let ok = c.in_ok-latest.latest.ok in
    let below : i < 8192 = omega (arith, within, long, ok) in
    ap (λ ns. get_or ns i 0) (c.in_ok-latest.ensures.items_if_clones_equal (λ y same. same))
    ∙ get_or-replicate 8192 i 0 0 below
