use Rattle.std.proofs.Common.{ap, ◌∙◌, option_map}
use Rattle.rd_base.proofs.GroupLemmas.{further_no_colon, further_no_group, further_goes}
use Rattle.rd_base.proofs.addresses.+after_further_groups.Goals as goal

pub returns-in_err-rest : goal.returns-in_err-rest
returns-in_err-rest t c =
    ap (option_map (λ b. b.now)) c.from_residual.ensures
    ∙ further_no_colon _ _ _ _ c.in-Some.ensures.cases.0 c.in_err-rest.ensures

pub returns-in_err-rest-2 : goal.returns-in_err-rest-2
returns-in_err-rest-2 t c =
    ap (option_map (λ b. b.now)) c.from_residual-in_err-rest-2.ensures
    ∙ further_no_group _ _ _ _ c.in-Some.ensures.cases.0 _ c.in_ok-rest.ensures
    c.in_err-rest-2.ensures

pub returns : goal.returns
returns t c =
    c.after_further_groups.ensures
    ∙ further_goes _ _ _ _ c.in-Some.ensures.cases.0 _ _ c.in_ok-rest.ensures c.in_ok-rest-2.ensures
