use Rattle.std.proofs.Common.{ap, ◌∙◌, option_map}
use Rattle.rd_base.proofs.GroupLemmas.{groups_no_group, groups_goes}
use Rattle.rd_base.proofs.addresses.after_groups.Goals as goal

pub returns-in_err-rest : goal.returns-in_err-rest
returns-in_err-rest c =
    ap (option_map (λ b. b.now)) c.from_residual.ensures
    ∙ groups_no_group _ _ _ _ c.in-Some.ensures.cases.0 c.in_err-rest.ensures

pub returns : goal.returns
returns c =
    c.after_further_groups.ensures
    ∙ groups_goes _ _ _ _ c.in-Some.ensures.cases.0 _ c.in_ok-rest.ensures
