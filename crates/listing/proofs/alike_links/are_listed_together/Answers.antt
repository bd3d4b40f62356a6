use Rattle.std.proofs.Common.{List, subst, sym}
use Rattle.rd_base.specs.declared.queries.Criterion.{Criterion}
use Rattle.listing.specs.AlikeLinks.{AreJudgedAlike}
use Rattle.listing.specs.JudgedEndpoints.{AreJudged}
use Rattle.listing.proofs.AlikeLaws.{listed-agree}
use Rattle.listing.proofs.alike_links.are_listed_together.Goals as goal

pub returns : goal.returns
returns c r s old new =
    let first = subst (AreJudged r c.args.old_judged.now) (sym c.as_slice.ensures) old in
    let second = subst (AreJudged s c.args.new_judged.now) (sym c.as_slice.ensures) new in
    listed-agree c.are_judged_alike.result c.args.query.now r s
    (λ same. subst (λ (cs : List Criterion). AreJudgedAlike cs r s) c.as_slice.ensures
    (c.are_judged_alike.ensures same r s first second))
