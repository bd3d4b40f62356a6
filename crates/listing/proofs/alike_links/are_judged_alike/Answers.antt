use Rattle.std.proofs.Common.{List, Bool, subst, sym, ◌∙◌, arith}
use Rattle.listing.specs.JudgedEndpoints.{AreJudged}
use Rattle.listing.proofs.AlikeLaws.{answers_same, judged_alike}
use Rattle.listing.proofs.alike_links.are_judged_alike.Goals as goal

pub returns-then-criteria-old_judged : goal.returns-then-criteria-old_judged
returns-then-criteria-old_judged c same r s first second =
    judged_alike r s c.args.criteria.now c.args.old_judged.now
    (omega (arith, c.if-criteria-old_judged.true)) first
    (subst (λ (judged : List Bool). AreJudged s judged c.args.criteria.now)
    (sym (answers_same c.args.old_judged.now c.args.new_judged.now
    (sym c.eq.ensures ∙ same))) second)
