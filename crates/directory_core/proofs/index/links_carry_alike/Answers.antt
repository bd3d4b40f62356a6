use Rattle.std.proofs.Common.{refl, sym, ap, ◌∙◌, subst}
use Rattle.directory_core.specs.LinksAgainst.{AreAfter}
use Rattle.directory_core.specs.declared.links_after.LinksAfter.{LinksAfter}
use Rattle.directory_core.proofs.IndexLaws.{carried}
use Rattle.directory_core.proofs.index.links_carry_alike.Goals as goal

pub returns-in-Kept : goal.returns-in-Kept
returns-in-Kept c =
    let same = subst (λ (l : LinksAfter). AreAfter l c.args.old.now.items c.args.new.now.items)
    c.in-Kept.is c.requires in
    (λ _. ap carried (sym same), λ _. refl)

pub returns-in-Replaced : goal.returns-in-Replaced
returns-in-Replaced c = (
  λ same. sym (ap carried c.links.ensures)
      ∙ (c.carry_alike.ensures.0 same ∙ ap carried c.links-in-Replaced.ensures),
  λ same. c.carry_alike.ensures.1
      (ap carried c.links.ensures ∙ (same ∙ sym (ap carried c.links-in-Replaced.ensures))),
)
