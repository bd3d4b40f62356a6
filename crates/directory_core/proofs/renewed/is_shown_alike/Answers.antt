use Rattle.std.proofs.Common.{◌≡◌, sym, ◌∙◌, subst}
use Rattle.std.proofs.lemmas.Slice.Eq.{bytes_eq-Decides}
use Rattle.directory_core.specs.declared.links_after.LinksAfter.{LinksAfter}
use Rattle.directory_core.specs.LinksAgainst.{AreAfter}
use Rattle.directory_core.proofs.IndexLaws.{pairs_decided}
use Rattle.directory_core.proofs.renewed.is_shown_alike.Goals as goal

pub returns-then-eq : goal.returns-then-eq
returns-then-eq c same =
    let old = c.args.old.now in
    let draft = c.args.draft.now in
    let base : old.base ≡ draft.base =
    (bytes_eq-Decides old.base draft.base).0 (sym c.eq.ensures ∙ c.if-eq.true) in
    let attrs : old.attrs ≡ draft.attrs =
    (pairs_decided old.attrs draft.attrs c.eq-then-eq.result c.eq-then-eq.ensures).0 same in
    let items : draft.items ≡ old.items =
    subst (λ (links : LinksAfter). AreAfter links old.items draft.items) c.in-Kept.is c.requires in
    (sym base, sym attrs, items)
