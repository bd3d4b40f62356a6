use Rattle.std.proofs.Common.{◌≡◌, List, ℕ, sym, ◌∙◌, subst}
use Rattle.std.specs.Prelude.{IsUtf8}
use Rattle.rd_base.specs.LinkLines.{submitted}
use Rattle.registration.proofs.SourceLaws.{same_octets}
use Rattle.directory_core.specs.LinksAgainst.{AreAgainst}
use Rattle.directory_core.proofs.AgainstLaws.{links_of_source}
use Rattle.directory_core.proofs.links_after.links_after.Goals as goal

pub returns : goal.returns
returns c =
    let old = c.args.old.now in
    let draft = c.args.draft.now in
    let base : old.base ≡ draft.base =
    same_octets old.base draft.base c.ne.result c.ne.ensures c.if-ne.false in
    let before : c.as_bytes.result.now ≡ submitted old.items =
    c.as_bytes.ensures.value ∙ c.source.ensures in
    let after : c.as_bytes-2.result.now ≡ submitted draft.items =
    c.as_bytes-2.ensures.value ∙ c.source-2.ensures in
    let same : submitted old.items ≡ submitted draft.items =
    sym before
    ∙ same_octets c.as_bytes.result.now c.as_bytes-2.result.now c.ne-2.result c.ne-2.ensures
    c.if-ne-2.false
    ∙ after in
    links_of_source old.base old.items draft.items c.requires.old.against
    (subst (λ (b : List ℕ). AreAgainst b draft.items) (sym base) c.requires.draft.against)
    c.requires.old.links c.requires.draft.of_body (subst IsUtf8 before c.as_bytes.ensures.utf8)
    (subst IsUtf8 after c.as_bytes-2.ensures.utf8) same
