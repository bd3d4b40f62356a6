use Rattle.std.proofs.Common.{◌≡◌, sym, ◌∙◌, subst}
use Rattle.std.specs.Prelude.{IsUtf8}
use Rattle.rd_base.specs.LinkLines.{submitted}
use Rattle.registration.proofs.SourceLaws.{same_octets, source_again}
use Rattle.registration.proofs.drafts.shared.Goals as goal

pub returns : goal.returns
returns c =
    let stored = c.args.stored.now in
    let source : c.as_bytes.result.now ≡ submitted stored.items =
    c.as_bytes.ensures.value ∙ c.source.ensures in
    let base : c.args.base.now ≡ stored.base =
    sym (same_octets stored.base c.args.base.now c.ne.result c.ne.ensures c.if-ne.false) in
    let body : c.args.body.now ≡ submitted stored.items =
    sym (same_octets c.as_bytes.result.now c.args.body.now c.ne-2.result c.ne-2.ensures
    c.if-ne-2.false)
    ∙ source in
    source_again stored c.args.base.now c.args.body.now c.in_ok-items.items c.requires
    (subst IsUtf8 source c.as_bytes.ensures.utf8) base body c.in_ok-items.ensures
