use Rattle.std.proofs.Common.{◌≡◌, sym, ap, ◌∙◌, subst, arith}
use Rattle.rd_base.specs.declared.records.Record.{Record}
use Rattle.record_model.specs.ListingLines.{weight}
use Rattle.registration.specs.Drafts.{recorded}
use Rattle.registration.specs.Weights.{capped}
use Rattle.directory_core.specs.LinksAgainst.{AreAfter}
use Rattle.directory_core.proofs.RenewLaws.{weight_alike}
use Rattle.directory_core.proofs.renewed.weight_after.Goals as goal

pub is_shown_alike-requires : goal.is_shown_alike-requires
is_shown_alike-requires c =
    subst (λ (r : Record). AreAfter c.args.links r.items c.args.draft.now.items)
    (sym c.as_record-before.ensures) c.requires.links

pub returns-then-is_shown_alike : goal.returns-then-is_shown_alike
returns-then-is_shown_alike c granted =
    let old = c.args.old.now in
    let draft = c.args.draft.now in
    let before : c.as_record-before.result.now ≡ old = c.as_record-before.ensures in
    let alike = c.is_shown_alike.ensures c.if-is_shown_alike.true in
    let same : weight (recorded old.number granted draft) ≡ weight old =
    weight_alike old granted draft c.requires.named
    (alike.0 ∙ ap (λ (r : Record). r.base) before)
    (alike.1 ∙ ap (λ (r : Record). r.attrs) before)
    (alike.2 ∙ ap (λ (r : Record). r.items) before) in
    omega (arith, same, c.octets.ensures)

pub returns : goal.returns
returns c granted =
    c.weight.ensures granted
    ∙ ap (λ (r : Record). capped (weight (recorded r.number granted c.args.draft.now)))
    c.as_record-before.ensures
