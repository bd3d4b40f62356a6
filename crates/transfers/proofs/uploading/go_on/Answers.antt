use Rattle.std.proofs.Common.{set, ap, sym, ◌∙◌}
use Rattle.rd_base.proofs.lemmas.Firsts.{changed_first-at, changed_first-nowhere}
use Rattle.transfers.specs.Uploading.{with_block}
use Rattle.transfers.proofs.uploading.go_on.Goals as goal

pub returns-clause-ok : goal.returns-clause-ok
returns-clause-ok c test there =
    ap (set c.args.uploads.now.items c.in-Some.at) c.in_ok-go_on.ensures.ok
    ∙ changed_first-at test (with_block c.args.piece.now c.args.now.0) c.args.uploads.now.items
    c.in-Some.at c.index_mut.result.now (sym there ∙ c.in-Some.is) c.index_mut.ensures.value

pub returns-in_default-clause-ok : goal.returns-in_default-clause-ok
returns-in_default-clause-ok c test there =
    changed_first-nowhere test (with_block c.args.piece.now c.args.now.0) c.args.uploads.now.items
    (sym there ∙ c.in_default.is)
