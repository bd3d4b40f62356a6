use Rattle.std.proofs.Common.{◌≡◌, Some, refl, ap, ◌∙◌}
use Rattle.history_model.specs.Replay.{numbered}
use Rattle.directory_core.specs.AfterEntries.{renewed}
use Rattle.directory_core.specs.Bounds.{AreEntriesOf}
use Rattle.directory_core.proofs.IndexLaws.{entries_kept, ok_same, ok_shared}
use Rattle.directory_core.proofs.index.index_renewed.Goals as goal

pub returns-then-is_indexed_alike : goal.returns-then-is_indexed_alike
returns-then-is_indexed_alike c records up found are =
    let old = c.args.old.now in
    let new = c.args.new.now in
    let index = c.args.index.now in
    let there : numbered new.number records ≡ Some old =
    ap (λ n. numbered n records) c.requires.numbered ∙ found in
    let alike = c.is_indexed_alike.ensures c.if-is_indexed_alike.true in
    ok_shared c.share.result (renewed new records) (renewed new records) index refl
    (entries_kept records new old index up there alike are) c.share.ensures

pub returns : goal.returns
returns c records up found are =
    ok_same c.of.result c.in_ok-after.after c.of.ensures
    (AreEntriesOf (renewed c.args.new.now records))
    (c.in_ok-after.ensures records up found are)
