use Rattle.std.proofs.Common.{◌≡◌, Some, ap, ◌∙◌}
use Rattle.history_model.specs.Replay.{numbered}
use Rattle.directory_core.proofs.IndexLaws.{ok_renewed}
use Rattle.directory_core.proofs.index.copied_renewed.Goals as goal

pub returns : goal.returns
returns c records up found are =
    let old = c.args.old.now in
    let new = c.args.new.now in
    let there : numbered new.number records ≡ Some old =
    ap (λ n. numbered n records) c.requires ∙ found in
    ok_renewed c.with_record.result records new old c.args.index.now c.in_ok-left.left up there are
    c.in_ok-left.ensures.entries c.in_ok-left.ensures.ascends c.with_record.ensures.entries
    c.with_record.ensures.ascends
