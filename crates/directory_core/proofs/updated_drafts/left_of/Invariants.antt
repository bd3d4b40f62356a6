use Rattle.std.proofs.Common.{◌≡◌, not, filter, take}
use Rattle.record_model.specs.Records.{is_replaced}
use Rattle.directory_core.proofs.updated_drafts.left_of.Given as goal

abbrev pub invariant-pairs : goal.invariant-pairs
invariant-pairs l =
    l.left.items ≡ filter (λ pair. not (is_replaced l.given pair)) (take l.pair-index l.old)
