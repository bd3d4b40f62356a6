use Rattle.std.proofs.Common.{ap, sym, ◌∙◌, refl}
use Rattle.history_model.specs.Replay.{counted}
use Rattle.history_model.proofs.ReplayLaws.{counted-nil}
use Rattle.version_board.proofs.looker.Looker.of.Goals as goal

pub invariant_of-result : goal.invariant_of-result
invariant_of-result c =
    (refl, c.requires.reader, sym (ap (counted 0) c.requires.none ∙ counted-nil 0), tt)
