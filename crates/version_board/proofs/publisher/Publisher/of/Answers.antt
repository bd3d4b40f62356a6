use Rattle.std.proofs.Common.{ap, sym, ◌∙◌, refl}
use Rattle.history_model.specs.Replay.{counted}
use Rattle.history_model.proofs.ReplayLaws.{counted-nil}
use Rattle.version_board.proofs.publisher.Publisher.of.Goals as goal

pub invariant_of-result : goal.invariant_of-result
invariant_of-result c =
    let r = c.requires in (
      refl,
      (r.writer, r.shown, r.empty ∙ sym r.none, r.pending),
      r.head,
      sym (ap (counted 0) r.none ∙ counted-nil 0),
      tt,
    )
