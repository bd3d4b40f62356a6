use Rattle.std.proofs.Common.{◌∷◌, refl, sym, subst, ◌∙◌}
use Rattle.transfers.specs.Keeping.{values}
use Rattle.transfers.specs.TransferEvents.{UploadsStandFor, TransfersStandFor}
use Rattle.transfers.proofs.KeptEvents.{AnswersStandFor-aside}
use Rattle.transfers.proofs.TransferLaws.{answer-is, UploadsStandFor-taken, more-not_starved}
use Rattle.transfers.proofs.table.Transfers.upload.Goals as goal

pub returns-clause-answer : goal.returns-clause-answer
returns-clause-answer c at events h stands other =
    let before = subst (TransfersStandFor at events) (sym c.self.view_is) stands in
    c.upload.ensures.answer other
    ∙ answer-is at c.args.now.0 c.args.peer c.args.key.now c.args.block.now c.args.piece.now events
    c.self.inside.uploads.items h before.uploads

pub returns-clause-more : goal.returns-clause-more
returns-clause-more c at events e h more is moment stands =
    let before = subst (TransfersStandFor at events) (sym c.self.view_is) stands in
    let answered = sym (c.upload.ensures.answer (more-not_starved c.upload.result more)) ∙ more in
    record {
      uploads = subst (UploadsStandFor c.args.now.0 (e ∷ events)) (sym (c.upload.ensures.more more))
          (UploadsStandFor-taken at c.args.now.0 c.args.peer c.args.key.now c.args.block.now
          c.args.piece.now e events c.self.inside.uploads.items h answered is moment
          before.uploads);
      answers =
          AnswersStandFor-aside e events (values c.self.inside.answers.entries) (rw is refl)
          before.answers;
    }
