use Rattle.std.proofs.Common.{◌∷◌, length, refl, sym, ap, subst, arith}
use Rattle.transfers.specs.Keeping.{values}
use Rattle.transfers.specs.TransferEvents.{UploadsStandFor, TransfersStandFor}
use Rattle.transfers.proofs.UploadLists.{length-without}
use Rattle.transfers.proofs.UploadEvents.{UploadsStandFor-ended}
use Rattle.transfers.proofs.KeptEvents.{AnswersStandFor-aside}
use Rattle.transfers.proofs.table.Transfers.end_upload.Goals as goal

pub invariant_of-self : goal.invariant_of-self
invariant_of-self c =
    let same = c.drop_upload.ensures.capacity in
    let left = ap length c.drop_upload.ensures.items in
    let fewer = length-without (c.args.peer, c.args.key.now) c.self.inside.uploads.items in
    let ok = c.self.inside.uploads.ok.0 in
    let ok_now = c.drop_upload.new.uploads.ok.0 in
    let before = c.self.invariant in
    (omega (arith, same, before), omega (arith, before, left, fewer, ok, ok_now), before.2)

pub returns-clause-stands : goal.returns-clause-stands
returns-clause-stands c at events e is stands =
    let before = subst (TransfersStandFor at events) (sym c.self.view_is) stands in
    record {
      uploads =
          subst (UploadsStandFor at (e ∷ events)) (sym c.drop_upload.ensures.items)
          (UploadsStandFor-ended at c.args.peer c.args.key.now e events
          c.self.inside.uploads.items is before.uploads);
      answers =
          AnswersStandFor-aside e events (values c.self.inside.answers.entries) (rw is refl)
          before.answers;
    }
