use Rattle.std.proofs.Common.{ap}
use Rattle.transfers.specs.Keeping.{values}
use Rattle.transfers.proofs.TransferLaws.{TransfersStandFor-none}
use Rattle.transfers.proofs.table.Transfers.make.Goals as goal

pub returns : goal.returns
returns c =
    λ at.
    TransfersStandFor-none at
    (record {
      uploads = c.in_ok-uploads.uploads.items;
      answers = values
          c.in_ok-answers.answers.entries;
    }) c.in_ok-uploads.ensures.items
    (ap values c.in_ok-answers.ensures.entries)
