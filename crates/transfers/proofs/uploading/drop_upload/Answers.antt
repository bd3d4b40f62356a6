use Rattle.std.proofs.Common.{rules, not}
use Rattle.std.proofs.lemmas.Fn.{filter_same}
use Rattle.event_model.specs.Uploads.{Upload}
use Rattle.transfers.specs.Uploading.{is_of}
use Rattle.transfers.proofs.uploading.drop_upload.Goals as goal

pub returns-clause-items : goal.returns-clause-items
returns-clause-items c =
    filter_same _ (λ (u : Upload). not (is_of (c.args.peer, c.args.key.now) u)) _
    (λ u b f k. search rules) _ _ c.retain.ensures.filtered
