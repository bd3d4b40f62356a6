use Rattle.std.proofs.Common.{◌≤◌, length, refl, ap, arith}
use Rattle.transfers.specs.declared.collecting.Upload.TheVariants as answer
use Rattle.transfers.specs.Uploading.{is_live_as, live_body}
use Rattle.transfers.proofs.UploadLists.{length-taken}
use Rattle.transfers.proofs.BlockLaws.{room_for}
use Rattle.transfers.proofs.TransferLaws.{more-not_starved}
use Rattle.transfers.proofs.uploading.upload.Goals as goal

pub take-requires-clause-room : goal.take-requires-clause-room
unfolding live_body
take-requires-clause-room c =
    let few = c.requires.few in
    let ok = c.args.uploads.now.ok.0 in
    let room = c.requires.room in
    let others =
    room_for c.args.block.now c.args.piece.now c.args.now.0 (c.args.peer, c.args.key.now)
    c.args.uploads.now.items
    (c.body_at-body.ensures (is_live_as c.args.now.0 (c.args.peer, c.args.key.now))
    c.live_index-index.ensures) refl
    (c.in-More.ensures (more-not_starved answer.More refl)) (omega (arith, few, ok)) in
    omega (arith, others, room)

pub returns-in-Ok-clause-few : goal.returns-in-Ok-clause-few
unfolding live_body
returns-in-Ok-clause-few c =
    let few = c.requires.few in
    let was = c.args.uploads.now.ok.0 in
    let at_most : length c.args.uploads.now.items ≤ 64 = omega (arith, few, was) in
    let others =
    room_for c.args.block.now c.args.piece.now c.args.now.0 (c.args.peer, c.args.key.now)
    c.args.uploads.now.items
    (c.body_at-body.ensures (is_live_as c.args.now.0 (c.args.peer, c.args.key.now))
    c.live_index-index.ensures) refl
    (c.in-More.ensures (more-not_starved answer.More refl)) at_most in
    let items = ap length c.in-Ok.ensures.ok in
    let ok = c.take.new.uploads.ok.0 in
    let left =
    length-taken c.args.block.now c.args.now.0 (c.args.peer, c.args.key.now) c.args.piece.now
    c.args.uploads.now.items at_most others in
    omega (arith, items, ok, left)
