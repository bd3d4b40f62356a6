use Rattle.std.proofs.Common.{◌≡◌, ◌≢◌, true, false, [], ◌∷◌, refl, sym, subst, ◌∙◌}
use Rattle.coap_message.specs.Views.{message_in}
use Rattle.coap_options.proofs.MeaningLaws.{is_meaning}
use Rattle.event_model.specs.declared.notes.Note.TheVariants as note
use Rattle.journal_model.specs.Effects.{nothing, joined, noting}
use Rattle.transfers.specs.declared.collecting.Upload.{Upload}
use Rattle.transfers.specs.declared.collecting.Upload.TheVariants as answer
use Rattle.rd_desk.specs.parts.Replies.{short_said}
use Rattle.rd_desk.specs.parts.Purposes.{purpose_of}
use Rattle.rd_desk.specs.calls.Stepping.{is_starved_step}
use Rattle.history_model.specs.Versions.{Version}
use Rattle.rd_desk.specs.calls.Shown.{AreToldOf}
use Rattle.rd_desk.proofs.changes.StagingLaws.{laid_none, laid_from}
use Rattle.rd_desk.proofs.changes.SettlingLaws.{open_more}
use Rattle.rd_desk.proofs.changes.UploadLaws.{
  opened_by,
  unchanged,
  settled_piece,
  settled_block,
  settled_whole,
}
use Rattle.rd_desk.proofs.tables.Tables.commit_block.Goals as goal

pub returns-in_default-clause-way : goal.returns-in_default-clause-way
returns-in_default-clause-way g c =
    λ rows s place of opened way.
    c.fail.ensures.way rows s true place of
    (opened_by rows s place (message_in c.args.bringing.now.write.request.meaning.view)
    c.args.bringing.now.write.peer
    c.args.bringing.now.write.admitted.0 of opened) way

pub returns-in-More-clause-way : goal.returns-in-More-clause-way
returns-in-More-clause-way g c =
    λ rows s place of opened way.
    let m = message_in c.args.bringing.now.write.request.meaning.view in
    let b = c.args.block.now in
    let piece = joined nothing (noting (note.Piece s.peer c.in-Ok.key b.num m.payload ∷ [])) in
    let fed : c.take_block.result ≢ answer.Starved =
    λ e.
    (let other : ◌≡◌ {A = Upload} answer.More answer.Starved = sym c.in-More.is ∙ e in cc)
    in
    settled_piece (purpose_of c.args.bringing.now.purpose m) rows s place m b
    (short_said c.continued.result) c.take_block.result c.in-Ok.key
    c.settle.new.self c.settle.new.out c.settle.new.mids
    (c.in-Ok.ensures.key m (is_meaning c.args.bringing.now.write.request.meaning)) c.in-More.is
    c.continued.ensures
    (c.take_block.ensures.answer rows s false c.args.out.now c.args.mids.now of way fed)
    (c.settle.ensures.way rows s false piece place of refl
    (open_more rows s false piece place c.args.bringing.now.write.peer m.mid
    c.args.bringing.now.write.admitted.0 refl
    (opened_by rows s place m c.args.bringing.now.write.peer
    c.args.bringing.now.write.admitted.0 of opened))
    (c.take_block.ensures.more rows s false c.args.out.now c.args.mids.now of c.in-More.is way))

pub returns-in-Whole-clause-way : goal.returns-in-Whole-clause-way
returns-in-Whole-clause-way g c =
    λ rows s place of opened way.
    let m = message_in c.args.bringing.now.write.request.meaning.view in
    let b = c.args.block.now in
    let fed : c.take_block.result ≢ answer.Starved =
    λ e.
    (let other : ◌≡◌ {A = Upload} (answer.Whole c.in-Whole.octets) answer.Starved = sym
    c.in-Whole.is ∙ e in cc) in
    let still : c.take_block.result ≢ answer.More =
    λ e.
    (let other : ◌≡◌ {A = Upload} (answer.Whole c.in-Whole.octets) answer.More = sym
    c.in-Whole.is ∙ e in cc) in
    let begun =
    unchanged rows s (is_starved_step c.commit_body.result) c.args.self.now
    c.take_block.new.self c.args.out.now c.args.mids.now (c.take_block.ensures.other still)
    way in
    settled_whole (purpose_of c.args.bringing.now.purpose m)
    (is_starved_step c.commit_body.result) rows s place m b c.take_block.result
    c.in-Whole.octets c.as_slice.result.now c.in-Ok.key c.commit_body.new.self
    c.commit_body.new.out c.commit_body.new.mids
    (c.in-Ok.ensures.key m (is_meaning c.args.bringing.now.write.request.meaning)) c.in-Whole.is
    c.as_slice.ensures.value
    (c.take_block.ensures.answer rows s (is_starved_step c.commit_body.result) c.args.out.now
    c.args.mids.now of way fed)
    (c.commit_body.ensures.way rows s place of
    (opened_by rows s place m c.args.bringing.now.write.peer
    c.args.bringing.now.write.admitted.0 of opened) begun)

pub returns-in-OutOfOrder-clause-way : goal.returns-in-OutOfOrder-clause-way
returns-in-OutOfOrder-clause-way g c =
    λ rows s place of opened way.
    let m = message_in c.args.bringing.now.write.request.meaning.view in
    let b = c.args.block.now in
    let fed : c.take_block.result ≢ answer.Starved =
    λ e.
    (let other : ◌≡◌ {A = Upload} answer.OutOfOrder answer.Starved = sym c.in-OutOfOrder.is
    ∙ e in cc) in
    let still : c.take_block.result ≢ answer.More =
    λ e.
    (let other : ◌≡◌ {A = Upload} answer.OutOfOrder answer.More = sym c.in-OutOfOrder.is ∙ e
    in cc) in
    settled_block (purpose_of c.args.bringing.now.purpose m) rows s place m b
    c.take_block.result answer.OutOfOrder c.in-Ok.key
    c.refuse_write.new.self c.refuse_write.new.out c.refuse_write.new.mids
    (c.in-Ok.ensures.key m (is_meaning c.args.bringing.now.write.request.meaning))
    c.in-OutOfOrder.is
    (c.take_block.ensures.answer rows s false c.args.out.now c.args.mids.now of way fed)
    (c.refuse_write.ensures.way rows s false place of
    (opened_by rows s place m c.args.bringing.now.write.peer
    c.args.bringing.now.write.admitted.0 of opened)
    (unchanged rows s false c.args.self.now c.take_block.new.self c.args.out.now c.args.mids.now
    (c.take_block.ensures.other still) way))

pub returns-in-TooLarge-clause-way : goal.returns-in-TooLarge-clause-way
returns-in-TooLarge-clause-way g c =
    λ rows s place of opened way.
    let m = message_in c.args.bringing.now.write.request.meaning.view in
    let b = c.args.block.now in
    let fed : c.take_block.result ≢ answer.Starved =
    λ e.
    (let other : ◌≡◌ {A = Upload} answer.TooLarge answer.Starved = sym c.in-TooLarge.is ∙ e
    in cc) in
    let still : c.take_block.result ≢ answer.More =
    λ e.
    (let other : ◌≡◌ {A = Upload} answer.TooLarge answer.More = sym c.in-TooLarge.is ∙ e in
    cc) in
    settled_block (purpose_of c.args.bringing.now.purpose m) rows s place m b
    c.take_block.result answer.TooLarge c.in-Ok.key
    c.refuse_write-in-TooLarge.new.self c.refuse_write-in-TooLarge.new.out
    c.refuse_write-in-TooLarge.new.mids
    (c.in-Ok.ensures.key m (is_meaning c.args.bringing.now.write.request.meaning))
    c.in-TooLarge.is
    (c.take_block.ensures.answer rows s false c.args.out.now c.args.mids.now of way fed)
    (c.refuse_write-in-TooLarge.ensures.way rows s false place of
    (opened_by rows s place m c.args.bringing.now.write.peer
    c.args.bringing.now.write.admitted.0 of opened)
    (unchanged rows s false c.args.self.now c.take_block.new.self c.args.out.now c.args.mids.now
    (c.take_block.ensures.other still) way))

pub returns-in-FullUploads-clause-way : goal.returns-in-FullUploads-clause-way
returns-in-FullUploads-clause-way g c =
    λ rows s place of opened way.
    let m = message_in c.args.bringing.now.write.request.meaning.view in
    let b = c.args.block.now in
    let fed : c.take_block.result ≢ answer.Starved =
    λ e.
    (let other : ◌≡◌ {A = Upload} answer.FullUploads answer.Starved = sym
    c.in-FullUploads.is ∙ e in cc) in
    let still : c.take_block.result ≢ answer.More =
    λ e.
    (let other : ◌≡◌ {A = Upload} answer.FullUploads answer.More = sym c.in-FullUploads.is ∙
    e in cc) in
    settled_block (purpose_of c.args.bringing.now.purpose m) rows s place m b
    c.take_block.result answer.FullUploads c.in-Ok.key
    c.refuse_write-in-FullUploads.new.self c.refuse_write-in-FullUploads.new.out
    c.refuse_write-in-FullUploads.new.mids
    (c.in-Ok.ensures.key m (is_meaning c.args.bringing.now.write.request.meaning))
    c.in-FullUploads.is
    (c.take_block.ensures.answer rows s false c.args.out.now c.args.mids.now of way fed)
    (c.refuse_write-in-FullUploads.ensures.way rows s false place of
    (opened_by rows s place m c.args.bringing.now.write.peer
    c.args.bringing.now.write.admitted.0 of opened)
    (unchanged rows s false c.args.self.now c.take_block.new.self c.args.out.now c.args.mids.now
    (c.take_block.ensures.other still) way))

pub returns-in-Starved-clause-way : goal.returns-in-Starved-clause-way
returns-in-Starved-clause-way g c =
    λ rows s place of opened way.
    let m = message_in c.args.bringing.now.write.request.meaning.view in
    let still : c.take_block.result ≢ answer.More =
    λ e.
    (let other : ◌≡◌ {A = Upload} answer.Starved answer.More = sym c.in-Starved.is ∙ e in
    cc) in
    c.fail-in-Starved.ensures.way rows s true place of
    (opened_by rows s place m c.args.bringing.now.write.peer
    c.args.bringing.now.write.admitted.0 of opened)
    (unchanged rows s true c.args.self.now c.take_block.new.self c.args.out.now c.args.mids.now
    (c.take_block.ensures.other still) way)

-- what is laid: where no body is done, the version stays

pub returns-in_default-clause-laid : goal.returns-in_default-clause-laid
returns-in_default-clause-laid g c =
    laid_none c.args.self.now.version _ _ _ c.fail.ensures.version c.requires.free

pub returns-in-More-clause-laid : goal.returns-in-More-clause-laid
returns-in-More-clause-laid g c =
    laid_none c.args.self.now.version _ _ _ (c.settle.ensures.version
    ∙ c.take_block.ensures.version) c.requires.free

pub commit_body-requires-clause-told : goal.commit_body-requires-clause-told
commit_body-requires-clause-told g c =
    subst (λ (v : Version). AreToldOf v (g.B.Board.told c.args.board.now))
    (sym c.take_block.ensures.version) c.requires.told

pub returns-in-Whole-clause-laid : goal.returns-in-Whole-clause-laid
returns-in-Whole-clause-laid g c =
    laid_from c.args.self.now.version _ _ _ _ _ c.take_block.ensures.version
    c.commit_body.ensures.laid

pub returns-in-OutOfOrder-clause-laid : goal.returns-in-OutOfOrder-clause-laid
returns-in-OutOfOrder-clause-laid g c =
    laid_none c.args.self.now.version _ _ _ (c.refuse_write.ensures.version
    ∙ c.take_block.ensures.version) c.requires.free

pub returns-in-TooLarge-clause-laid : goal.returns-in-TooLarge-clause-laid
returns-in-TooLarge-clause-laid g c =
    laid_none c.args.self.now.version _ _ _ (c.refuse_write-in-TooLarge.ensures.version
    ∙ c.take_block.ensures.version) c.requires.free

pub returns-in-FullUploads-clause-laid : goal.returns-in-FullUploads-clause-laid
returns-in-FullUploads-clause-laid g c =
    laid_none c.args.self.now.version _ _ _ (c.refuse_write-in-FullUploads.ensures.version
    ∙ c.take_block.ensures.version) c.requires.free

pub returns-in-Starved-clause-laid : goal.returns-in-Starved-clause-laid
returns-in-Starved-clause-laid g c =
    laid_none c.args.self.now.version _ _ _ (c.fail-in-Starved.ensures.version
    ∙ c.take_block.ensures.version) c.requires.free
