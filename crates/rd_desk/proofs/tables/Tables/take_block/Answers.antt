use Rattle.rd_desk.proofs.changes.UploadLaws.{block_answered, way_piece}
use Rattle.rd_desk.proofs.tables.Tables.take_block.Goals as goal

pub returns-clause-answer : goal.returns-clause-answer
returns-clause-answer c rows s starved out mids by way fed =
    block_answered rows s starved _ c.args.self.now out mids c.args.peer c.args.key.now
    c.args.block.now c.args.piece.now c.upload.result c.self.view_is by
    (λ at past low h fed. c.upload.ensures.answer at past low h fed) way fed

pub returns-clause-more : goal.returns-clause-more
returns-clause-more c rows s starved out mids by is way =
    way_piece rows s starved _ c.args.self.now c.upload.new.self out mids c.args.peer c.args.key.now
    c.args.block.now.num c.args.piece.now c.self.view_is by
    (λ at past e low says moment h. c.upload.ensures.more at past e low is says moment h) way
