use Rattle.rd_desk.proofs.parts.EmptyMessageLaws.{reset_more}
use Rattle.rd_desk.proofs.tables.Tables.reset.Goals as goal

pub returns-clause-way : goal.returns-clause-way
returns-clause-way c rows s starved out mids of way =
    reset_more rows s starved _ c.args.self.now c.reset-removed.new.self c.reset-ended.new.self out
    mids c.args.peer c.args.mid c.reset-ended.result c.self.view_is of
    (λ done. c.reset-removed.ensures.stands rows s starved done) c.reset-ended.ensures.answer
    c.reset-ended.ensures.ended c.reset-ended.ensures.kept way
