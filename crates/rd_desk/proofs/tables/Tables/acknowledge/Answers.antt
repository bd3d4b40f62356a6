use Rattle.rd_desk.proofs.parts.EmptyMessageLaws.{acknowledged_more}
use Rattle.rd_desk.proofs.tables.Tables.acknowledge.Goals as goal

pub returns-clause-way : goal.returns-clause-way
returns-clause-way c rows s starved out mids of way =
    acknowledged_more rows s starved _ c.args.self.now c.acked-landed.new.self
    c.acked-waits.new.self out mids c.args.peer c.args.mid c.acked-waits.result c.self.view_is
    of
    (λ done. c.acked-landed.ensures.stands rows s starved done) c.acked-waits.ensures.answer
    c.acked-waits.ensures.waiting c.acked-waits.ensures.kept way
