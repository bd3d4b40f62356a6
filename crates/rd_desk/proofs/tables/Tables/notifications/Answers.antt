use Rattle.std.proofs.Common.{◌≡◌, true, false, not, sym, ap, ◌∙◌}
use Rattle.rd_desk.proofs.ticking.IdleTicks.{way_idle, none_comes}
use Rattle.rd_desk.proofs.tables.Tables.notifications.Goals as goal

pub returns-then-is_none-clause-way : goal.returns-then-is_none-clause-way
returns-then-is_none-clause-way c rows s word way =
    way_idle rows s _ c.args.self.now c.args.out.now c.args.mids.now c.next_due.result
    c.self.view_is c.next_due.ensures.next (c.is_none.ensures ∙ ap not c.if-is_none.true) way

pub returns-clause-unstarved : goal.returns-clause-unstarved
returns-clause-unstarved c rows s starved way silent =
    absurd (let yes : false ≡ true =
    sym (none_comes rows s starved _ c.args.self.now c.args.out.now c.args.mids.now
    c.next_due.result c.self.view_is c.next_due.ensures.next way silent)
    ∙ (c.is_none.ensures ∙ ap not c.if-is_none.false) in cc)
