use Rattle.std.proofs.Common.{length, ap, subst, arith}
use Rattle.rd_desk.specs.calls.Desks.{Seen}
use Rattle.rd_desk.specs.parts.Noticing.{index_after}
use Rattle.rd_desk.specs.parts.Resending.{Resending}
use Rattle.rd_desk.proofs.ticking.RequestWalk.{resending_past}
use Rattle.rd_desk.proofs.tables.Tables.request_next.Goals as goal

pub returns-then-index-len : goal.returns-then-index-len
returns-then-index-len c rows s starved first mids most less one h =
    let shown = ap (λ (d : Seen). length d.fetches.fetches) c.self.view_is in
    let size = c.len.ensures in
    let past = c.if-index-len.true in
    resending_past rows s starved first c.args.self.now c.args.out.now mids c.args.index most less
    (omega (arith, shown, size, past)) h

pub returns-then-request_again : goal.returns-then-request_again
returns-then-request_again c rows s starved first mids most less one h =
    subst (λ b.
    Resending rows s starved first c.request_again.new.self c.request_again.new.out mids
    (index_after b c.args.index) less) c.if-request_again.true
    (c.request_again.ensures rows s starved first mids most less one h)

pub returns : goal.returns
returns c rows s starved first mids most less one h =
    subst (λ b.
    Resending rows s starved first c.request_again.new.self c.request_again.new.out mids
    (index_after b c.args.index) less) c.if-request_again.false
    (c.request_again.ensures rows s starved first mids most less one h)
