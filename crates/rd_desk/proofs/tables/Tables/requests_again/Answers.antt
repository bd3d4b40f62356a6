use Rattle.std.proofs.Common.{◌+◌, ◌-◌, length, ap, arith}
use Rattle.rd_desk.specs.calls.Desks.{Seen}
use Rattle.rd_desk.proofs.ticking.RequestWalk.{resending_begins, resending_done}
use Rattle.rd_desk.proofs.tables.Tables.requests_again.Goals as goal

pub fetches-init : goal.fetches-init
fetches-init c rows s starved done mids leaves room way =
    let shown = ap (λ (d : Seen). length d.fetches.fetches) c.self.view_is in
    let size = c.len-count.ensures in
    resending_begins rows s starved done c.args.self.now c.args.out.now mids
    (c.len-count.result - 0) (omega (arith, shown, size)) leaves room way

pub fetches-preserved : goal.fetches-preserved
fetches-preserved c rows s starved done mids leaves room way =
    let more = c.fetches-test.true in
    c.request_next-index.ensures rows s starved done mids (c.len-count.result - c.fetches.step)
    (c.len-count.result - (c.fetches.step + 1)) (omega (arith, more))
    (c.fetches.invariant rows s starved done mids leaves room way)

pub returns : goal.returns
returns c rows s starved done mids leaves room way =
    let none = c.fetches-test.false in
    resending_done rows s starved done c.fetches.self c.fetches.out mids c.fetches.index
    (c.len-count.result - c.fetches.step) (omega (arith, none))
    (c.fetches.invariant rows s starved done mids leaves room way)
