use Rattle.std.proofs.Common.{◌+◌, length, drop, sym, ap, ◌∙◌, arith}
use Rattle.observation.proofs.TickLaws.{got_inside}
use Rattle.rd_desk.specs.calls.Desks.{Seen}
use Rattle.rd_desk.specs.parts.Noticing.{index_after}
use Rattle.rd_desk.proofs.ticking.AgainWalk.{again_begins, again_goes, again_ends}
use Rattle.rd_desk.proofs.tables.Tables.notifications_again.Goals as goal

pub observers-init : goal.observers-init
observers-init c rows s starved mids way =
    again_begins rows s starved c.args.self.now c.args.out.now mids way

pub observers-preserved-then-notification_again : goal.observers-preserved-then-notification_again
observers-preserved-then-notification_again c rows s starved mids way =
    let shown = ap (λ (d : Seen). length d.watching.observers) c.self.view_is in
    let size = c.len.ensures in
    let within = c.observers-test.true in
    let found =
    got_inside c.observers.self.watching.observers c.observers.index
    (omega (arith, shown, size, within)) in
    again_goes rows s starved c.observers.self c.notification_again.new.self c.observers.out
    c.notification_again.new.out mids c.observers.index (c.observers.index + 1) found.0 found.1
    (λ room short done h. c.notification_again.ensures.way rows s starved done mids found.0 found.1
    room
    short h)
    (ap (λ b. drop (index_after b c.observers.index)
    c.notification_again.new.self.watching.observers)
    (sym c.if-notification_again.true)
    ∙ c.notification_again.ensures.rest) (c.observers.invariant rows s starved mids way)

pub observers-preserved : goal.observers-preserved
observers-preserved c rows s starved mids way =
    let shown = ap (λ (d : Seen). length d.watching.observers) c.self.view_is in
    let size = c.len.ensures in
    let within = c.observers-test.true in
    let found =
    got_inside c.observers.self.watching.observers c.observers.index
    (omega (arith, shown, size, within)) in
    again_goes rows s starved c.observers.self c.notification_again.new.self c.observers.out
    c.notification_again.new.out mids c.observers.index c.observers.index found.0 found.1
    (λ room short done h. c.notification_again.ensures.way rows s starved done mids found.0 found.1
    room
    short h)
    (ap (λ b. drop (index_after b c.observers.index)
    c.notification_again.new.self.watching.observers)
    (sym c.if-notification_again.false)
    ∙ c.notification_again.ensures.rest) (c.observers.invariant rows s starved mids way)

pub returns : goal.returns
returns c rows s starved mids way =
    let shown = ap (λ (d : Seen). length d.watching.observers) c.self.view_is in
    let size = c.len.ensures in
    let past = c.observers-test.false in
    again_ends rows s starved c.observers.self c.observers.out mids c.observers.index
    (omega (arith, shown, size, past)) (c.observers.invariant rows s starved mids way)
