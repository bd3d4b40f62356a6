use Rattle.std.proofs.Common.{false}
use Rattle.journal_model.specs.Effects.{joined}
use Rattle.journal_model.specs.Rows.{row_moment}
use Rattle.journal_model.specs.Ticks.{requests_again}
use Rattle.rd_desk.specs.parts.Planning.{notifications_done}
use Rattle.rd_desk.specs.calls.Stepping.{is_starved_step}
use Rattle.rd_desk.proofs.ticking.WholeTick.{notifications_leave, requests_room, tick_made}
use Rattle.rd_desk.proofs.tables.Tables.tick.Goals as goal

pub returns : goal.returns
returns c = record {
  made = λ rows s kind word call.
      let starved = is_starved_step c.notifications-stepped.result in
      let whole = joined (notifications_done starved rows s)
      (requests_again rows (row_moment rows s)) in
      let passed =
      c.pass.ensures.way rows s starved c.args.out.now c.args.mids.now c.requires.empty call in
      let again = c.notifications_again.ensures rows s starved c.args.mids.now passed in
      let notified = c.notifications-stepped.ensures.way rows s word again in
      let asked =
      c.requests_again.ensures rows s starved (notifications_done starved rows s)
      c.notifications-stepped.new.mids (notifications_leave starved rows s)
      (requests_room starved rows s call.journal) notified in
      tick_made rows s starved c.args.now c.args.self.now c.drop_old.new.self
      c.requests_again.new.out c.args.mids.now c.notifications-stepped.new.mids kind call
      (c.drop_old.ensures rows s starved whole c.requests_again.new.out
      c.notifications-stepped.new.mids
      asked);
  unstarved = λ rows s kind call silent.
      let passed =
      c.pass.ensures.way rows s false c.args.out.now c.args.mids.now c.requires.empty call in
      let again = c.notifications_again.ensures rows s false c.args.mids.now passed in
      c.notifications-stepped.ensures.unstarved rows s false again silent;
}
