use Rattle.std.proofs.Common.{◌≡◌, List, not, true, false, is_ok, map, sym, ap, subst, ◌∙◌}
use Rattle.history_model.specs.Versions.{VersionStandsFor}
use Rattle.event_model.specs.Events.{noted}
use Rattle.journal_model.specs.Rows.{row_moment}
use Rattle.journal_model.specs.Ticks.{ticking, notifications_again, notifications}
use Rattle.transfers.specs.Keeping.{NamedAnswer}
use Rattle.transfers.specs.TransferEvents.{AnswersStandFor, kept_note}
use Rattle.rd_desk.specs.calls.Desks.{Seen}
use Rattle.rd_desk.proofs.ticking.PlanLaws.{planned_begins}
use Rattle.rd_desk.proofs.ticking.PlanWay.{way_kept, when_ok, tag_again, moment_again}
use Rattle.rd_desk.proofs.ticking.CarryLaws.{carrying_begins, adopted}
use Rattle.rd_desk.proofs.tables.Tables.send_notifications.Goals as goal

pub returns : goal.returns
returns c = record {
  way = λ rows s word way.
      let first = notifications_again rows (row_moment rows s) in
      let whole = notifications (ticking rows (row_moment rows s) s) first in
      let yes : is_ok c.plan_all.result ≡ true =
      c.is_err.ensures.negation ∙ ap not c.if-is_err.false in
      let tagged =
      tag_again rows s false _ c.args.self.now c.args.out.now c.args.mids.now c.tag-tag.result.0
      c.self.view_is (λ n history stands.
      c.tag-tag.ensures n history
      (subst (VersionStandsFor n history) (sym c.deref.ensures) stands)) way in
      let begun =
      planned_begins rows s false c.tag-tag.result.0 c.args.self.now c.empty-plan.result
      c.args.out.now c.args.mids.now c.empty-plan.ensures.items c.empty-plan.ensures.peers
      c.empty-plan.ensures.kept way in
      let plan =
      when_ok c.plan_all.result yes
      (c.plan_all.ensures.planned rows s false whole first c.args.out.now word way tagged
      begun) in
      let after =
      way_kept rows s false first c.args.self.now c.plan_all.new.self c.args.out.now
      c.args.mids.now (λ past stands. c.plan_all.ensures.stands past stands) way in
      let carrying =
      carrying_begins rows s false c.tag-tag.result.0 whole first c.in-Ok.ready
      c.plan_all.new.self c.args.out.now c.args.mids.now c.plan_all.new.plan.items.items
      c.plan_all.new.plan.kept.items c.self-2.inside.moment.0
      (moment_again rows s false _ c.plan_all.new.self c.args.out.now c.args.mids.now
      c.self-2.view_is after) plan
      (λ past place spoken stands.
      subst (λ (ks : List NamedAnswer).
      AnswersStandFor
      (noted place c.self-2.inside.moment.0 spoken (map kept_note ks) past)
      c.in-Ok.ready) c.of.ensures
      (c.in-Ok.ensures past place spoken (subst (AnswersStandFor past)
      (sym (ap (λ (d : Seen). d.transfers.answers) c.self-2.view_is)) stands)))
      after in
      adopted rows s false whole c.in-Ok.ready _ c.carry_out.new.self c.adopt.new.self
      c.carry_out.new.out c.carry_out.new.mids c.self-3.view_is c.adopt.ensures.uploads
      c.adopt.ensures.answers
      (c.carry_out.ensures rows s false c.tag-tag.result.0 whole c.in-Ok.ready carrying);
}
