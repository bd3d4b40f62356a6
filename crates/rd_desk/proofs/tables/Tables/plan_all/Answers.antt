use Rattle.std.proofs.Common.{◌+◌, sym, ap, subst, ◌∙◌, arith}
use Rattle.observers.specs.Standing.{next_ready}
use Rattle.rd_desk.specs.calls.Desks.{Seen}
use Rattle.rd_desk.specs.parts.Planning.{PlannedUpTo}
use Rattle.rd_desk.proofs.ticking.PlanLaws.{planned_none, planned_full}
use Rattle.rd_desk.proofs.ticking.PlanWay.{way_kept}
use Rattle.rd_desk.proofs.tables.Tables.plan_all.Goals as goal

pub returns-in_default-clause-planned : goal.returns-in_default-clause-planned
returns-in_default-clause-planned c rows s starved whole first out word way tag begun =
    let few = c.due-test.true in
    let many = c.len.ensures in
    let size = c.due.plan.peers.ok.0 in
    let watched = ap (λ (d : Seen). d.watching.observers) c.self.view_is ∙ c.due.invariant.3 in
    planned_none rows s starved c.args.tag.0 whole first c.args.self.now.watching.observers
    c.args.self.now.observed c.due.plan c.due.from way.no_look (omega (arith, few, many, size))
    (ap (next_ready c.due.from) (sym watched) ∙ (sym c.next_due.ensures.ready ∙ c.in_default.is))
    (c.due.invariant.0 rows s starved whole first out word way tag begun)

pub due-preserved : goal.due-preserved
due-preserved c =
    let watched = ap (λ (d : Seen). d.watching.observers) c.self.view_is in
    let few = c.due-test.true in
    let many = c.len.ensures in
    let size = c.due.plan.peers.ok.0 in
    let same = c.due.invariant.3 in
    let others = c.due.invariant.2 in (
      λ rows s starved whole first out word way tag begun.
          subst (λ n.
          PlannedUpTo rows s starved c.args.tag.0 whole first
          c.args.self.now.watching.observers c.args.self.now.observed
          c.plan_one.new.plan n) (sym c.index_after-next.ensures)
          (subst (λ ws.
          PlannedUpTo rows s starved c.args.tag.0 whole first ws c.args.self.now.observed
          c.plan_one.new.plan (c.in-Some.index + 1)) same
          (subst (λ n.
          PlannedUpTo rows s starved c.args.tag.0 whole first c.due.self.watching.observers
          n c.plan_one.new.plan (c.in-Some.index + 1))
          (ap (λ (d : Seen). d.observed) others)
          (c.in_ok-plan_one.ensures.planned rows s starved whole first out c.due.from word
          (way_kept rows s starved first c.args.self.now c.due.self out c.args.mids.now
          (λ past stands. c.due.invariant.1 past stands) way) tag
          (ap (next_ready c.due.from) (sym watched) ∙ (sym c.next_due.ensures.ready ∙ c.in-Some.is))
          (omega (arith, few, many, size))
          (subst (λ ws.
          PlannedUpTo rows s starved c.args.tag.0 whole first ws c.due.self.observed
          c.due.plan c.due.from) (sym same)
          (subst (λ n.
          PlannedUpTo rows s starved c.args.tag.0 whole first
          c.args.self.now.watching.observers n c.due.plan c.due.from)
          (sym (ap (λ (d : Seen). d.observed) others))
          (c.due.invariant.0 rows s starved whole first out word way tag begun)))))),
      λ rows stands. c.plan_one.ensures.stands rows (c.due.invariant.1 rows stands),
      c.plan_one.ensures.others
          ∙ ap (λ (d : Seen). let y : Seen = record d { watching = c.plan_one.new.self.watching } in
          y)
          others,
      c.plan_one.ensures.observers ∙ same,
    )

pub returns-clause-planned : goal.returns-clause-planned
returns-clause-planned c rows s starved whole first out word way tag begun =
    let full = c.due-test.false in
    let many = c.len.ensures in
    let size = c.due.plan.peers.ok.0 in
    planned_full rows s starved c.args.tag.0 whole first c.args.self.now.watching.observers
    c.args.self.now.observed c.due.plan c.due.from (omega (arith, full, many, size))
    (c.due.invariant.0 rows s starved whole first out word way tag begun)
