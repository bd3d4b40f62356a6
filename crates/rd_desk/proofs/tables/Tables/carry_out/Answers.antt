use Rattle.std.proofs.Common.{List, sym, ap, subst}
use Rattle.observation.specs.Watching.{WatchingStandsFor}
use Rattle.rd_desk.specs.declared.tick.planning.Planned.{Planned}
use Rattle.rd_desk.specs.calls.Desks.{Seen}
use Rattle.rd_desk.specs.parts.Planning.{CarryingOut}
use Rattle.rd_desk.proofs.ticking.CarryLaws.{carrying_none, carried, none_planned}
use Rattle.rd_desk.proofs.tables.Tables.carry_out.Goals as goal

pub items-init : goal.items-init
items-init c rows s starved current whole ready h = h

pub returns-in_default : goal.returns-in_default
returns-in_default c rows s starved current whole ready h =
    absurd (carrying_none rows s starved current whole ready _ c.items.self c.items.out c.items.mids
    c.items.from c.in-Some.item c.next.new.self.rest.items c.self.view_is
    c.in_default.ensures.next
    (subst (λ (ps : List Planned).
    CarryingOut rows s starved current whole ready c.items.self c.items.out c.items.mids
    c.items.from ps) c.in-Some.ensures.steps.0
    (c.items.invariant rows s starved current whole ready
    (subst (λ (ps : List Planned).
    CarryingOut rows s starved current whole ready c.args.self.now c.args.out.now
    c.args.mids.now 0 ps) (sym c.into_iter-item-iterator.ensures.into_iter_gives.0)
    h))))

pub items-preserved : goal.items-preserved
items-preserved c rows s starved current whole ready h =
    let shown = ap (λ (d : Seen). d.watching) c.self.view_is in
    let before =
    subst (λ (ps : List Planned).
    CarryingOut rows s starved current whole ready c.items.self c.items.out c.items.mids
    c.items.from ps) c.in-Some.ensures.steps.0
    (c.items.invariant rows s starved current whole ready h) in
    subst (λ n.
    CarryingOut rows s starved current whole ready c.carry_out_one.new.self
    c.carry_out_one.new.out c.carry_out_one.new.mids n c.next.new.self.rest.items)
    (sym c.index_after-next.ensures)
    (c.carry_out_one.ensures rows s starved current whole ready c.items.from
    c.next.new.self.rest.items (λ past stands.
    c.in-Some-next_due.ensures.next past
    (subst (WatchingStandsFor past) (sym shown) stands)) before)

pub returns : goal.returns
returns c rows s starved current whole ready h =
    let none =
    none_planned c.items.item-iterator.rest.items c.items.item-iterator.rest.len
    c.items.item-iterator.rest.ok.0 c.in-None.ensures.steps.0 in
    carried rows s starved current whole ready c.items.self c.items.out c.items.mids c.items.from
    (subst (λ (ps : List Planned).
    CarryingOut rows s starved current whole ready c.items.self c.items.out c.items.mids
    c.items.from ps) none
    (c.items.invariant rows s starved current whole ready
    (subst (λ (ps : List Planned).
    CarryingOut rows s starved current whole ready c.args.self.now c.args.out.now
    c.args.mids.now 0 ps) (sym c.into_iter-item-iterator.ensures.into_iter_gives.0) h)))
