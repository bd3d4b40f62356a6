use Rattle.std.proofs.Common.{◌+◌, ◌%◌, ◌^◌, bytes_eq, option_map, slice_get, sym, ap, ap₂, ◌∙◌}
use Rattle.std.specs.List.{list_any}
use Rattle.rd_base.specs.declared.peers.Peer.{Peer}
use Rattle.rd_base.proofs.lemmas.Options.{some_same}
use Rattle.event_model.specs.Same.{is_same_peer}
use Rattle.journal_model.specs.Effects.{mid_of}
use Rattle.journal_model.specs.UnfinishedRow.{making}
use Rattle.observers.specs.Standing.{Standing}
use Rattle.rd_desk.specs.calls.Desks.{Seen}
use Rattle.rd_desk.proofs.ticking.SkipLaws.{planned_skips}
use Rattle.rd_desk.proofs.ticking.PlanCases.{planned_unchanged, planned_notification}
use Rattle.rd_desk.proofs.ticking.PlanWay.{on_ok}
use Rattle.rd_desk.proofs.tables.Tables.plan_one.Goals as goal

pub returns-then-waits_for-clause-planned : goal.returns-then-waits_for-clause-planned
returns-then-waits_for-clause-planned c rows s starved whole first out from word way tag is few h =
    let got =
    sym (ap (λ (d : Seen). slice_get d.watching.observers c.args.index) c.self.view_is)
    ∙ (sym c.at.ensures ∙ ap (option_map (λ y. y.now)) c.in-Some.is) in
    planned_skips rows s starved c.args.tag.0 whole first c.args.self.now.watching.observers
    c.args.self.now.observed c.args.plan.now from c.args.index c.in-Some.observer.now
    way.no_look few is got
    (ap (λ (y : Standing).
    list_any (λ (q : Peer). is_same_peer q y.peer) c.args.plan.now.peers.items)
    (sym c.observer.view_is)
    ∙ (sym c.waits_for.ensures ∙ c.if-waits_for.true)) h

pub returns-then-is_unchanged-clause-planned : goal.returns-then-is_unchanged-clause-planned
returns-then-is_unchanged-clause-planned c rows s starved whole first out from word way tag is few
    h =
    let got =
    sym (ap (λ (d : Seen). slice_get d.watching.observers c.args.index) c.self.view_is)
    ∙ (sym c.at.ensures ∙ ap (option_map (λ y. y.now)) c.in-Some.is) in
    let again =
    sym (ap (λ (d : Seen). slice_get d.watching.observers c.args.index) c.self-2.view_is
    ∙ ap (λ ws. slice_get ws c.args.index) c.body_for.ensures.observers)
    ∙ (sym c.at-2.ensures ∙ ap (option_map (λ y. y.now)) c.in-Some-at.is) in
    let peer = c.observer.view_is ∙ some_same (sym got ∙ again) in
    let free =
    ap (λ (y : Standing).
    list_any (λ (q : Peer). is_same_peer q y.peer) c.args.plan.now.peers.items)
    (sym peer)
    ∙ (sym c.waits_for.ensures ∙ c.if-waits_for.false) in
    on_ok c.add_unchanged.result c.add_unchanged.ensures.items (λ items.
    planned_unchanged rows s starved c.args.tag.0 whole first c.args.self.now.watching.observers
    c.args.self.now.observed c.args.plan.now c.add_unchanged.new.self from c.args.index
    c.in-Some-at.observer.now c.as_slice.result.now c.args.self.now out c.args.mids.now
    way is again free few (λ o at.
    c.as_slice.ensures.value
    ∙ (c.deref.ensures
    ∙ c.in_ok-body.ensures.body (making rows s starved first) o way.stands at))
    (sym c.is_unchanged.ensures ∙ c.if-is_unchanged.true)
    items c.add_unchanged.ensures.peers c.add_unchanged.ensures.kept h)

pub returns-clause-planned : goal.returns-clause-planned
returns-clause-planned c rows s starved whole first out from word way tag is few h =
    let got =
    sym (ap (λ (d : Seen). slice_get d.watching.observers c.args.index) c.self.view_is)
    ∙ (sym c.at.ensures ∙ ap (option_map (λ y. y.now)) c.in-Some.is) in
    let again =
    sym (ap (λ (d : Seen). slice_get d.watching.observers c.args.index) c.self-2.view_is
    ∙ ap (λ ws. slice_get ws c.args.index) c.body_for.ensures.observers)
    ∙ (sym c.at-2.ensures ∙ ap (option_map (λ y. y.now)) c.in-Some-at.is) in
    let peer = c.observer.view_is ∙ some_same (sym got ∙ again) in
    let free =
    ap (λ (y : Standing).
    list_any (λ (q : Peer). is_same_peer q y.peer) c.args.plan.now.peers.items)
    (sym peer)
    ∙ (sym c.waits_for.ensures ∙ c.if-waits_for.false) in
    let count = c.len-planned.ensures ∙ c.args.plan.now.peers.ok.0 in
    let given =
    ap (λ (d : Seen). d.observed) c.self-2.view_is
    ∙ ap (λ (d : Seen). d.observed) c.body_for.ensures.others in
    on_ok c.add_notification.result c.add_notification.ensures (λ it.
    planned_notification rows s starved c.args.tag.0 whole first c.args.self.now.watching.observers
    c.args.self.now.observed c.args.plan.now c.add_notification.new.self from c.args.index
    c.in-Some-at.observer.now c.in_ok-body.body c.after.result c.observe_after.result _
    c.args.word it.0
    c.args.self.now out c.args.mids.now way is again free few
    (λ o at. c.in_ok-body.ensures.body (making rows s starved first) o way.stands at)
    (ap (bytes_eq c.in-Some-at.observer.now.last) (sym (c.as_slice.ensures.value ∙ c.deref.ensures))
    ∙ (sym c.is_unchanged.ensures ∙ c.if-is_unchanged.false))
    (ap (λ (d : Seen). d.moment) c.self-2.view_is
    ∙ ap (λ (d : Seen). d.moment) c.body_for.ensures.others) word tag
    (c.after.ensures ∙ ap (λ n. mid_of c.args.mids.now.worker (c.args.mids.now.drawn + n)) count)
    (c.observe_after.ensures.value ∙ ap₂ (λ n m. (n + m + 1) % 2 ^ 24) given count) it.1 it.2 h)
