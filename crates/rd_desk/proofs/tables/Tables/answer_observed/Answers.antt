use Rattle.std.proofs.Common.{false, true, is_some, refl, sym, subst}
use Rattle.std.specs.Arc.{arc_value}
use Rattle.coap_message.specs.Views.{message_in}
use Rattle.event_model.specs.Observers.{observers}
use Rattle.journal_model.specs.Effects.{noting}
use Rattle.journal_model.specs.Journal.{events}
use Rattle.observation.specs.Joining.{observer_joining, joining_notes}
use Rattle.rd_desk.specs.calls.Desks.{Seen}
use Rattle.rd_desk.specs.parts.Lookups.{lookup_heard}
use Rattle.rd_desk.specs.parts.UnderWay.{UnderWay}
use Rattle.rd_desk.proofs.parts.LookupLaws.{lookup_starved, observed_way}
use Rattle.rd_desk.proofs.tables.Tables.answer_observed.Goals as goal

pub returns-in_default-clause-way : goal.returns-in_default-clause-way
returns-in_default-clause-way c =
    λ rows s of way.
    lookup_starved rows s c.args.self.now c.args.out.now c.answer_starved.new.out c.args.mids.now
    c.answer_starved.new.mids c.args.peer (message_in c.args.request.now.meaning.view) of
    c.answer_starved.ensures.sends way

pub returns-in_default-join-clause-way : goal.returns-in_default-join-clause-way
returns-in_default-join-clause-way c =
    λ rows s of way.
    let m = message_in c.args.request.now.meaning.view in
    subst (λ (y : Seen).
    UnderWay rows s true (lookup_heard true rows s m) y
    c.answer_starved-in_default-join.new.out c.answer_starved-in_default-join.new.mids)
    (sym c.in_default-join.ensures.unchanged)
    (lookup_starved rows s c.args.self.now c.args.out.now c.answer_starved-in_default-join.new.out
    c.args.mids.now c.answer_starved-in_default-join.new.mids c.args.peer m of
    c.answer_starved-in_default-join.ensures.sends way)

pub returns-clause-way : goal.returns-clause-way
returns-clause-way c =
    λ rows s of way.
    let m = message_in c.args.request.now.meaning.view in
    let notes =
    joining_notes (is_some c.in-Ok-join.value)
    (observer_joining c.in-Ok.observing.query c.in-Ok.observing.joining)
    (arc_value c.in-Ok.observing.joining.body) (observers (events rows)) in
    observed_way rows s c.args.self.now c.give_formed.new.self c.args.out.now c.give_formed.new.out
    c.args.mids.now c.give_formed.new.mids c.args.peer m c.in-Ok.observing.query
    c.in-Ok.observing.joining c.in-Ok-join.value c.in-Ok.observing.formed of
    c.requires.first c.requires.observes c.in-Ok.ensures.query c.in-Ok.ensures.joining
    c.in-Ok.ensures.formed
    (c.in-Ok-join.ensures.value rows s false c.args.out.now c.args.mids.now way)
    (c.give_formed.ensures.way rows s false (noting notes) of refl
    (c.in-Ok-join.ensures.way rows s false c.args.out.now c.args.mids.now way)) way
