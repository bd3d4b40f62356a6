use Rattle.std.proofs.Common.{false, refl}
use Rattle.coap_message.specs.Views.{message_in}
use Rattle.event_model.specs.Observers.{observers}
use Rattle.journal_model.specs.Effects.{nothing, noting}
use Rattle.journal_model.specs.Journal.{events}
use Rattle.journal_model.specs.Lookups.{removal}
use Rattle.rd_desk.proofs.parts.LookupLaws.{lookup_starved, unobserved_way, left_named}
use Rattle.rd_desk.proofs.tables.Tables.answer_unobserved.Goals as goal

pub returns-in_default-clause-way : goal.returns-in_default-clause-way
returns-in_default-clause-way c =
    λ rows s of way.
    lookup_starved rows s c.args.self.now c.args.out.now c.answer_starved.new.out c.args.mids.now
    c.answer_starved.new.mids c.args.peer (message_in c.args.request.now.meaning.view) of
    c.answer_starved.ensures.sends way

pub returns-clause-way : goal.returns-clause-way
returns-clause-way c =
    λ rows s of way.
    let m = message_in c.args.request.now.meaning.view in
    unobserved_way rows s c.args.self.now c.give_formed.new.self c.args.out.now
    c.give_formed.new.out c.args.mids.now c.give_formed.new.mids c.args.peer m c.in-Ok.formed of
    c.requires.first c.requires.ends c.requires.heeded
    c.in-Ok.ensures.formed
    (c.give_formed.ensures.way rows s false
    (noting (removal (c.args.peer, m.token) (observers (events rows)))) of refl
    (left_named rows s false _ c.args.self.now c.leave.new.self c.args.out.now c.args.mids.now
    c.args.peer c.of.result m.token c.self.view_is c.of.ensures
    (c.leave.ensures.stands rows s false nothing) way)) way
