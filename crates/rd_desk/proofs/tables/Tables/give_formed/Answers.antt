use Rattle.std.proofs.Common.{refl, ◌∙◌}
use Rattle.coap_message.specs.Views.{message_in}
use Rattle.rd_desk.specs.parts.Lookups.{answer_listed}
use Rattle.rd_desk.proofs.parts.LookupLaws.{given_whole, given_kept}
use Rattle.rd_desk.proofs.tables.Tables.give_formed.Goals as goal

pub returns-in-None-clause-way : goal.returns-in-None-clause-way
returns-in-None-clause-way c =
    λ rows s starved done of undrawn way.
    given_whole rows s starved done c.args.self.now c.args.self.now c.args.out.now
    c.send_block.new.out c.args.mids.now c.send_block.new.mids c.args.peer
    (message_in c.args.request.now.meaning.view) c.args.observe
    (answer_listed c.args.formed.listed) c.as_slice.result.now c.args.formed.ready refl of undrawn
    c.in-None.is (c.as_slice.ensures.value ∙ c.deref.ensures) c.send_block.ensures way

pub returns-in-Some-clause-way : goal.returns-in-Some-clause-way
returns-in-Some-clause-way c =
    λ rows s starved done of undrawn way.
    given_kept rows s starved done _ c.args.self.now c.adopt.new.self c.in-Some.ready c.args.out.now
    c.send_block.new.out c.args.mids.now c.send_block.new.mids c.args.peer
    (message_in c.args.request.now.meaning.view) c.args.observe
    (answer_listed c.args.formed.listed) c.as_slice.result.now c.args.formed.ready c.self.view_is of
    undrawn c.in-Some.is (c.as_slice.ensures.value ∙ c.deref.ensures) c.requires.ready
    c.adopt.ensures.stands c.send_block.ensures way
