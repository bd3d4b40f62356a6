use Rattle.coap_message.specs.Views.{message_in}
use Rattle.rd_desk.specs.parts.Replies.{short_said}
use Rattle.rd_desk.proofs.changes.SettlingLaws.{way_settled}
use Rattle.rd_desk.proofs.tables.Tables.settle.Goals as goal

pub returns-clause-way : goal.returns-clause-way
returns-clause-way c =
    λ rows s starved done place of drew opened way.
    way_settled rows s starved done place (message_in c.args.write.now.request.meaning.view)
    (short_said c.args.reply.now)
    c.args.write.now.peer c.args.write.now.admitted.0 c.answer_short-octets.result _ c.args.self.now
    c.settle.new.self
    c.args.out.now c.answer_short-octets.new.out c.args.mids.now c.answer_short-octets.new.mids
    c.self.view_is of drew opened (c.answer_short-octets.ensures.octets s)
    (λ at past e. c.settle.ensures.stands at past e place)
    (λ notes. c.answer_short-octets.ensures.sends s notes) way
