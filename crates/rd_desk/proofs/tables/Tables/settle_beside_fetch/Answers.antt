use Rattle.coap_message.specs.Views.{message_in}
use Rattle.rd_desk.specs.parts.Replies.{short_said}
use Rattle.rd_desk.proofs.changes.FetchStartLaws.{one_answer, way_changed}
use Rattle.rd_desk.proofs.tables.Tables.settle_beside_fetch.Goals as goal

pub returns-clause-way : goal.returns-clause-way
returns-clause-way c fetches rows s starved place of opened way =
    way_changed rows s starved place (message_in c.args.write.now.request.meaning.view)
    (short_said c.plain-changed.result)
    c.args.write.now.peer c.args.write.now.admitted.0 c.answer_short-octets.result _ c.args.self.now
    fetches
    c.settle.new.self
    c.args.out.now c.answer_short-octets.new.out c.args.mids.now c.answer_short-octets.new.mids
    c.self.view_is of c.plain-changed.ensures opened c.answer_short-octets.ensures.octets
    (λ at past e. c.settle.ensures.stands at past e place) c.answer_short-octets.ensures.sends way

pub returns-clause-one : goal.returns-clause-one
returns-clause-one c =
    one_answer (message_in c.args.write.now.request.meaning.view)
    (short_said c.plain-changed.result) c.args.write.now.peer c.args.out.now
    c.answer_short-octets.new.out c.args.mids.now c.answer_short-octets.new.mids
    c.answer_short-octets.ensures.sends
