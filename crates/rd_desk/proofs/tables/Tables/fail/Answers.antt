use Rattle.coap_message.specs.Views.{message_in}
use Rattle.coap_answers.specs.Replies.{reply_said}
use Rattle.rd_desk.proofs.changes.SettlingLaws.{way_failed}
use Rattle.rd_desk.proofs.tables.Tables.fail.Goals as goal

pub returns-clause-way : goal.returns-clause-way
returns-clause-way c =
    λ rows s starved place of opened way.
    way_failed rows s starved place (message_in c.args.write.now.request.meaning.view)
    (reply_said c.internal_server_error.result) c.args.write.now.peer c.args.write.now.admitted.0 _
    c.args.self.now
    c.forget.new.self
    c.args.out.now c.answer.new.out c.args.mids.now c.answer.new.mids c.self.view_is of
    c.internal_server_error.ensures.said opened
    (λ at past e. c.forget.ensures.stands at past e place) (λ notes. c.answer.ensures.sends s notes)
    way
