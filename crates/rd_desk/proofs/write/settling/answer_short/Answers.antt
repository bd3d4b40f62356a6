use Rattle.std.proofs.Common.{[], ◌∙◌, arith}
use Rattle.coap_message.specs.Views.{message_in}
use Rattle.rd_desk.specs.parts.Replies.{as_reply, short_said}
use Rattle.rd_desk.proofs.changes.ShortAnswers.{answer_last, last_short, short_is}
use Rattle.rd_desk.proofs.write.settling.answer_short.Goals as goal

pub of-requires : goal.of-requires
of-requires c =
    let short =
    last_short c.args.mids.now c.answer.new.mids c.args.peer (message_in c.args.view.now)
    (as_reply c.args.reply.now) c.args.out.now c.answer.new.out c.last.result.now
    c.answer.ensures.sends c.last.ensures.last c.args.view.now.token.short
    (short_is c.args.reply.now) c.args.reply.now.number in
    omega (arith, short)

pub returns-clause-octets : goal.returns-clause-octets
returns-clause-octets c s of =
    c.of.ensures
    ∙ answer_last s (message_in c.args.view.now) (short_said c.args.reply.now) [] c.args.out.now
    c.answer.new.out c.args.mids.now c.answer.new.mids c.last.result.now
    (c.answer.ensures.sends s [] of) c.last.ensures.last
