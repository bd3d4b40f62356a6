use Rattle.std.proofs.Common.{Option, ap, subst, ◌∙◌}
use Rattle.message_model.specs.declared.blocks.Block.{Block}
use Rattle.coap_message.specs.Views.{message_in}
use Rattle.journal_model.specs.Bodies.{body_reply}
use Rattle.journal_model.specs.Effects.{Reply, answering}
use Rattle.coap_answers.specs.Sendings.{Sends}
use Rattle.coap_answers.specs.Replies.{tag_octets}
use Rattle.rd_look.proofs.looks.send_block.Goals as goal

pub returns : goal.returns
returns c s notes of =
    let m = message_in c.args.request.now.meaning.view in
    subst (λ (r : Reply).
    Sends (answering s m r notes) c.args.out.now c.answer.new.out c.args.mids.now
    c.answer.new.mids)
    (c.body_reply-reply.ensures.said
    ∙ ap (λ (b : Option Block).
    body_reply (tag_octets c.args.tag) c.args.observe b c.args.body.now)
    c.args.request.now.asked_said) (c.answer.ensures.sends s notes of)
