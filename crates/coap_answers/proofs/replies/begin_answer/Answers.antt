use Rattle.std.proofs.Common.{length, ap, ◌∙◌, arith}
use Rattle.message_model.specs.Spelling.{spelling}
use Rattle.coap_message.proofs.MessageSizes.{begun_size}
use Rattle.coap_answers.proofs.replies.begin_answer.Goals as goal

pub put_options-requires-clause-room : goal.put_options-requires-clause-room
put_options-requires-clause-room c =
    let size =
    ap (λ m. length (spelling m)) c.restart.ensures
    ∙ begun_size c.answer_kind.result c.args.reply.now.code c.answer_mid-mid.result
    c.args.view.now.token.octets.now in
    omega (arith, size, c.args.view.now.token.short)
