use Rattle.std.proofs.Common.{length, ap, ◌∙◌, arith}
use Rattle.message_model.specs.declared.messages.Kind4.TheVariants.{Con}
use Rattle.message_model.specs.Message.{Message}
use Rattle.message_model.specs.Spelling.{spelling}
use Rattle.coap_message.proofs.MessageSizes.{begun_size, with_payload_size}
use Rattle.coap_answers.proofs.replies.spell_notification.Goals as goal

pub put_options-requires-clause-room : goal.put_options-requires-clause-room
put_options-requires-clause-room c =
    let size =
    ap (λ (m : Message). length (spelling m)) c.start-writer.ensures
    ∙ begun_size Con c.args.reply.now.code c.args.mid c.args.token.octets.now in
    omega (arith, size, c.args.token.short)

pub unreachable-requires : goal.unreachable-requires
unreachable-requires c =
    let short =
    with_payload_size c.put_options.new.writer c.args.reply.now.payload.now
    (ap (λ (m : Message). m.payload) c.put_options.ensures.put ∙ ap (λ (m : Message).
    m.payload) c.start-writer.ensures) in
    absurd (omega (
      arith,
      short,
      c.in_default.ensures.too_long,
      c.put_options.ensures.size,
      c.requires.reply.payload,
    ))
