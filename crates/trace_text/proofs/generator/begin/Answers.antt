use Rattle.std.proofs.Common.{length, ap, ◌∙◌, arith}
use Rattle.message_model.specs.Message.{Message}
use Rattle.message_model.specs.Spelling.{spelling}
use Rattle.message_model.specs.declared.messages.Kind4.TheVariants.{Con}
use Rattle.coap_message.proofs.MessageSizes.{begun_size}
use Rattle.trace_text.proofs.generator.begin.Goals as goal

pub returns-clause-size : goal.returns-clause-size
returns-clause-size c =
    let size =
    ap (λ (m : Message). length (spelling m)) c.start.ensures
    ∙ begun_size Con c.args.code c.args.mid c.args.token.octets.now in
    omega (arith, size, c.args.token.short)
