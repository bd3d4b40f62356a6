use Rattle.std.proofs.Common.{arith}
use Rattle.coap_message.proofs.MessageSizes.{with_payload_size}
use Rattle.trace_text.proofs.generator.come_line.Goals as goal

pub unreachable-requires : goal.unreachable-requires
unreachable-requires c =
    let short = with_payload_size c.args.writer.now c.args.payload.now c.requires.open in
    absurd
    (omega (arith, short, c.in_default.ensures.too_long, c.requires.room, c.requires.payload))
