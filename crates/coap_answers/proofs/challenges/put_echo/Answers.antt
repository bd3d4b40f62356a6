use Rattle.std.proofs.Common.{length, ap, arith}
use Rattle.message_model.specs.OptionTable as table
use Rattle.message_model.specs.Spelling.{spelling}
use Rattle.coap_message.proofs.MessageSizes.{with_option_size}
use Rattle.coap_answers.proofs.challenges.put_echo.Goals as goal

pub unreachable-requires : goal.unreachable-requires
unreachable-requires c =
    let short =
    with_option_size c.args.writer.now (table.echo, c.args.value.now) c.requires.open_end in
    absurd (omega (arith, short, c.in_default.ensures.too_long, c.requires.value, c.requires.room))

pub returns-clause-size : goal.returns-clause-size
returns-clause-size c =
    let short =
    with_option_size c.args.writer.now (table.echo, c.args.value.now) c.requires.open_end in
    let same = ap (λ m. length (spelling m)) c.in-Ok.ensures.ok in
    omega (arith, short, same, c.requires.value)
