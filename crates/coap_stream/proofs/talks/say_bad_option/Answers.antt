use Rattle.std.proofs.Common.{arith}
use Rattle.message_model.specs.Numbers.{uint_bytes}
use Rattle.coap_stream.specs.Manners.{bad_csm_option}
use Rattle.coap_stream.proofs.SignalLaws.{bad_long, bad_short}
use Rattle.coap_stream.proofs.talks.say_bad_option.Goals as goal

pub returns-then-number-lt256 : goal.returns-then-number-lt256
returns-then-number-lt256 g c =
    c.say_with.ensures (bad_csm_option, uint_bytes c.args.number)
    (bad_short c.args.number (λ none. omega (arith, none, c.requires.0)) c.if-number-lt256.true)

pub returns : goal.returns
returns g c =
    c.say_with-2.ensures (bad_csm_option, uint_bytes c.args.number)
    (bad_long c.args.number (λ none. omega (arith, none, c.requires.0))
    (λ less. omega (arith, less, c.if-number-lt256.false)) c.requires.1)
