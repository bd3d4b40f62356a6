use Rattle.std.proofs.Common.{◌≡◌, length}
use Rattle.coap_message.specs.OptionsLeft.{options_left}
use Rattle.coap_stream.specs.Manners as manners
use Rattle.coap_stream.proofs.signals.size_in.Given as goal

-- No option that was passed is a Max-Message-Size.
abbrev pub invariant-options : goal.invariant-options
invariant-options l = manners.size_in (options_left l.left)
    ≡ manners.size_in (options_left l.options)

abbrev pub decreases-options : goal.decreases-options
decreases-options l = length (options_left l.left)
