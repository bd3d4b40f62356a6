use Rattle.std.proofs.Common.{◌≡◌, length}
use Rattle.coap_message.specs.OptionsLeft.{options_left}
use Rattle.coap_stream.specs.Manners as manners
use Rattle.coap_stream.proofs.signals.first_critical.Given as goal

-- No option that was passed is critical.
abbrev pub invariant-options : goal.invariant-options
invariant-options l = manners.first_critical (options_left l.left)
    ≡ manners.first_critical (options_left l.options)

abbrev pub decreases-options : goal.decreases-options
decreases-options l = length (options_left l.left)
