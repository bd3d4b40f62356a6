use Rattle.std.proofs.Common.{◌≡◌, length}
use Rattle.coap_message.specs.OptionsLeft.{options_left}
use Rattle.coap_options.specs.ValuesLeft.{values_left}
use Rattle.coap_options.proofs.values.next_value.Given as goal

-- what was passed holds no value
abbrev pub invariant-options : goal.invariant-options
invariant-options l =
    values_left l.number (options_left l.left) ≡ values_left l.number (options_left l.options)

abbrev pub decreases-options : goal.decreases-options
decreases-options l = length (options_left l.left)
