use Rattle.std.proofs.Common.{◌≡◌, length}
use Rattle.coap_message.specs.OptionsLeft.{options_left}
use Rattle.stream_model.specs.Faults as faults
use Rattle.stream_reader.proofs.tails.has_critical.Given as goal

-- No option that was passed is critical.
abbrev pub invariant-options : goal.invariant-options
invariant-options l =
    faults.has_critical (options_left l.left)
    ≡ faults.has_critical (options_left l.options)

abbrev pub decreases-options : goal.decreases-options
decreases-options l = length (options_left l.left)
