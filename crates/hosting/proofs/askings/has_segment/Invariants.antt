use Rattle.std.proofs.Common.{◌≡◌, length}
use Rattle.coap_message.specs.OptionsLeft.{options_left}
use Rattle.hosting.specs.Askings as spec
use Rattle.hosting.proofs.askings.has_segment.Given as goal

-- none that was passed is such an option
abbrev pub invariant-options : goal.invariant-options
invariant-options l =
    spec.has_segment l.segment (options_left l.left)
    ≡ spec.has_segment l.segment (options_left l.options)

abbrev pub decreases-options : goal.decreases-options
decreases-options l = length (options_left l.left)
