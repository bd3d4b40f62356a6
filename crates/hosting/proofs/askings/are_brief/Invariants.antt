use Rattle.std.proofs.Common.{◌≡◌, ◌+◌, ◌==◌, length}
use Rattle.std.specs.List.{list_any}
use Rattle.message_model.specs.OptionTable as table
use Rattle.coap_message.specs.OptionsLeft.{options_left}
use Rattle.hosting.specs.Askings as spec
use Rattle.hosting.proofs.askings.are_brief.Given as goal

-- none that was passed is Observe, and what is left may have as many as there is room for
abbrev pub invariant-options : goal.invariant-options
invariant-options l =
    (list_any (λ option. option.0 == table.observe) (options_left l.left)
    ≡ list_any (λ option. option.0 == table.observe) (options_left l.options))
    × (spec.query_count (options_left l.left) + l.most
    ≡ spec.query_count (options_left l.options) + l.room)

abbrev pub decreases-options : goal.decreases-options
decreases-options l = length (options_left l.left)
