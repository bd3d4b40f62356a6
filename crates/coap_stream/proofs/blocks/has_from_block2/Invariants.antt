use Rattle.std.proofs.Common.{◌≡◌, length}
use Rattle.std.specs.List.{list_any}
use Rattle.coap_message.specs.OptionsLeft.{options_left}
use Rattle.coap_stream.specs.Manners as manners
use Rattle.coap_stream.proofs.blocks.has_from_block2.Given as goal

-- All options that were passed come before Block2.
abbrev pub invariant-options : goal.invariant-options
invariant-options l = list_any manners.is_from_block2 (options_left l.left)
    ≡ list_any manners.is_from_block2 (options_left l.options)

abbrev pub decreases-options : goal.decreases-options
decreases-options l = length (options_left l.left)
