use Rattle.std.proofs.Common.{◌≡◌, ◌+◌, length}
use Rattle.coap_message.specs.OptionsLeft.{options_left}
use Rattle.hosting.specs.Askings as spec
use Rattle.hosting.proofs.askings.has_more_queries.Given as goal

-- what is left may have as many as there is room for
abbrev pub invariant-options : goal.invariant-options
invariant-options l =
    spec.query_count (options_left l.left) + l.most
    ≡ spec.query_count (options_left l.options) + l.room

abbrev pub decreases-options : goal.decreases-options
decreases-options l = length (options_left l.left)
