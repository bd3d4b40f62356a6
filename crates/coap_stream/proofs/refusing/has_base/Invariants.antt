use Rattle.std.proofs.Common.{◌≡◌, length}
use Rattle.record_model.specs.Options.{has_named}
use Rattle.record_model.specs.Parameters.{base}
use Rattle.coap_options.specs.ValuesLeft.{queries_left}
use Rattle.coap_stream.proofs.refusing.has_base.Given as goal

-- None of those that were passed gives a base.
abbrev pub invariant-queries : goal.invariant-queries
invariant-queries l =
    has_named base (queries_left l.left) ≡ has_named base (queries_left l.queries)

abbrev pub decreases-queries : goal.decreases-queries
decreases-queries l = length (queries_left l.left)
