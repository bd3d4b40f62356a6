-- The options of a message end: each takes an octet or more.
use Rattle.std.specs.Prelude.{⊤}
use Rattle.std.proofs.Common.{length}
use Rattle.message_text.proofs.faults.tail_read.Given as goal

abbrev pub invariant-options : goal.invariant-options
invariant-options l = ⊤

-- how many octets are left
abbrev pub decreases-options : goal.decreases-options
decreases-options l = length l.rest
