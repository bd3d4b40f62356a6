use Rattle.std.proofs.Common.{length}
use Rattle.coap_message.proofs.ViewLemmas.{Walked}
use Rattle.coap_message.proofs.datagrams.tail_at.Given as goal

-- options were read up to what is left
abbrev pub invariant-options : goal.invariant-options
invariant-options l = Walked l.bytes l.before l.rest

abbrev pub decreases-options : goal.decreases-options
decreases-options l = length l.rest
