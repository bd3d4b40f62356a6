-- The moments so far may be passed in.
use Rattle.std.specs.List.{All}
use Rattle.udp_link.specs.Clocks.{IsHandedIn}
use Rattle.registrant_tests.proofs.ends.clock_of.Given as goal

abbrev pub invariant-loop-at : goal.invariant-loop-at
invariant-loop-at l = All IsHandedIn l.moments.items
