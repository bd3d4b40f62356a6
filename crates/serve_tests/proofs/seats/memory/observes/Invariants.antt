use Rattle.std.proofs.Common.{◌≡◌}
use Rattle.serve_tests.proofs.seats.memory.observes.Given as goal

abbrev pub invariant-tries : goal.invariant-tries
invariant-tries g l = l.seat.hall ≡ l.hall
