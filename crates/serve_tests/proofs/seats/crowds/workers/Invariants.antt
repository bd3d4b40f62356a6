use Rattle.std.proofs.Common.{◌≡◌}
use Rattle.std.specs.List.{All}
use Rattle.serve_tests.proofs.seats.crowds.workers.Given as goal

abbrev pub invariant-seats : goal.invariant-seats
invariant-seats l = All (λ s. s.hall ≡ l.hall) l.seats
