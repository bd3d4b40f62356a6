use Rattle.std.proofs.Common.{◌≡◌}
use Rattle.std.specs.List.{All}
use Rattle.rd_bench.proofs.parties.parties.Given as goal

abbrev pub invariant-seats : goal.invariant-seats
invariant-seats l = All (λ s. s.hall ≡ l.hall) l.seats
