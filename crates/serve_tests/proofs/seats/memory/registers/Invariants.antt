use Rattle.std.proofs.Common.{◌≡◌}
use Rattle.rd_seat.specs.Jobs.{last_place}
use Rattle.serve_tests.proofs.seats.memory.registers.Given as goal

abbrev pub ghost-go : goal.ghost-go
ghost-go g a = last_place a.self.now.seen

abbrev pub invariant-tries : goal.invariant-tries
invariant-tries g l = l.seat.hall ≡ l.hall
