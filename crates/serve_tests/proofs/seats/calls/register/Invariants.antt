use Rattle.rd_seat.specs.Jobs.{last_place}
use Rattle.serve_tests.proofs.seats.calls.register.Given as goal

abbrev pub ghost-go : goal.ghost-go
ghost-go g a = last_place a.self.now.seen
