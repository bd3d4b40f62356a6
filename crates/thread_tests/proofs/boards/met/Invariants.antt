use Rattle.std.proofs.Common.{◌≡◌}
use Rattle.thread_tests.proofs.boards.met.Given as goal

abbrev pub invariant-rounds : goal.invariant-rounds
invariant-rounds g l = l.looker.name ≡ l.board.publisher.name
