use Rattle.std.proofs.Common.{Some}
use Rattle.turn_lock.specs.Shown.{number_of}
use Rattle.thread_tests.proofs.turns.give_back.Given as goal

abbrev pub ghosts-give_back : goal.ghosts-give_back
ghosts-give_back a = record { added = Some (record { by = number_of a.pass.now }) }
