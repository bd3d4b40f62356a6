use Rattle.std.proofs.Common.{◌≡◌, false}
use Rattle.turn_lock.specs.Shown.{lock_of, is_holding}
use Rattle.thread_tests.proofs.turns.steps.Given as goal

abbrev pub invariant-steps : goal.invariant-steps
invariant-steps g l = record {
  lock : lock_of l.pass ≡ lock_of l.fn.pass;
  idle : is_holding l.pass ≡ false;
}
