use Rattle.std.proofs.Common.{◌≡◌}
use Rattle.observers.specs.Standing.{next_ready}
use Rattle.observers.proofs.walks.next_in.Given as goal

abbrev pub invariant-observers : goal.invariant-observers
invariant-observers l = next_ready l.index l.observers ≡ next_ready l.initial.index l.observers
