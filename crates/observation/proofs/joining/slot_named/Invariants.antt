use Rattle.std.proofs.Common.{◌≡◌, drop, find}
use Rattle.observers.specs.Standing.{is_named}
use Rattle.observation.proofs.joining.slot_named.Given as goal

abbrev pub invariant-observers : goal.invariant-observers
invariant-observers l =
    find (is_named l.peer l.token) (drop l.index l.observers)
    ≡ find (is_named l.peer l.token) l.observers
