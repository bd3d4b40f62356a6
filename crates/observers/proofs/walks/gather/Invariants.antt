use Rattle.std.proofs.Common.{◌≡◌, ◌≤◌, ◌++◌, drop, length, vec_capacity}
use Rattle.observers.specs.AwaitedPeers.{awaited_of}
use Rattle.observers.proofs.walks.gather.Given as goal

abbrev pub invariant-observers : goal.invariant-observers
invariant-observers l = record {
  peers :
      l.awaited.items ++ awaited_of (drop l.observer-index l.observers) ≡ awaited_of l.observers;
  few : length l.awaited.items ≤ l.observer-index;
  capacity : vec_capacity l.awaited ≡ vec_capacity l.initial.awaited;
}
