use Rattle.std.proofs.Common.{◌≡◌, ℕ, ◌+◌, ◌≤◌, true, Some, length, slice_get}
use Rattle.std.specs.Vec.{vec_capacity}
use Rattle.turn_lock.specs.Passes.{IsFresh}
use Rattle.turn_lock.specs.Shown.{id_of, lock_of, IsNew}
use Rattle.turn_lock.proofs.lock.TurnLock.cut.Given as goal

abbrev pub invariant-loop : goal.invariant-loop
invariant-loop g l = record {
  count : length l.passes.items + 1 ≡ l.counter;
  few : l.counter ≤ l.fn.seats;
  room : l.fn.seats ≤ vec_capacity l.passes;
  each : (i : ℕ) (p : _) → slice_get l.passes.items i ≡ Some p
      → IsNew (g.T.Replays.label l.self.table.shared.key.value.value) l.fn.seats i p
      × (lock_of p ≡ id_of l.self);
  last : IsFresh (g.T.Replays.label l.self.table.shared.key.value.value) l.fn.seats
      (length l.passes.items) l.last.me;
  table : l.last.table_id ≡ l.self.table.shared.table_id;
  mark : l.last.me.0.last ≡ true;
}
