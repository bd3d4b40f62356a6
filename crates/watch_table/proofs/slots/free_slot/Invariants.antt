use Rattle.std.proofs.Common.{◌≡◌, ℕ, ◌<◌, nat_eq, is_some, true}
use Rattle.std.specs.Map.{lookup}
use Rattle.watch_table.proofs.slots.free_slot.Given as goal

abbrev pub invariant-slots : goal.invariant-slots
invariant-slots l =
    (k : ℕ) → k < l.slot-counter → is_some (lookup (nat_eq k) l.watches.entries) ≡ true
