-- The result of taking a lock apart.
use Rattle.std.specs.Prelude.{◌≡◌, ℕ, ◌%◌, Option, Some}
use Rattle.std.specs.Mem.Slots.{slots_items}
use mathlib.Core.Option.{some}
use lib.ListN.{get_elem?}
use Rattle.atomic_table.specs.declared.owned.Closed.{Closed}
use Rattle.turn_lock.specs.declared.lock.Ended.{Ended}
use Rattle.turn_lock.specs.declared.lock.Ended.TheVariants as ended

-- States that this holds of the value, if the turn was free.
abbrev pub IfFree : {T : Type 0} → Ended T → (T → Type 0) → Type 0
IfFree (ended.Free value) P = P value
IfFree (ended.Held found) P = Unit {0}

module _ {T A : Type 0} (closed : Closed (Option T) A) where
  -- States that the word says that the turn is free.
  abbrev pub IsFree : Type 0
  IsFree = (word : ℕ) × (get_elem? (slots_items closed.words) 0 ≡ some word) × (word % 2 ≡ 0)

  -- States that this value is in the slot.
  abbrev pub HasValue : T → Type 0
  HasValue value = get_elem? (slots_items closed.slots) 0 ≡ some (Some value)

  -- States that the turn is free, and that this value is in the slot.
  abbrev pub IsFreeWith : T → Type 0
  IsFreeWith value = IsFree × HasValue value

  -- States that some value is in the slot, if the turn is free.
  abbrev pub HasValueWhereFree : Type 0
  HasValueWhereFree = IsFree → (value : T) × HasValue value
