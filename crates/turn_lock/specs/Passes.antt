-- A pass between two calls, and a new one.
use Rattle.std.specs.Prelude.{◌≡◌, ℕ, Bool, false, cond, List, [], ◌∷◌, Option, None}
use Rattle.atomic_table.specs.Table.{Me}
use Rattle.turn_lock.specs.declared.views.View.{View}

-- Returns the slots that a pass has: the empty one while it holds the turn, otherwise none.
abbrev pub slots_of : {T : Type 0} → Bool → List (ℕ × Option T)
slots_of holding = cond holding ((0, None) ∷ []) []

-- A pass that has seen nothing.
pub record IsFresh {T R L : Type 0} (lab : L) (passes number : ℕ)
    (me : Me (Option T) (View R L)) : Type 0 where
  pub number_is : me.0.number ≡ number
  pub label_is : me.0.label ≡ lab
  pub passes_is : me.0.passes ≡ passes
  pub idle : me.0.holding ≡ false
  pub seen : me.0.seen ≡ []
  pub mine : me.0.mine ≡ []
  pub slot : me.1 ≡ []
