-- The six kinds of step. Each changes the view of the seat that makes it, and no other; `m` is the
-- seat before, `n` the seat after.
use Rattle.std.specs.Prelude.{
  ◌≡◌,
  ℕ,
  ◌+◌,
  ◌==◌,
  true,
  false,
  List,
  [],
  ◌∷◌,
  length,
  Option,
  Some,
  None,
}
use Rattle.std.specs.Bool.{MatchBool}
use Rattle.atomic_table.specs.Table.{Me, Step}
use Rattle.turn_lock.specs.Histories.{Extends, rows_of, AllBelow}
use Rattle.turn_lock.specs.Rule.{word_of}
use Rattle.turn_lock.specs.declared.views.View.{View}

-- Returns the view after another was split off it: it loses its mark.
abbrev pub kept_view : {R L : Type 0} → View R L → View R L
kept_view v = record {
  number = v.number;
  seen = v.seen;
  mine = v.mine;
  label = v.label;
  passes = v.passes;
  holding = v.holding;
  last = false;
}

-- Returns the view that is split off. It has the next number, the same history and label, and no
-- row of its own.
abbrev pub next_view : {R L : Type 0} → View R L → View R L
next_view v = record {
  number = v.number + 1;
  seen = v.seen;
  mine = [];
  label = v.label;
  passes = v.passes;
  holding = false;
  last = true;
}

module _ {T R L : Type 0} (stands : List R → T → Type 0) (number : R → ℕ) (label : T → L) where
  -- A take on the word, from free to held. The pass holds the turn and has seen the whole history.
  -- It has the slot, whose value stands for the history.
  pub record Took (m n : Me (Option T) (View R L)) (found : ℕ) : Type 0 where
    pub value : T
    pub slot : n.1 ≡ (0, Some value) ∷ []
    pub holding : n.0.holding ≡ true
    pub seen : Extends m.0.seen n.0.seen
    pub stands_for : stands n.0.seen value
    pub value_label : label value ≡ m.0.label
    pub number_is : n.0.number ≡ m.0.number
    pub mine : n.0.mine ≡ m.0.mine
    pub own : n.0.mine ≡ rows_of number n.0.number n.0.seen
    pub label_is : n.0.label ≡ m.0.label
    pub passes_is : n.0.passes ≡ m.0.passes
    pub below : AllBelow number n.0.passes n.0.seen
    pub word : found ≡ word_of (length n.0.seen) false

  -- States that a take on the word failed: nothing changes.
  abbrev pub DidNotTake : Me (Option T) (View R L) → Me (Option T) (View R L) → Type 0
  DidNotTake m n = n ≡ m

  -- States that a take succeeded or failed, as the number that was found shows.
  abbrev pub Takes : Step (Option T)
      → Me (Option T) (View R L)
      → ℕ
      → Me (Option T) (View R L)
      → Type 0
  Takes st m found n = MatchBool (found == st.first) (Took m n found) (DidNotTake m n)

  -- The slot, taken out by the holder: the value comes out, and the view does not change.
  pub record CameOut (m n : Me (Option T) (View R L)) (value : T) : Type 0 where
    pub before : m.1 ≡ (0, Some value) ∷ []
    pub after : n.1 ≡ (0, None) ∷ []
    pub view : n.0 ≡ m.0

  -- The slot, put in by the holder: the value goes in, and the view does not change.
  pub record WentIn (m n : Me (Option T) (View R L)) (value : T) : Type 0 where
    pub before : m.1 ≡ (0, None) ∷ []
    pub after : n.1 ≡ (0, Some value) ∷ []
    pub view : n.0 ≡ m.0

  -- A pass that may give the turn back. It holds the turn, and the value in its slot stands for the
  -- history with one more row, which has the number of the pass.
  pub record IsReady (added : R) (m : Me (Option T) (View R L)) : Type 0 where
    pub value : T
    pub slot : m.1 ≡ (0, Some value) ∷ []
    pub holding : m.0.holding ≡ true
    pub number_is : number added ≡ m.0.number
    pub stands_for : stands (added ∷ m.0.seen) value
    pub label_is : label value ≡ m.0.label

  -- A give on the word, to one more row and free. The row is added to what was seen and to the
  -- pass's own rows, and the slot goes back into the lock.
  pub record Gave (added : R) (m n : Me (Option T) (View R L)) : Type 0 where
    pub slot : n.1 ≡ []
    pub holding : n.0.holding ≡ false
    pub seen : n.0.seen ≡ added ∷ m.0.seen
    pub mine : n.0.mine ≡ added ∷ m.0.mine
    pub own : n.0.mine ≡ rows_of number n.0.number n.0.seen
    pub number_is : n.0.number ≡ m.0.number
    pub label_is : n.0.label ≡ m.0.label
    pub passes_is : n.0.passes ≡ m.0.passes
    pub below : AllBelow number n.0.passes n.0.seen

  abbrev pub Gives : Option R
      → Step (Option T)
      → Me (Option T) (View R L)
      → ℕ
      → Me (Option T) (View R L)
      → Type 0
  Gives picked st m found n = (added : R) × (picked ≡ Some added) × Gave added m n

-- A split, while the lock is made: the view is split in two, and nothing else changes.
pub record WasSplit {T R L : Type 0} (m n new : Me (Option T) (View R L)) : Type 0 where
  pub kept : n ≡ (kept_view m.0, m.1)
  pub next : new ≡ (next_view m.0, [])
