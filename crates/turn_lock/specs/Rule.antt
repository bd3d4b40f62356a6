-- The rule of the turn, which holds of the word, of the slot and of all views between any two
-- steps.
use Rattle.std.specs.Prelude.{
  ◌≡◌,
  ◌⊎◌,
  ℕ,
  ◌+◌,
  ◌*◌,
  ◌%◌,
  ◌^◌,
  ◌<◌,
  ◌≤◌,
  Bool,
  true,
  false,
  cond,
  List,
  [],
  length,
  Option,
  Some,
  slice_index,
}
use mathlib.Core.Option.{some}
use lib.ListN.{get_elem?}
use Rattle.atomic_table.specs.Table.{State}
use Rattle.turn_lock.specs.Histories.{Extends, rows_of, AllBelow}
use Rattle.turn_lock.specs.declared.views.View.{View}

-- Returns the word: the length of the history modulo 2^62, and a bit that is set while the turn is
-- held.
abbrev pub word_of : ℕ → Bool → ℕ
word_of n held = 2 * (n % 2 ^ 62) + cond held 1 0

-- Returns what the first pass knows.
abbrev pub first_view : {R L : Type 0} → L → ℕ → View R L
first_view lab passes = record {
  number = 0;
  seen = [];
  mine = [];
  label = lab;
  passes = passes;
  holding = false;
  last = true;
}

-- A history whose rows are each of one of `passes` passes. The rows of a pass are its own, in
-- order.
pub record IsOfPasses {R L : Type 0} (number : R → ℕ) (passes : ℕ) (views : List (View R L))
    (history : List R) : Type 0 where
  pub below : AllBelow number passes history
  pub own : (id : ℕ) (v : View R L) → get_elem? views id ≡ some v
      → rows_of number id history ≡ v.mine

-- States that each pass of a lock exists, and that this holds of what it knows.
abbrev pub OfEachPass : {R L : Type 0} → ℕ → List (View R L) → (View R L → Type 0) → Type 0
OfEachPass passes views P = (id : ℕ) → id < passes
    → (v : View _ _) × (get_elem? views id ≡ some v) × P v

module _ {T R L : Type 0} (stands : List R → T → Type 0) (number : R → ℕ) (label : T → L) where
  -- A slot in the lock, whose value stands for the history and has the lock's label.
  pub record IsHome (lab : L) (history : List R)
      (homes : List (mathlib.Core.Option.Option (Option T))) : Type 0 where
    pub value : T
    pub home : get_elem? homes 0 ≡ some (some (Some value))
    pub stands_for : stands history value
    pub label_is : label value ≡ lab

  pub record Kept (lab : L) (passes : ℕ) (s : State (Option T) (View R L)) : Type 0 where
    pub history : List R
    pub held : Bool
    -- There is one word, which contains the length of the history and whether the turn is held, and
    -- one slot.
    pub words : length s.words ≡ 1
    pub slots : length s.homes ≡ 1
    pub word : slice_index s.words 0 ≡ word_of (length history) held
    -- 1. What a view has seen is an earlier state of the history, so of two such lists one is the
    --    beginning of the other. One view has seen the whole history.
    pub seen : (id : ℕ) (v : View R L) → get_elem? s.views id ≡ some v → Extends v.seen history
    pub all_seen : (id : ℕ) × (v : View R L) × (get_elem? s.views id ≡ some v) × (v.seen ≡ history)
    -- 2. The turn is held if and only if a view holds it, and at most one does.
    pub holder : held ≡ true
        → (id : ℕ) × (v : View R L) × (get_elem? s.views id ≡ some v) × (v.holding ≡ true)
    pub idle : held ≡ false
        → (id : ℕ) (v : View R L)
        → get_elem? s.views id ≡ some v
        → v.holding ≡ false
    pub one : (i j : ℕ) (v w : View R L)
        → get_elem? s.views i ≡ some v
        → get_elem? s.views j ≡ some w
        → v.holding ≡ true
        → w.holding ≡ true
        → i ≡ j
    -- 3. If no view holds the turn, the slot is in the lock and its value stands for the history.
    pub home : held ≡ false → IsHome lab history s.homes
    -- 4. A view that holds the turn has seen the whole history.
    pub whole : (id : ℕ) (v : View R L)
        → get_elem? s.views id ≡ some v
        → v.holding ≡ true
        → v.seen ≡ history
    -- 5. Each row has the number of a view. A view's number is its index among the views. Its own
    --    rows are those of what it has seen that have its number, and the history has no further
    --    ones.
    pub rows : AllBelow number (length s.views) history
    pub number_is : (id : ℕ) (v : View R L) → get_elem? s.views id ≡ some v → v.number ≡ id
    pub mine : (id : ℕ) (v : View R L)
        → get_elem? s.views id ≡ some v
        → v.mine ≡ rows_of number v.number v.seen
    pub only : (id : ℕ) (v : View R L)
        → get_elem? s.views id ≡ some v
        → v.mine ≡ rows_of number v.number history
    -- 6. All views have the lock's label, and so has the value in the lock.
    pub label_is : (id : ℕ) (v : View R L) → get_elem? s.views id ≡ some v → v.label ≡ lab
    -- 7. There are no more views than the lock has passes, and each view knows that number.
    pub few : length s.views ≤ passes
    pub passes_is : (id : ℕ) (v : View R L) → get_elem? s.views id ≡ some v → v.passes ≡ passes
    -- The mark of the view that was made last: while passes are made, each is split off it.
    pub last : (id : ℕ) (v : View R L)
        → get_elem? s.views id ≡ some v
        → v.last ≡ true
        → id + 1 ≡ length s.views

  -- States that of what two views have seen, one is an earlier state of the other.
  abbrev pub SeenInOrder : Type 0
  SeenInOrder =
      (lab : L) (passes : ℕ) (s : State (Option T) (View R L))
      → Kept lab passes s
      → (i j : ℕ) (v w : View R L)
      → get_elem? s.views i ≡ some v
      → get_elem? s.views j ≡ some w
      → Extends v.seen w.seen ⊎ Extends w.seen v.seen

  -- States that a history is that of the lock's passes, whatever they do. Until one of them has a
  -- row of its own, it is empty.
  abbrev pub HistoryOfPasses : Type 0
  HistoryOfPasses =
      (lab : L) (passes : ℕ) (s : State (Option T) (View R L))
      → (kept : Kept lab passes s)
      → IsOfPasses number passes s.views kept.history
      × (OfEachPass passes s.views (λ v. v.mine ≡ []) → kept.history ≡ [])
