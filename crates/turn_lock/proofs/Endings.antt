-- What the rule says of a lock that is taken apart.
use Rattle.std.proofs.Common.{
  ◌≡◌,
  ℕ,
  ◌%◌,
  List,
  [],
  ◌∷◌,
  Option,
  Some,
  get_or,
  sym,
  ◌∙◌,
  subst,
  ap,
  length,
}
use Rattle.std.specs.Mem.Slots.{slots_items}
use mathlib.Core.Option.{some, some-injective, some-ne-none}
use lib.ListN.{get_elem?}
use Rattle.atomic_table.specs.Table.{State, Final, Seen}
use Rattle.atomic_table.specs.declared.owned.Closed.{Closed}
use Rattle.turn_lock.specs.Histories.{Extends, rows_of, AllBelow}
use Rattle.turn_lock.specs.Rule.{Kept, IsHome}
use Rattle.turn_lock.specs.Endings.{IfFree, IsFree, HasValue, IsFreeWith}
use Rattle.turn_lock.proofs.TakeMoves.{held_is, below_more}
use Rattle.turn_lock.specs.declared.views.View.{View}
use Rattle.turn_lock.specs.declared.lock.Ended.{Ended}
use Rattle.turn_lock.specs.declared.lock.Ended.TheVariants as ended

first_of : (ws : List ℕ) (w : ℕ) → get_elem? ws 0 ≡ some w → get_or ws 0 0 ≡ w
first_of [] w e = absurd (some-ne-none w (sym e))
first_of (x ∷ xs) w e = some-injective x w e

some_same : {A : Type 0} (x y : A) → Some x ≡ Some y → x ≡ y
some_same x y e = cc

-- what follows of each value follows where the turn was free
pub if_free : {T : Type 0} {P Q : T → Type 0} (left : Ended T)
    → ((value : T) → P value → Q value) → IfFree left P → IfFree left Q
if_free (ended.Free value) implies holds = implies value holds
if_free (ended.Held found) implies holds = tt

module _ {T R L A : Type 0} (stands : List R → T → Type 0) (number : R → ℕ) (label : T → L)
    (lab : L) (passes : ℕ) (closed : Closed (Option T) A) where
  abbrev LastOf : (State (Option T) (View R L) → Type 0) → Type 0
  LastOf holds = Final holds (slots_items closed.words) (slots_items closed.slots)

  module _ (left : LastOf (Kept stands number label lab passes)) where
    abbrev kept : Kept stands number label lab passes left.0
    kept = left.1

    same_word : (free : IsFree closed) → get_or left.0.words 0 0 ≡ free.0
    same_word free = first_of left.0.words free.0 (ap (λ l. get_elem? l 0) left.2 ∙ free.1)

    home : IsFree closed → IsHome stands number label lab kept.history left.0.homes
    home free = kept.home
        (held_is (length kept.history) (get_or left.0.words 0 0) kept.held kept.word
        (subst (λ (n : ℕ). n % 2 ≡ 0) (sym (same_word free)) free.2))

    at_home : (free : IsFree closed) → HasValue closed (home free).value
    at_home free = left.4 0 (Some (home free).value) (home free).home

    module _ (value : T) (found : IsFreeWith closed value) where
      is_value : (home found.0).value ≡ value
      is_value = let left_there = (home found.0).value in
          some_same left_there value
          (some-injective (Some left_there) (Some value) (sym (at_home found.0) ∙ found.1))

      stands_for : stands kept.history value
      stands_for = subst (stands kept.history) is_value (home found.0).stands_for

      has_label : label value ≡ lab
      has_label = ap label (sym is_value) ∙ (home found.0).label_is

  module _ (id : ℕ) (v : View R L)
      (left : LastOf (Seen (Kept stands number label lab passes) id v)) where
    -- the same, with no word of the pass
    abbrev unseen : LastOf (Kept stands number label lab passes)
    unseen = (left.0, left.1.0, left.2, left.3, left.4)

    module _ (value : T) (found : IsFreeWith closed value) where
      pub left_value : (history : List R) × Extends v.seen history
          × (v.mine ≡ rows_of number v.number history) × AllBelow number v.passes history
          × stands history value
      left_value = let k = left.1.0 in (
        k.history,
        k.seen id v left.1.1,
        k.only id v left.1.1,
        subst (λ (n : ℕ). AllBelow number n k.history) (sym (k.passes_is id v left.1.1))
            (below_more stands number label (length left.0.views) passes k.history k.few k.rows),
        stands_for unseen value found,
      )

      pub left_label : label value ≡ v.label
      left_label = has_label unseen value found ∙ sym (left.1.0.label_is id v left.1.1)
