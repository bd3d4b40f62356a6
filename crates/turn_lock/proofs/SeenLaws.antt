-- What two passes have seen.
use Rattle.std.proofs.Common.{◌≡◌, ◌⊎◌, inl, inr, ℕ, List, [], ◌∷◌, ◌++◌, sym, ap, ◌∙◌}
use Rattle.turn_lock.specs.Histories.{Extends}
use Rattle.turn_lock.specs.Rule.{SeenInOrder}

abbrev behind_first : {A : Type 0} → List A → List A
behind_first [] = []
behind_first (x ∷ xs) = xs

-- of two ends of one list one is an end of the other
two_ends : {A : Type 0} (front back xs ys : List A)
    → front ++ xs ≡ back ++ ys
    → Extends xs ys ⊎ Extends ys xs
two_ends [] back xs ys e = inr (back, e)
two_ends (a ∷ front) [] xs ys e = inl (a ∷ front, sym e)
two_ends (a ∷ front) (b ∷ back) xs ys e = two_ends front back xs ys (ap behind_first e)

pub seen_ordered : {T R L : Type 0} (stands : List R → T → Type 0) (number : R → ℕ) (label : T → L)
    → SeenInOrder stands number label
seen_ordered stands number label lab passes s k i j v w at there =
    let older = k.seen i v at in
    let newer = k.seen j w there in
    two_ends older.0 newer.0 v.seen w.seen (sym older.1 ∙ newer.1)
