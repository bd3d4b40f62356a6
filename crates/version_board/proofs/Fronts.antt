-- Beginnings of one list.
use Rattle.std.proofs.Common.{
  ◌≡◌,
  inl,
  inr,
  ℕ,
  ◌≤◌,
  List,
  [],
  ◌∷◌,
  ◌++◌,
  length,
  refl,
  ap,
  sym,
  ◌∙◌,
  arith,
  append_assoc,
  ⊎_elim,
}
use Rattle.std.proofs.lemmas.List.{append-nil}
use mathlib.Core.List.{IsPrefix}
use Rattle.history_model.specs.declared.entries.Entry.{Entry}
use Rattle.history_model.specs.Replay.{count_after, counted}
use Rattle.history_model.proofs.ReplayLaws.{counted-above}
use Rattle.history_model.proofs.TagLaws.{same_counted}
use Rattle.version_board.specs.Books.{InOrder}

-- each list is its own beginning
pub prefix_self : {A : Type 0} (xs : List A) → IsPrefix xs xs
prefix_self xs = ([], append-nil xs)

-- a beginning of a beginning is a beginning
pub prefix_trans : {A : Type 0} (xs ys zs : List A)
    → IsPrefix xs ys
    → IsPrefix ys zs
    → IsPrefix xs zs
prefix_trans xs ys zs p q =
    (p.0 ++ q.0, sym (append_assoc xs p.0 q.0) ∙ (ap (λ w. w ++ q.0) p.1 ∙ q.1))

-- of two beginnings of one list one is the beginning of the other
pub two_beginnings : {A : Type 0} (xs ys zs : List A)
    → IsPrefix xs zs
    → IsPrefix ys zs
    → InOrder xs ys
two_beginnings [] ys zs p q = inl (ys, refl)
two_beginnings (x ∷ xs) [] zs p q = inr (x ∷ xs, refl)
two_beginnings (x ∷ xs) (y ∷ ys) [] p q = absurd (cc (p.1))
two_beginnings (x ∷ xs) (y ∷ ys) (z ∷ zs) p q =
    let heads : x ≡ y = cc (p.1, q.1) in
    ⊎_elim
    (λ r. inl (r.0, cc (heads, r.1)))
    (λ r. inr (r.0, cc (heads, r.1)))
    (two_beginnings xs ys zs (p.0, cc (p.1)) (q.0, cc (q.1)))

-- entries are counted one after the other
counted-append : (first : ℕ) (xs ys : List Entry)
    → counted first (xs ++ ys) ≡ counted (counted first xs) ys
unfolding counted
counted-append first [] ys = refl
counted-append first (x ∷ xs) ys = counted-append (count_after first x) xs ys

-- of a beginning no more are counted
prefix_count : (xs ys : List Entry) → IsPrefix xs ys → counted 0 xs ≤ counted 0 ys
prefix_count xs ys p =
    let above = counted-above (counted 0 xs) p.0 in
    let all : counted (counted 0 xs) p.0 ≡ counted 0 ys =
    sym (counted-append 0 xs p.0) ∙ ap (counted 0) p.1 in
    omega (arith, above, all)

-- of two lists in order the one of which no more are counted is the beginning
pub shorter_first : (xs ys : List Entry)
    → InOrder xs ys
    → counted 0 xs ≤ counted 0 ys
    → IsPrefix xs ys
shorter_first xs ys order le = ⊎_elim
    (λ p. p)
    (λ (p : IsPrefix ys xs).
    let few = prefix_count ys xs p in
    let e : ys ≡ xs = same_counted 0 xs ys xs p (prefix_self xs) (omega (arith, le, few)) in
    ([], append-nil xs ∙ sym e))
    order

-- the other way round they are in order too
pub swapped : {A : Type 0} (xs ys : List A) → InOrder xs ys → InOrder ys xs
swapped xs ys (inl p) = inr p
swapped xs ys (inr p) = inl p

-- what begins the first of two lists in order is in order with the second
pub beginning_in_order : {A : Type 0} (front xs ys : List A)
    → IsPrefix front xs
    → InOrder xs ys
    → InOrder front ys
beginning_in_order front xs ys p order = ⊎_elim
    (λ q. inl (prefix_trans front xs ys p q))
    (λ q. two_beginnings front ys xs p q)
    order
