-- What holds of each element by its index, with one more and with another in the place of one.
use Rattle.std.proofs.Common.{
  ◌≡◌,
  ℕ,
  zero,
  suc,
  pred,
  List,
  [],
  ◌∷◌,
  ◌++◌,
  set,
  length,
  Option,
  Some,
  None,
  ap,
  IfSome,
  slice_get,
  arith,
}

if_some : {X : Type 0} (P Q : X → Type 0) (o : Option X)
    → ((x : X) → P x → Q x)
    → IfSome o P
    → IfSome o Q
if_some P Q None f it = tt
if_some P Q (Some x) f it = f x it

-- one more
pub each_push : {X : Type 0} (P : ℕ → X → Type 0) (xs : List X) (y : X)
    → ((j : ℕ) → IfSome (slice_get xs j) (P j))
    → P (length xs) y
    → (j : ℕ)
    → IfSome (slice_get (xs ++ y ∷ []) j) (P j)
each_push P [] y all here zero = here
each_push P [] y all here (suc j) = tt
each_push P (x ∷ xs) y all here zero = all zero
each_push P (x ∷ xs) y all here (suc j) = each_push (λ n. P (suc n)) xs y (λ n. all (suc n)) here j

-- another in the place of one, where the rest holds of the others
pub each_set : {X : Type 0} (P Q : ℕ → X → Type 0) (xs : List X) (i : ℕ) (y : X)
    → ((j : ℕ) → IfSome (slice_get xs j) (P j))
    → ((j : ℕ) (x : X) → (i ≡ j → ⊥) → P j x → Q j x)
    → Q i y
    → (j : ℕ) → IfSome (slice_get (set xs i y) j) (Q j)
each_set P Q [] i y all keep here j = tt
each_set P Q (x ∷ xs) zero y all keep here zero = here
each_set P Q (x ∷ xs) zero y all keep here (suc j) =
    if_some (P (suc j)) (Q (suc j)) (slice_get xs j)
    (λ z. keep (suc j) z (λ same. omega (arith, same))) (all (suc j))
each_set P Q (x ∷ xs) (suc i) y all keep here zero =
    keep zero x (λ same. omega (arith, same)) (all zero)
each_set P Q (x ∷ xs) (suc i) y all keep here (suc j) =
    each_set (λ n. P (suc n)) (λ n. Q (suc n)) xs i y (λ n. all (suc n))
    (λ n z other. keep (suc n) z (λ same. other (ap pred same))) here j
