-- Facts on each two elements of a list.
use Rattle.std.proofs.Common.{
  zero,
  suc,
  Bool,
  true,
  false,
  cond,
  List,
  [],
  ◌∷◌,
  ◌++◌,
  map,
  filter,
  AllPairs,
  arith,
}
use Rattle.std.specs.List.{AllByRecursion}
use Rattle.std.proofs.lemmas.List.Elements.{All-from_recursion}
use Rattle.rd_base.proofs.lemmas.Each.{each_weaker, each_both, each_map, each_filter, each_push}

-- R holds of each element and each later one
abbrev pub PairsByRecursion : {X : Type 0} → (X → X → Type 0) → List X → Type 0
PairsByRecursion R [] = Unit {0}
PairsByRecursion R (x ∷ xs) = AllByRecursion (R x) xs × PairsByRecursion R xs

pub pairs_weaker : {X : Type 0} (R S : X → X → Type 0)
    → ((x y : X) → R x y → S x y)
    → (xs : List X)
    → PairsByRecursion R xs
    → PairsByRecursion S xs
pairs_weaker R S weak [] h = tt
pairs_weaker R S weak (x ∷ xs) h =
    (each_weaker (R x) (S x) (weak x) xs h.0, pairs_weaker R S weak xs h.1)

pub pairs_filter : {X : Type 0} (R : X → X → Type 0) (test : X → Bool) (xs : List X)
    → PairsByRecursion R xs
    → PairsByRecursion R (filter test xs)
pairs_filter R test [] h = tt
pairs_filter R test (x ∷ xs) h = by (test x) (pairs_filter R test xs h.1)
  where
    by : (b : Bool)
        → PairsByRecursion R (filter test xs)
        → PairsByRecursion R (cond b (x ∷ filter test xs) (filter test xs))
    by true rest = (each_filter (R x) test xs h.0, rest)
    by false rest = rest

pub pairs_push : {X : Type 0} (R : X → X → Type 0) (xs : List X) (x : X)
    → PairsByRecursion R xs
    → AllByRecursion (λ y. R y x) xs
    → PairsByRecursion R (xs ++ x ∷ [])
pairs_push R [] x h last = (tt, tt)
pairs_push R (y ∷ ys) x h last = (each_push (R y) ys x h.0 last.0, pairs_push R ys x h.1 last.1)

-- where something is known of each element too
pub pairs_map : {X Y : Type 0} (P : X → Type 0) (R : X → X → Type 0) (S : Y → Y → Type 0)
    (f : X → Y)
    → ((x y : X) → P x → P y → R x y → S (f x) (f y))
    → (xs : List X)
    → AllByRecursion P xs → PairsByRecursion R xs → PairsByRecursion S (map f xs)
pairs_map P R S f step [] known h = tt
pairs_map P R S f step (x ∷ xs) known h = (
  each_map (S (f x)) f xs
      (each_both P (R x) (λ y. S (f x) (f y)) (λ y p r. step x y known.0 p r) xs known.1 h.0),
  pairs_map P R S f step xs known.1 h.1,
)

-- by places
pub AllPairs-from_recursion : {X : Type 0} (R : X → X → Type 0) (xs : List X)
    → PairsByRecursion R xs
    → AllPairs R xs
AllPairs-from_recursion R [] h i j d below inside = absurd (omega arith)
AllPairs-from_recursion R (x ∷ xs) h i zero d below inside = absurd (omega arith)
AllPairs-from_recursion R (x ∷ xs) h zero (suc j) d below inside =
    All-from_recursion (R x) xs h.0 j d (omega arith)
AllPairs-from_recursion R (x ∷ xs) h (suc i) (suc j) d below inside =
    AllPairs-from_recursion R xs h.1 i j d (omega arith) (omega arith)

-- where something is known of each element too
pub pairs_known : {X : Type 0} (P : X → Type 0) (R S : X → X → Type 0)
    → ((x y : X) → P x → P y → R x y → S x y)
    → (xs : List X)
    → AllByRecursion P xs
    → PairsByRecursion R xs
    → PairsByRecursion S xs
pairs_known P R S step [] known h = tt
pairs_known P R S step (x ∷ xs) known h = (
  each_both P (R x) (S x) (λ y p r. step x y known.0 p r) xs known.1 h.0,
  pairs_known P R S step
      xs known.1 h.1,
)

pub pairs_both : {X : Type 0} (R S T : X → X → Type 0)
    → ((x y : X) → R x y → S x y → T x y)
    → (xs : List X)
    → PairsByRecursion R xs
    → PairsByRecursion S xs
    → PairsByRecursion T xs
pairs_both R S T both [] h k = tt
pairs_both R S T both (x ∷ xs) h k =
    (each_both (R x) (S x) (T x) (both x) xs h.0 k.0, pairs_both R S T both xs h.1 k.1)
