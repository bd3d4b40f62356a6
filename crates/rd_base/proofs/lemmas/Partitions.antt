-- A list cut at the point up to which a test passes: each part is what a filter keeps.
use Rattle.std.proofs.Common.{
  ◌≡◌,
  ℕ,
  ◌+◌,
  ◌<◌,
  Bool,
  true,
  false,
  not,
  List,
  ◌++◌,
  length,
  take,
  drop,
  filter,
  sym,
  ap,
  ◌∙◌,
  append-nil,
  length-take,
  length-drop,
  arith,
}
use Rattle.std.specs.List.{AllByRecursion}
use Rattle.std.specs.List.Sorted.{IsPartitionPoint}
use Rattle.std.proofs.lemmas.List.{take-append-drop, get_or-take, get_or-drop}
use Rattle.std.proofs.lemmas.List.Elements.{filter-append, recursion_from_All}
use Rattle.rd_base.proofs.lemmas.Each.{each_weaker}
use Rattle.rd_base.proofs.lemmas.Filters.{filter_all, filter_none}

passes_before : {X : Type 0} (test : X → Bool) (xs : List X) (n : ℕ)
    → IsPartitionPoint (λ x. test x ≡ true) (λ x. test x ≡ false) xs n
    → AllByRecursion (λ x. test x ≡ true) (take n xs)
passes_before test xs n h =
    recursion_from_All (λ x. test x ≡ true) (take n xs) (λ k d within.
    let below : k < n = omega (arith, within, length-take n xs) in
    rw (get_or-take n xs k d below) (h.0 k d (omega arith) below))

fails_after : {X : Type 0} (test : X → Bool) (xs : List X) (n : ℕ)
    → IsPartitionPoint (λ x. test x ≡ true) (λ x. test x ≡ false) xs n
    → AllByRecursion (λ x. test x ≡ false) (drop n xs)
fails_after test xs n h =
    recursion_from_All (λ x. test x ≡ false) (drop n xs) (λ k d within.
    let inside : n + k < length xs = omega (arith, within, length-drop n xs) in
    rw (get_or-drop n xs k d) (h.1 (n + k) d (omega arith) inside))

filter_cut : {X : Type 0} (test : X → Bool) (xs : List X) (n : ℕ)
    → filter test xs ≡ filter test (take n xs) ++ filter test (drop n xs)
filter_cut test xs n =
    ap (λ whole. filter test whole) (sym (take-append-drop n xs))
    ∙ filter-append test (take n xs) (drop n xs)

-- what comes before the cut is what passes
pub first_cut : {X : Type 0} (test : X → Bool) (xs : List X) (n : ℕ)
    → IsPartitionPoint (λ x. test x ≡ true) (λ x. test x ≡ false) xs n
    → take n xs ≡ filter test xs
first_cut test xs n h =
    let front = filter_all test (take n xs) (passes_before test xs n h) in
    let rest = filter_none test (drop n xs) (fails_after test xs n h) in
    rw (filter_cut test xs n, front, rest, append-nil)

-- what comes after it is what passes the opposite test
pub rest_cut : {X : Type 0} (test other : X → Bool)
    → ((x : X) → other x ≡ not (test x))
    → (xs : List X) (n : ℕ)
    → IsPartitionPoint (λ x. test x ≡ true) (λ x. test x ≡ false) xs n
    → drop n xs ≡ filter other xs
rest_cut test other opposite xs n h =
    let front =
    filter_none other (take n xs)
    (each_weaker (λ x. test x ≡ true) (λ x. other x ≡ false) (λ x t. opposite x ∙ ap not t)
    (take n xs) (passes_before test xs n h)) in
    let rest =
    filter_all other (drop n xs)
    (each_weaker (λ x. test x ≡ false) (λ x. other x ≡ true) (λ x t. opposite x ∙ ap not t)
    (drop n xs) (fails_after test xs n h)) in
    rw (filter_cut other xs n, front, rest)
