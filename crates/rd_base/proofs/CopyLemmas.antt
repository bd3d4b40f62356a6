-- Lemmas on pieces of a list of octets.
use Rattle.std.proofs.Common.{
  ◌≡◌,
  ℕ,
  ◌+◌,
  ◌-◌,
  ◌<◌,
  List,
  [],
  ◌++◌,
  length,
  take,
  drop,
  sym,
  ap,
  ◌∙◌,
  subst,
  take-append-drop,
  arith,
}
use Rattle.std.proofs.lemmas.List.{drop-drop, drop_all}
use Rattle.std.specs.Prelude.{min}

-- what was copied from a place, and what stands after it
pub drop-split : (at n : ℕ) (xs into : List ℕ)
    → take n into ≡ take n (drop at xs)
    → drop at xs ≡ take n into ++ drop (at + n) xs
drop-split at n xs into copied =
    sym (take-append-drop n (drop at xs))
    ∙ ap (λ l. l ++ drop n (drop at xs)) (sym copied)
    ∙ ap (λ l. take n into ++ l) (drop-drop n at xs)

-- The octets that were copied are the first of those that were left, and none were only where there
-- was no room or nothing left.
pub copied_front : (at n room : ℕ) (xs bytes into : List ℕ)
    → bytes ≡ xs
    → n ≡ min (length bytes - at) room
    → room ≡ length into
    → take n into ≡ take n (drop at bytes)
    → (drop at xs ≡ take n into ++ drop (at + n) xs)
    × (n ≡ 0 → 0 < length into → drop (at + n) xs ≡ [])
copied_front at n room xs bytes into same count fits copied =
    let size : length bytes ≡ length xs = ap length same in (
      drop-split at n xs into (subst (λ (l : List ℕ). take n into ≡ take n (drop at l)) same
          copied),
      λ none some. drop_all (at + n) xs (omega arith),
    )
