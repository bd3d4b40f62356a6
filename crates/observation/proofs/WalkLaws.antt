-- Walks over observers by their index: the first that passes a test, and how many there are without
-- it.
use Rattle.std.proofs.Common.{
  ◌≡◌,
  ℕ,
  zero,
  suc,
  ◌+◌,
  ◌≤◌,
  nat_lt,
  nat_le,
  Bool,
  true,
  false,
  cond,
  List,
  [],
  ◌∷◌,
  length,
  drop,
  find,
  slice_get,
  Option,
  Some,
  None,
  option_map,
  refl,
  sym,
  ap,
  ◌∙◌,
  arith,
}
use Rattle.std.proofs.lemmas.Bool.Decides.{nat_tests}
use Rattle.rd_base.specs.Firsts.{without_first}
use Rattle.rd_base.proofs.lemmas.Firsts.{without_first-unfound, length-without_found}
use Rattle.observers.specs.Standing.{Standing}

from_index : (xs : List Standing) (i : ℕ) (x : Standing)
    → slice_get xs i ≡ Some x
    → drop i xs ≡ x ∷ drop (suc i) xs
from_index [] i x there = absurd cc
from_index (y ∷ ys) zero x there =
    let same : y ≡ x = cc in ap (λ (z : Standing). z ∷ ys) same
from_index (y ∷ ys) (suc i) x there = from_index ys i x there

-- the one with an index passes, or it does not
pub find-here : (test : Standing → Bool) (xs : List Standing) (i : ℕ) (x : Standing)
    → slice_get xs i ≡ Some x
    → test x ≡ true
    → find test (drop i xs) ≡ Some x
find-here test xs i x there passes =
    ap (find test) (from_index xs i x there)
    ∙ ap (λ b. cond b (Some x) (find test (drop (suc i) xs))) passes

pub find-later : (test : Standing → Bool) (xs : List Standing) (i : ℕ) (x : Standing)
    → slice_get xs i ≡ Some x
    → test x ≡ false
    → find test (drop (i + 1) xs) ≡ find test (drop i xs)
find-later test xs i x there fails =
    let next : i + 1 ≡ suc i = omega arith in
    ap (λ n. find test (drop n xs)) next
    ∙ (sym (ap (λ b. cond b (Some x) (find test (drop (suc i) xs))) fails)
    ∙ sym (ap (find test) (from_index xs i x there)))

-- an index past all
pub past-all : (xs : List Standing) (i : ℕ) → None ≡ slice_get xs i → length xs ≤ i
past-all [] i none = omega arith
past-all (x ∷ xs) zero none = absurd cc
past-all (x ∷ xs) (suc i) none = let rest = past-all xs i none in omega (arith, rest)

-- ---- how many there are without the first that passes

one_fewer : (m n : ℕ) → m + 1 ≡ n → nat_lt 1_024 n ≡ nat_le 1_024 m
one_fewer m n h = grind (arith, nat_tests, h)

pub full-Some : (test : Standing → Bool) (ws : List Standing) (slot n : ℕ)
    → Some slot ≡ option_map (λ x. x.slot) (find test ws)
    → n ≡ length ws
    → nat_lt 1_024 n ≡ nat_le 1_024 (length (without_first test ws))
full-Some test ws slot n found is = by (find test ws) refl found
  where
    by : (o : Option Standing)
        → find test ws ≡ o
        → Some slot ≡ option_map (λ (x : Standing). x.slot) o
        → nat_lt 1_024 n ≡ nat_le 1_024 (length (without_first test ws))
    by None e g = absurd cc
    by (Some x) e g =
        let fewer = length-without_found test ws x e in
        one_fewer (length (without_first test ws)) n (fewer ∙ sym is)

pub full-None : (test : Standing → Bool) (ws : List Standing) (n : ℕ)
    → None ≡ option_map (λ x. x.slot) (find test ws)
    → n ≡ length ws
    → nat_le 1_024 n ≡ nat_le 1_024 (length (without_first test ws))
full-None test ws n found is = by (find test ws) refl found
  where
    by : (o : Option Standing)
        → find test ws ≡ o
        → None ≡ option_map (λ (x : Standing). x.slot) o
        → nat_le 1_024 n ≡ nat_le 1_024 (length (without_first test ws))
    by None e g = ap (nat_le 1_024) (is ∙ sym (ap length (without_first-unfound test ws e)))
    by (Some x) e g = absurd cc
