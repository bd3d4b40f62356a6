-- Tests that are joined: what all of them say of each.
use Rattle.std.proofs.Common.{
  ◌≡◌,
  ℕ,
  ◌≤◌,
  Bool,
  true,
  false,
  ◌&&◌,
  List,
  nat_le,
  bytes_eq,
  refl,
  not,
}
use Rattle.std.proofs.lemmas.Bool.{and_parts, and_from, leb-true, le-leb}
use Rattle.std.proofs.lemmas.Slice.Eq.{bytes_eq-Decides}

-- four tests hold
pub and_four : (a b c d : Bool)
    → (a && b && c && d) ≡ true
    → (a ≡ true) × (b ≡ true) × (c ≡ true) × (d ≡ true)
and_four true true true d e = (refl, refl, refl, e)
and_four true true false d e = absurd cc
and_four true false c d e = absurd cc
and_four false b c d e = absurd cc

-- a number within a limit beside equal texts
pub both_parts : (m n : ℕ) (xs ys : List ℕ)
    → (nat_le m n && bytes_eq xs ys) ≡ true
    → (m ≤ n) × (xs ≡ ys)
both_parts m n xs ys e =
    let parts = and_parts (nat_le m n) (bytes_eq xs ys) e in
    (leb-true m n parts.0, (bytes_eq-Decides xs ys).0 parts.1)

-- and back
pub both_from : (m n : ℕ) (xs ys : List ℕ) → m ≤ n → xs ≡ ys → (nat_le m n && bytes_eq xs ys) ≡ true
both_from m n xs ys h e =
    and_from (nat_le m n) (bytes_eq xs ys) (le-leb m n h) ((bytes_eq-Decides xs ys).1 e)

-- two negations
pub not_not : (t : Bool) → t ≡ not (not t)
not_not true = refl
not_not false = refl
