-- Lists that are made one element after the other.
use Rattle.std.proofs.Common.{
  ◌≡◌,
  List,
  [],
  ◌∷◌,
  ◌++◌,
  refl,
  sym,
  ap,
  subst,
  ◌⊎◌,
  inl,
  inr,
  append_assoc,
  append-nil,
}

-- what holds of the empty list, and with one element more at the end, holds of each
pub by_pushes : {X : Type 0} (P : List X → Type 0)
    → P []
    → ((xs : List X) (x : X) → P xs → P (xs ++ x ∷ []))
    → (xs : List X)
    → P xs
by_pushes {X} P none push xs = from [] xs none
  where
    from : (front rest : List X) → P front → P (front ++ rest)
    from front [] h = subst P (sym (append-nil front)) h
    from front (x ∷ rest) h =
        subst P (append_assoc front (x ∷ []) rest) (from (front ++ x ∷ []) rest (push front x h))

-- a place in a list with one element more: it is the last, or it is one before
pub push_cases : {X : Type 0} (before after xs : List X) (x last : X)
    → before ++ x ∷ after ≡ xs ++ last ∷ []
    → ((before ≡ xs) × (x ≡ last)) ⊎ ((rest : List X) × (before ++ x ∷ rest ≡ xs))
push_cases [] after [] x last e = inl (refl, cc)
push_cases [] after (y ∷ ys) x last e = let same : x ≡ y = cc in inr (ys, ap (λ z. z ∷ ys) same)
push_cases {X} (b ∷ bs) after [] x last e =
    let none : bs ++ x ∷ after ≡ [] = cc in absurd (nothing bs none)
  where
    nothing : (front : List X) → front ++ x ∷ after ≡ [] → ⊥
    nothing [] same = cc
    nothing (f ∷ fs) same = cc
push_cases {X} (b ∷ bs) after (y ∷ ys) x last e =
    let rest : bs ++ x ∷ after ≡ ys ++ last ∷ [] = cc in
    let first : b ≡ y = cc in behind first (push_cases bs after ys x last rest)
  where
    behind : b ≡ y
        → ((bs ≡ ys) × (x ≡ last)) ⊎ ((rest : List X) × (bs ++ x ∷ rest ≡ ys))
        → ((b ∷ bs ≡ y ∷ ys) × (x ≡ last)) ⊎ ((rest : List X) × (b ∷ bs ++ x ∷ rest ≡ y ∷ ys))
    behind first (inl both) = inl (let same = both.0 in cc, both.1)
    behind first (inr more) = inr (more.0, let same = more.1 in cc)
