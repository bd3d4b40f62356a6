-- The first of what is left of a list, where a fact holds of each of them.
use Rattle.std.specs.Prelude.{ℕ, List, [], ◌∷◌, All, drop}
use Rattle.std.proofs.Common.{arith}
use Rattle.std.proofs.lemmas.List.Elements.{All-drop}
use Rattle.udp_link.specs.Clocks.{first_or}

-- what holds of `absent` and of each element holds of the first one
first_of_all : {X : Type 0} (P : X → Type 0) (absent : X) (xs : List X)
    → P absent
    → All P xs
    → P (first_or absent xs)
first_of_all P absent [] none all = none
first_of_all P absent (x ∷ xs) none all = all 0 absent (omega arith)

-- what holds of `absent` and of each element holds of the first that is left
pub first_left : {X : Type 0} (P : X → Type 0) (absent : X) (xs : List X) (n : ℕ)
    → P absent
    → All P xs
    → P (first_or absent (drop n xs))
first_left P absent xs n none all = first_of_all P absent (drop n xs) none (All-drop P n xs all)
