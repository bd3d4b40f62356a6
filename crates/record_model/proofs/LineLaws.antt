-- When two lists of lines are the same.
use Rattle.std.proofs.Common.{◌≡◌, ◌↔◌, ℕ, true, List, [], ◌∷◌, bytes_eq, refl}
use Rattle.std.proofs.lemmas.Bool.{and_parts}
use Rattle.std.proofs.lemmas.Slice.Eq.{bytes_eq-Decides}
use Rattle.record_model.specs.ListingLines.{same_lines}

-- the comparison of lines is true exactly where they are equal
pub same_lines-Decides : (old new : List (List ℕ)) → (same_lines old new ≡ true) ↔ (old ≡ new)
same_lines-Decides [] [] = (λ e. refl, λ e. refl)
same_lines-Decides [] (y ∷ ys) = (λ e. cc, λ e. cc)
same_lines-Decides (x ∷ xs) [] = (λ e. cc, λ e. cc)
same_lines-Decides (x ∷ xs) (y ∷ ys) = (
  λ e. let parts = and_parts (bytes_eq x y) (same_lines xs ys) e in let head :
      x ≡ y =
      (bytes_eq-Decides x y).0 parts.0 in let tail : xs ≡ ys =
      (same_lines-Decides xs ys).0 parts.1 in cc,
  λ e. let head :
      x ≡ y =
      cc in let tail : xs ≡ ys =
      cc in rw ((bytes_eq-Decides x y).1 head, (same_lines-Decides xs ys).1 tail) refl,
)
