-- Octets that leave a reader of documents at the point of the grammar where it is (RFC 6690 section
-- 2).
use Rattle.std.specs.Prelude.{◌≡◌, ⊤, ℕ, List, [], ◌∷◌, ◌++◌, Some}
use Rattle.link_model.specs.DocumentReading.{Point, point_after}
use Rattle.link_format.specs.Ranges.{tails_after}

-- States that each octet is allowed at the point, leaves the reader there, and is a character of
-- its own.
abbrev pub AllStay : Point → List ℕ → Type 0
AllStay point [] = ⊤
AllStay point (b ∷ bs) =
    (point_after point b ≡ Some point) × (tails_after [] b ≡ Some []) × AllStay point bs

-- States that `rest` is what follows some octets at the beginning that all leave the reader at the
-- point.
pub record StaysUpTo (point : Point) (octets rest : List ℕ) : Type 0 where
  pub over : List ℕ
  pub spelled : octets ≡ over ++ rest
  pub each : AllStay point over
