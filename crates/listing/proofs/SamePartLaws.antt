-- Lists of lines that are compared octet by octet.
use Rattle.std.proofs.Common.{◌≡◌, ◌↔◌, ℕ, Bool, true, List, sym, ◌∙◌}
use Rattle.record_model.specs.ListingLines.{same_lines}
use Rattle.record_model.proofs.LineLaws.{same_lines-Decides}

-- and so does an answer that is equal to what it gives
pub same_lines_answered : (answer : Bool) (old new : List (List ℕ))
    → answer ≡ same_lines old new
    → (answer ≡ true) ↔ (old ≡ new)
same_lines_answered answer old new e = (
  λ yes. (same_lines-Decides old new).0 (sym e ∙ yes),
  λ same. e ∙ (same_lines-Decides old new).1 same,
)
