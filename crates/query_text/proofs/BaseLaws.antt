-- A text that has no components is no reference.
use Rattle.std.proofs.Common.{◌≡◌, ℕ, List, Option, Some, None, refl, sym}
use Rattle.reference_model.specs.References.{Components, IsReference, reference}
use Rattle.reference_model.proofs.ReferenceLaws.{reference_found}

pub no_reference : (text : List ℕ)
    → ((c : Components) → IsReference text c → ⊥)
    → None ≡ reference text
no_reference text h = by_cases (reference text) refl
  where
    by_cases : (o : Option Components) → reference text ≡ o → None ≡ reference text
    by_cases None e = sym e
    by_cases (Some c) e = absurd (h c (reference_found text c e))
