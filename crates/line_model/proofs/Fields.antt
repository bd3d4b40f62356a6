-- Fields without spaces, joined by single spaces, are the fields of the line.
use Rattle.std.proofs.Common.{◌≡◌, ℕ, ◌==◌, List, [], ◌∷◌, refl, ap, ◌∙◌}
use Rattle.std.specs.List.{AllByRecursion}
use Rattle.std.proofs.lemmas.List.Elements.{All-from_recursion}
use Rattle.std.proofs.lemmas.List.Splits.{
  slice_split_none,
  slice_split_at,
  join_with_byte-slice_split,
}
use Rattle.line_model.specs.Lines.{space, fields, joined}
use Rattle.line_model.proofs.Spaces.{IsNoSpace, HasNoSpace}

-- one field or more, none with a space, come back
pub fields-joined : (part : List ℕ) (parts : List (List ℕ))
    → HasNoSpace part
    → AllByRecursion HasNoSpace parts
    → fields (joined (part ∷ parts)) ≡ part ∷ parts
fields-joined part [] h more =
    slice_split_none (λ b. b == space) part (All-from_recursion IsNoSpace part h)
fields-joined part (next ∷ parts) h more =
    slice_split_at (λ b. b == space) part space (joined (next ∷ parts))
    (All-from_recursion IsNoSpace part h) refl
    ∙ ap (λ ps. part ∷ ps) (fields-joined next parts more.0 more.1)

-- a line is its fields with single spaces between them
pub joined-fields : (text : List ℕ) → joined (fields text) ≡ text
joined-fields text = join_with_byte-slice_split space text
