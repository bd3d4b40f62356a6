-- Links against another base, which is given in its parts.
use Rattle.std.specs.Prelude.{◌≡◌, ⊤, ℕ, List, [], ◌∷◌, ◌++◌, Option, Some, None}
use Rattle.rd_base.specs.Drafted.{Drafted, drafted}
use Rattle.rd_base.specs.declared.records.Item.{Item}
use Rattle.ref_resolve.specs.declared.components.Parts.{Parts}
use Rattle.ref_resolve.specs.ComponentsOfParts.{components_of}
use Rattle.record_model.specs.Records.{based, rebased}
use Rattle.reference_model.specs.References.{IsReference}

-- States that `new` is the text against each base that spells these parts.
abbrev pub IsBased : Parts → List ℕ → List ℕ → Type 0
IsBased base text new =
    (spelled : List ℕ) → IsReference spelled (components_of base) → new ≡ based spelled text

-- States the same of a text if there is one.
abbrev pub AreBased : Parts → Option (List ℕ) → List ℕ → Type 0
AreBased base None new = ⊤
AreBased base (Some text) new = IsBased base text new

-- States that `new` is the link against each base that spells these parts.
abbrev pub IsRebased : Parts → Item → Item → Type 0
IsRebased base item new =
    (spelled : List ℕ) → IsReference spelled (components_of base) → new ≡ rebased spelled item

-- States that `new` is the links before, and after them the link against each base that spells
-- these parts.
pub record AddsRebased (base : Parts) (item : Item) (before : List Item) (new : Drafted) : Type 0
  where
    pub added : Item
    pub builder : new ≡ drafted (before ++ added ∷ []) [] []
    pub rebased : IsRebased base item added
