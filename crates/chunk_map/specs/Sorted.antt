-- Pairs in ascending order of their keys.
use Rattle.std.specs.Prelude.{◌≡◌, Bool, false, List, [], ◌∷◌, Option, Some, None, if◌then◌else◌}
use Rattle.std.specs.List.{AllByRecursion}
use Rattle.std.specs.declared.cmp.Ordering.{Ordering}
use Rattle.std.specs.declared.cmp.Ordering.TheVariants.{Less, Greater}
use Rattle.std.specs.Ordering.{is_eq, is_ge}

-- States that each key is below all that follow it. So the pairs are sorted, and each key appears
-- once.
unfoldable pub IsAscending : {K V : Type 0} → (K → K → Ordering) → List (K × V) → Type 0
IsAscending cmp [] = Unit {0}
IsAscending cmp (e ∷ es) = AllByRecursion (λ x. cmp e.0 x.0 ≡ Less) es × IsAscending cmp es

-- States that the list has an element.
abbrev pub HasAny : {X : Type 0} → List X → Type 0
HasAny [] = ⊥
HasAny (x ∷ xs) = Unit {0}

-- Returns whether there is a first key and it is not above this one.
abbrev pub begins_by : {K V : Type 0} → (K → K → Ordering) → List (K × V) → K → Bool
begins_by cmp [] key = false
begins_by cmp (e ∷ es) key = is_ge (cmp key e.0)

-- Returns the value of the first pair, if there is one and it has this key.
abbrev pub first_value : {K V : Type 0} → (K → K → Ordering) → K → List (K × V) → Option V
first_value cmp key [] = None
first_value cmp key (e ∷ es) = if is_eq (cmp key e.0) then Some e.1 else None

-- States that the key is above all of these.
abbrev pub AllGreater : {K V : Type 0} → (K → K → Ordering) → K → List (K × V) → Type 0
AllGreater cmp key es = AllByRecursion (λ e. cmp key e.0 ≡ Greater) es

-- States that the key is below all of these.
abbrev pub AllLess : {K V : Type 0} → (K → K → Ordering) → K → List (K × V) → Type 0
AllLess cmp key es = AllByRecursion (λ e. cmp key e.0 ≡ Less) es

-- Returns what the part shows, if there is one.
abbrev pub option_flat : {P E : Type 0} → (P → List E) → Option P → List E
option_flat pairs None = []
option_flat pairs (Some p) = pairs p
