-- The effect of a change of the value at a key on ascending pairs.
use Rattle.std.specs.Prelude.{◌≡◌, ℕ, ◌+◌, ◌<◌, List, Option, Some, None}
use Rattle.std.specs.declared.cmp.Ordering.{Ordering}
use Rattle.std.specs.Map.{lookup, remove_entry}
use Rattle.std.specs.BTreeMap.{insert_entry, is_at}
use Rattle.chunk_map.specs.declared.change.Tally.{Tally}
use Rattle.chunk_map.specs.declared.change.Tally.TheVariants.{Same, More, Fewer}

-- Returns the pairs with this value at the key, or without the key if there is no value.
abbrev pub with_value : {K V : Type 0}
    → (K → K → Ordering)
    → List (K × V)
    → K
    → Option V
    → List (K × V)
with_value cmp es key None = remove_entry (is_at (cmp key)) es
with_value cmp es key (Some v) = insert_entry cmp es key v

-- States that the pairs differ only in the value at the key, or in its absence. The change may put
-- the new value in place of the old one.
abbrev pub IsChanged : {K V : Type 0}
    → (K → K → Ordering)
    → (Option V → Option V → Type 0)
    → List (K × V)
    → K
    → List (K × V)
    → Type 0
IsChanged {K} {V} cmp gives es key es' =
    (new : Option V) × gives (lookup (is_at (cmp key)) es) new × (es' ≡ with_value cmp es key new)

-- States how many pairs there are after a change, given the number before.
abbrev pub IsCounted : Tally → ℕ → ℕ → Type 0
IsCounted Same before after = after ≡ before
IsCounted More before after = after ≡ before + 1
IsCounted Fewer before after = after + 1 ≡ before

-- States that a pair can only be removed if there is one.
abbrev pub CanCount : Tally → ℕ → Type 0
CanCount Same before = Unit {0}
CanCount More before = Unit {0}
CanCount Fewer before = 0 < before
