-- The pairs that chunks and groups of chunks show.
use Rattle.std.specs.Prelude.{List, [], ◌∷◌, ◌<◌, length}
use Rattle.std.specs.List.{All, flat_map}
use Rattle.std.specs.Global.{Vec}
use Rattle.std.specs.declared.alloc.Global.{Global}
use Rattle.std.specs.declared.sync.Arc.{Arc}
use Rattle.std.specs.Arc.{arc_value}

-- Returns the pairs of a shared list of parts, one part after another.
abbrev pub list_pairs : {P E : Type 0} → (P → List E) → Arc (Vec P) Global → List E
list_pairs pairs list = flat_map pairs (arc_value list).items

-- States that the list has a part, and each of its parts is whole.
abbrev pub IsWholeList : {P : Type 0} → (P → Type 0) → Arc (Vec P) Global → Type 0
IsWholeList is_whole list =
    (0 < length (arc_value list).items) × All is_whole (arc_value list).items

-- Returns the pairs of a chunk, one after another.
abbrev pub chunk_pairs : {K V : Type 0} → Arc (Vec (K × V)) Global → List (K × V)
chunk_pairs chunk = list_pairs (λ p. p ∷ []) chunk

-- Returns the pairs of a group, one chunk after another.
abbrev pub group_pairs : {K V : Type 0} → Arc (Vec (Arc (Vec (K × V)) Global)) Global → List (K × V)
group_pairs group = list_pairs chunk_pairs group

-- States that the chunk has a pair.
abbrev pub IsWholeChunk : {K V : Type 0} → Arc (Vec (K × V)) Global → Type 0
IsWholeChunk {K} {V} chunk = IsWholeList (λ (_ : K × V). Unit {0}) chunk

-- States that the group has a chunk, and each of its chunks has a pair.
abbrev pub IsWholeGroup : {K V : Type 0} → Arc (Vec (Arc (Vec (K × V)) Global)) Global → Type 0
IsWholeGroup group = IsWholeList IsWholeChunk group
