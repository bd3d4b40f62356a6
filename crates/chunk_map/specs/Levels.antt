-- The pairs of a map in its levels.
use Rattle.std.specs.Prelude.{List}
use Rattle.std.specs.List.{All, flat_map}
use Rattle.chunk_map.specs.declared.levels.Levels.{Levels}
use Rattle.chunk_map.specs.declared.levels.Levels.TheVariants.{Chunks, Groups}
use Rattle.chunk_map.specs.Groups.{chunk_pairs, group_pairs, IsWholeChunk, IsWholeGroup}

-- Returns the pairs, one part after another.
abbrev pub pairs_in : {K V : Type 0} → Levels K V → List (K × V)
pairs_in (Chunks chunks) = flat_map chunk_pairs chunks.items
pairs_in (Groups groups) = flat_map group_pairs groups.items

-- States that no part is empty.
abbrev pub AreWhole : {K V : Type 0} → Levels K V → Type 0
AreWhole (Chunks chunks) = All IsWholeChunk chunks.items
AreWhole (Groups groups) = All IsWholeGroup groups.items
