-- One wait of a source.
use Rattle.std.specs.Prelude.{ℕ, ◌≤◌, ⊤}
use Rattle.tcp_door.specs.declared.sources.Awaited.{Awaited}
use Rattle.tcp_door.specs.declared.sources.Awaited.TheVariants as awaited

-- States that no more octets came than fit a piece of this size.
abbrev pub IsWithinPiece : Awaited → ℕ → Type 0
IsWithinPiece (awaited.Bytes count) size = count ≤ size
IsWithinPiece awaited.Nothing size = ⊤
IsWithinPiece awaited.Failed size = ⊤
