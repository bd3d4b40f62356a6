-- The octets that were read and not yet used.
use Rattle.std.specs.Prelude.{◌≡◌, ℕ, List, [], length, Option}
use Rattle.std.specs.Io.KnownBytes.{Consumes, Keeps, IsAtEnd}
use Rattle.rd_base.specs.declared.outside.Got.{Got}
use Rattle.rd_base.specs.declared.outside.Got.TheVariants as got

-- States that the piece is what a read returned. If that was nothing, the source is at its end.
abbrev pub Fills : Option (List ℕ) → Option (List ℕ) → Got → List ℕ → Type 0
Fills old new (got.Bytes n) piece =
    Consumes old new piece × (length piece ≡ n) × (n ≡ 0 → IsAtEnd new)
Fills old new got.Failed piece = Keeps old new × (piece ≡ [])
