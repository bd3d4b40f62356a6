-- The results of calls of inputs and outputs, and what is then known of the source or the sink.
use Rattle.std.specs.Prelude.{
  ◌≡◌,
  ℕ,
  ◌-◌,
  ◌^◌,
  ◌<◌,
  ◌≤◌,
  List,
  length,
  take,
  Option,
  None,
  Some,
  Bool,
  true,
  false,
  nat_lt,
  if◌then◌else◌,
}
use Rattle.std.specs.Io.KnownBytes.{Appends, Consumes, Keeps, IsAtEnd}
use Rattle.rd_base.specs.declared.outside.Got.{Got}
use Rattle.rd_base.specs.declared.outside.Got.TheVariants as got
use Rattle.rd_base.specs.declared.outside.Put.{Put}
use Rattle.rd_base.specs.declared.outside.Put.TheVariants as put

-- States that a count of faults rose, or that it was at 2^64 - 1, where it stops.
abbrev pub Rose : ℕ → ℕ → Type 0
Rose before now = before < 2 ^ 64 - 1 → before < now

-- States that no more octets arrived than there is room for.
abbrev pub IsWithinRoom : Got → ℕ → Type 0
IsWithinRoom (got.Bytes n) room = n ≤ room
IsWithinRoom got.Failed room = Unit {0}

-- States that the octets that arrived are the first of those that were left. If there is room and
-- none arrive, the source is at its end. A failure takes none.
abbrev pub Gives : Option (List ℕ) → Option (List ℕ) → Got → List ℕ → Type 0
Gives old new (got.Bytes n) into =
    Consumes old new (take n into) × (n ≡ 0 → 0 < length into → IsAtEnd new)
Gives old new got.Failed into = Keeps old new

-- States that each call that returns octets lowers the number of turns.
abbrev pub RunsDown : ℕ → ℕ → Got → Type 0
RunsDown old new (got.Bytes n) = (new ≤ old) × (0 < n → new < old)
RunsDown old new got.Failed = new ≤ old

-- States that a read failed only if the count rose, and that the count stays otherwise.
abbrev pub CountsRead : ℕ → ℕ → Got → Type 0
CountsRead before now (got.Bytes n) = now ≡ before
CountsRead before now got.Failed = (before ≤ now) × Rose before now

-- States that some of the piece was taken, or that it was empty.
abbrev pub IsWithinPiece : Put → ℕ → Type 0
IsWithinPiece (put.Took n) size = (n ≤ size) × (0 < size → 0 < n)
IsWithinPiece put.Failed size = Unit {0}

-- States that the octets that were taken are the first of the piece, and follow what was held. A
-- failure takes none.
abbrev pub Takes : Option (List ℕ) → Option (List ℕ) → Put → List ℕ → Type 0
Takes old new (put.Took n) piece = Appends old new (take n piece)
Takes old new put.Failed piece = Keeps old new

-- States that a write failed only if the count rose, and that the count stays otherwise.
abbrev pub CountsWritten : ℕ → ℕ → Put → Type 0
CountsWritten before now (put.Took n) = now ≡ before
CountsWritten before now put.Failed = (before ≤ now) × Rose before now

-- States that the count rose if not all was written, and stays otherwise.
abbrev pub CountsAll : ℕ → ℕ → Bool → Type 0
CountsAll before now true = now ≡ before
CountsAll before now false = (before ≤ now) × Rose before now

-- Returns what contracts see, if it has fewer octets than a limit.
abbrev pub told_below : ℕ → Option (List ℕ) → Option (List ℕ)
told_below limit None = None
told_below limit (Some bytes) = if nat_lt (length bytes) limit then Some bytes else None
