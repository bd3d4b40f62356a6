-- Which failures of a receive may pass, and how many of them in a row.
use Rattle.std.specs.Prelude.{ℕ, ◌≡◌, ◌<◌, Some, pos, ◌⊎◌}
use Rattle.std.specs.IoError.{error_kind, raw_os_error}
use Rattle.std.specs.declared.io.Error.{Error}
use Rattle.std.specs.declared.io.ErrorKind.TheVariants.{OutOfMemory}

-- Returns how many receives in a row may fail, each 50 ms before the next: for a second in all.
abbrev pub most_misses : ℕ
most_misses = 20

-- States that the system has run out of memory, or of buffers (ENOBUFS of Linux).
abbrev pub IsWant : Error → Type 0
IsWant error = (error_kind error ≡ OutOfMemory) ⊎ (raw_os_error error ≡ Some (pos 105))

-- States that after this number of failed receives in a row, one may fail for this reason.
abbrev pub MayPass : ℕ → Error → Type 0
MayPass misses error = IsWant error × (misses < most_misses)
