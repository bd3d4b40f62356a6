-- Records without those of several numbers.
use Rattle.std.specs.Prelude.{ℕ, List, [], ◌∷◌}
use Rattle.rd_base.specs.declared.records.Record.{Record}
use Rattle.directory_core.specs.AfterEntries.{without}

-- Returns the records without those with these numbers, one after another.
unfoldable pub without_all : List ℕ → List Record → List Record
without_all [] records = records
without_all (n ∷ numbers) records = without_all numbers (without n records)
