-- What a history shows at a moment: the live registrations, and the prefixes of the history (RFC
-- 9176 section 5).
use Rattle.std.specs.Prelude.{◌≢◌, ℕ, ◌<◌, List, fold, AllPairs}
use mathlib.Core.List.{IsPrefix}
use Rattle.rd_base.specs.declared.records.Record.{Record}
use Rattle.history_model.specs.declared.entries.Entry.{Entry}
use Rattle.history_model.specs.Leases.{live_among}
use Rattle.history_model.specs.Replay.{replay}

-- Returns the records that are live at a moment, in ascending number.
unfoldable pub live : List Entry → ℕ → List Record
live history moment = live_among moment (replay history).records

-- States that each record has a higher number than those before it.
abbrev pub AreAscending : List Record → Type 0
AreAscending records = AllPairs (λ r other. r.number < other.number) records

-- States that no two of the records have the same name.
abbrev pub HaveDistinctNames : List Record → Type 0
HaveDistinctNames records = AllPairs (λ r other. r.name ≢ other.name) records

-- Returns the moment of the last entry, or 0 if there is none.
unfoldable pub last_moment : List Entry → ℕ
last_moment history = fold (λ before entry. entry.moment.0) 0 history

-- States that these are the first entries of a history, a prefix from which an answer may be built.
abbrev pub IsFront : List Entry → List Entry → Type 0
IsFront front history = IsPrefix front history
