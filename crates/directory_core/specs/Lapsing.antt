-- The records that lapse after a moment, by the numbers of the leases that have lapsed at a later
-- one.
use Rattle.std.specs.Prelude.{ℕ, nat_lt, List, [], ◌∷◌, Option, Some, None, if◌then◌else◌}
use Rattle.rd_base.specs.declared.records.Record.{Record}
use Rattle.history_model.specs.Leases.{lapse}
use Rattle.history_model.specs.Replay.{numbered}

-- Returns these records, preceded by a record if there is one and it lapses after a moment.
abbrev pub with_lapsing : ℕ → Option Record → List Record → List Record
with_lapsing from None others = others
with_lapsing from (Some r) others = if nat_lt from (lapse r) then r ∷ others else others

-- Returns the records with these numbers that lapse after a moment.
unfoldable pub lapsing_left : ℕ → List Record → List ℕ → List Record
lapsing_left from records [] = []
lapsing_left from records (n ∷ numbers) =
    with_lapsing from (numbered n records) (lapsing_left from records numbers)
