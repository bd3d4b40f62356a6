-- Leases: how long a registration is live (RFC 9176 section 5, lt).
use Rattle.std.specs.Prelude.{ℕ, ◌+◌, ◌*◌, Bool, ◌&&◌, nat_lt, nat_le, List, length, filter}
use Rattle.rd_base.specs.declared.records.Record.{Record}

-- Returns the moment at which the lease of a record lapses, in milliseconds: its lifetime in
-- seconds after it was granted.
abbrev pub lapse : Record → ℕ
lapse r = r.granted.0 + 1000 * r.lt

-- Returns whether the record is live at a moment: its lease lapses later. At the moment of its
-- lapse it has lapsed.
abbrev pub is_live_at : ℕ → Record → Bool
is_live_at moment r = nat_lt moment (lapse r)

-- Returns the records that are live at a moment.
abbrev pub live_among : ℕ → List Record → List Record
live_among moment records = filter (is_live_at moment) records

-- Returns the records that lapse after one moment and not after another.
abbrev pub lapsing_among : ℕ → ℕ → List Record → List Record
lapsing_among from to records = filter (λ r. nat_lt from (lapse r) && nat_le (lapse r) to) records

-- Returns how many of the records were live at a moment and have lapsed at a later one.
abbrev pub lapsed_between : ℕ → ℕ → List Record → ℕ
lapsed_between from to records = length (lapsing_among from to records)
