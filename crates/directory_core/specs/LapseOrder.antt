-- Records in the order in which they lapse.
use Rattle.std.specs.Prelude.{ℕ, Bool, ◌&&◌, ◌||◌, ◌==◌, nat_lt, List, [], ◌∷◌, if◌then◌else◌}
use Rattle.rd_base.specs.declared.records.Record.{Record}
use Rattle.history_model.specs.Leases.{lapse}

-- Returns whether a record comes before another: by a key of each, and if these are equal, by the
-- numbers of the records.
abbrev pub stands_before : (Record → ℕ) → Record → Record → Bool
stands_before key r other =
    nat_lt (key r) (key other) || ((key r == key other) && nat_lt r.number other.number)

-- Returns the records with one more, which is put before the first that it comes before.
unfoldable pub placed : (Record → ℕ) → Record → List Record → List Record
placed key r [] = r ∷ []
placed key r (x ∷ xs) = if stands_before key r x then r ∷ x ∷ xs else x ∷ placed key r xs

-- Returns the records in order of a key of each. Those with equal keys are in ascending number.
unfoldable pub in_order_of : (Record → ℕ) → List Record → List Record
in_order_of key [] = []
in_order_of key (r ∷ rs) = placed key r (in_order_of key rs)

-- Returns the records in the order in which they lapse. Those that lapse at one moment are in
-- ascending number.
abbrev pub in_order_of_lapse : List Record → List Record
in_order_of_lapse records = in_order_of lapse records
