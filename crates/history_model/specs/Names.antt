-- The names of endpoints: an endpoint name with its sector (RFC 9176 section 5, ep and d).
use Rattle.std.specs.Prelude.{ℕ, Bool, true, false, ◌&&◌, List, Option, Some, None, bytes_eq}
use Rattle.rd_base.specs.declared.records.Name.{Name}

-- Returns whether the sectors are the same. No sector differs from every sector.
abbrev pub is_same_sector : Option (List ℕ) → Option (List ℕ) → Bool
is_same_sector None None = true
is_same_sector None (Some other) = false
is_same_sector (Some sector) None = false
is_same_sector (Some sector) (Some other) = bytes_eq sector other

-- Returns whether the names are the same: endpoint name and sector.
abbrev pub is_same_name : Name → Name → Bool
is_same_name name other = bytes_eq name.ep other.ep && is_same_sector name.sector other.sector
