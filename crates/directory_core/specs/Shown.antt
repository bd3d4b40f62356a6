-- The conditions on the parts of a version.
use Rattle.std.specs.Prelude.{◌≡◌, ℕ, ◌+◌, ◌^◌, ◌<◌, ◌≤◌, true, max, List, length, map}
use Rattle.std.specs.List.{AllByRecursion, list_all}
use Rattle.rd_base.specs.declared.records.Record.{Record}
use Rattle.rd_base.proofs.lemmas.Pairs.{PairsByRecursion}
use Rattle.history_model.proofs.NumberLaws.{IsBelow}
use Rattle.record_model.specs.Parameters.{is_base}
use Rattle.history_model.specs.Leases.{lapse, live_among}
use Rattle.history_model.specs.Refusals.{max_registrations, max_text, max_entries, text_of}
use Rattle.history_model.specs.Versions.{Version}
use Rattle.lease_queue.specs.declared.leases.Lease.{Lease}
use Rattle.registration.specs.Drafts.{has_references}
use Rattle.registration.specs.Submissions.{AreOfBody}
use Rattle.directory_core.specs.declared.names.NameSlot.{NameSlot}
use Rattle.directory_core.specs.LapseOrder.{in_order_of_lapse}
use Rattle.directory_core.specs.LinksAgainst.{AreAgainst}
use Rattle.directory_core.specs.NameSlots.{slots_of}

-- Returns the moment at which the live records of a version were counted. That is the moment of its
-- last entry or of its last sweep, whichever is later.
abbrev pub counted_at : Version → ℕ
counted_at v = max v.at v.swept

-- A record that an entry of a version made, and that no sweep of it has dropped.
pub record IsStored (v : Version) (r : Record) : Type 0 where
  pub numbered : (0 < r.number) × (r.number ≤ v.last_number)
  pub granted : r.granted.0 ≤ v.at
  pub unswept : v.swept < lapse r
  pub lasting : (0 < r.lt) × (r.lt < 2 ^ 32)
  pub references : list_all has_references r.items ≡ true
  pub against : AreAgainst r.base r.items
  pub of_body : AreOfBody r.items
  pub base : is_base r.base ≡ true

-- Returns the lease of a record.
abbrev pub lease_of : Record → Lease
lease_of r = record { lapse = record { 0 = lapse r }; number = r.number }

-- Returns the leases of records, in the order in which they lapse.
abbrev pub leases_of : List Record → List Lease
leases_of records = map lease_of (in_order_of_lapse records)

-- What a version stores besides its records, which agrees with them: their leases, and the number
-- and the weight of those that were live when they were counted. Neither these nor the counted
-- entries exceed their limits.
pub record IsKept (v : Version) (names : List NameSlot) (leases : List Lease) (count sum : ℕ) : Type
    0 where
  pub rising : PairsByRecursion IsBelow v.records
  pub stored : AllByRecursion (IsStored v) v.records
  pub named : names ≡ slots_of v.records
  pub leased : leases ≡ leases_of v.records
  pub live : count ≡ length (live_among (counted_at v) v.records)
  pub text : sum ≡ text_of (live_among (counted_at v) v.records)
  pub few : v.swept_live + count ≤ max_registrations
  pub light : sum ≤ max_text
  pub counted : v.entries ≤ max_entries
  pub numbers : v.last_number ≤ v.entries
  pub in_time : v.at ≤ 10 ^ 15
