-- The version without a record.
use Rattle.std.proofs.Common.{◌≡◌, ℕ, ◌^◌, ◌<◌, List, [], refl, sym, ◌∙◌, subst, arith}
use Rattle.rd_base.specs.declared.records.Record.{Record}
use Rattle.history_model.specs.Versions.{Version}
use Rattle.lease_queue.specs.declared.leases.Lease.{Lease}
use Rattle.directory_core.specs.declared.names.NameSlot.{NameSlot}
use Rattle.directory_core.specs.LapseOrder.{in_order_of}
use Rattle.directory_core.specs.NameSlots.{slots_of}
use Rattle.directory_core.specs.Shown.{IsKept, leases_of}

abbrev with_records : ℕ → List Record → Version
with_records first records = record {
  records = records;
  entries = first;
  at = 0;
  last_number = 0;
  swept_live = 0;
  swept = 0;
}

no_slots : slots_of [] ≡ []
unfolding in_order_of
no_slots = refl

no_leases : leases_of [] ≡ []
unfolding in_order_of
no_leases = refl

pub kept_empty : (first : ℕ) (records : List Record) (names : List NameSlot) (leases : List Lease)
    → first < 2 ^ 48
    → records ≡ []
    → names ≡ []
    → leases ≡ []
    → IsKept (with_records first records) names leases 0 0
kept_empty first records names leases below none unnamed unleased =
    subst (λ rs. IsKept (with_records first rs) names leases 0 0) (sym none) (record {
      rising = tt;
      stored = tt;
      named = unnamed ∙ sym no_slots;
      leased = unleased ∙ sym no_leases;
      live = refl;
      text = refl;
      few = omega arith;
      light = omega arith;
      counted = omega arith;
      numbers = omega arith;
      in_time = omega arith;
    })
