use Rattle.std.proofs.Common.{◌≡◌, ◌-◌, sym, ap, ap₂, ◌∙◌, subst, arith, ◌&&◌, not}
use Rattle.rd_base.specs.declared.records.Record.{Record}
use Rattle.history_model.specs.Versions.{Version}
use Rattle.lease_queue.specs.Leases.{without_lease}
use Rattle.directory_core.specs.AfterEntries.{without, after_entry}
use Rattle.directory_core.specs.NameSlots.{slot_of, without_slot}
use Rattle.directory_core.specs.Shown.{IsKept, lease_of}
use Rattle.directory_core.proofs.RenewLaws.{Removal, removal_fewer, removal_kept, lease_is, slot_is}
use Rattle.attribute_index.specs.Entries.{has_entry}
use Rattle.directory_core.specs.Bounds.{record_entries, AreEntriesOf}
use Rattle.directory_core.proofs.IndexLaws.{entries_without}
use Rattle.directory_core.proofs.directory.Directory.without.Goals as goal

pub overflow_sub-result : goal.overflow_sub-result
overflow_sub-result c =
    let v = c.args.self.now in
    let i = c.self.inside in
    let kept : IsKept v i.names i.leases i.live i.text =
    subst (λ w. IsKept w i.names i.leases i.live i.text) c.self.view_is c.self.invariant.0 in
    let r = c.requires in
    let a : Removal v c.args.now c.args.counts c.args.old.now = record {
      after_at = r.after_at;
      after_sweep = r.after_sweep;
      moment = r.moment;
      counts = r.counts;
      stored = r.stored;
      live = r.live;
    } in
    let few = (removal_fewer v c.args.now c.args.counts c.args.old.now kept.rising a).0 in
    omega (arith, few)

pub overflow_sub-result-2 : goal.overflow_sub-result-2
overflow_sub-result-2 c =
    let v = c.args.self.now in
    let i = c.self.inside in
    let kept : IsKept v i.names i.leases i.live i.text =
    subst (λ w. IsKept w i.names i.leases i.live i.text) c.self.view_is c.self.invariant.0 in
    let r = c.requires in
    let a : Removal v c.args.now c.args.counts c.args.old.now = record {
      after_at = r.after_at;
      after_sweep = r.after_sweep;
      moment = r.moment;
      counts = r.counts;
      stored = r.stored;
      live = r.live;
    } in
    let less = (removal_fewer v c.args.now c.args.counts c.args.old.now kept.rising a).1 in
    omega (arith, less, c.octets.ensures)

pub invariant_of-result : goal.invariant_of-result
invariant_of-result c =
    let v = c.args.self.now in
    let i = c.self.inside in
    let now = c.args.now in
    let old = c.args.old.now in
    let kept : IsKept v i.names i.leases i.live i.text =
    subst (λ w. IsKept w i.names i.leases i.live i.text) c.self.view_is c.self.invariant.0 in
    let r = c.requires in
    let a : Removal v now c.args.counts old = record {
      after_at = r.after_at;
      after_sweep = r.after_sweep;
      moment = r.moment;
      counts = r.counts;
      stored = r.stored;
      live = r.live;
    } in
    let fewer = removal_fewer v now c.args.counts old kept.rising a in
    let few = fewer.0 in
    let less = fewer.1 in
    let number : c.as_record.result.now.number ≡ old.number =
    ap (λ (x : Record). x.number) c.as_record.ensures in
    let entries : i.entries ≡ v.entries = ap (λ (w : Version). w.entries) c.self.view_is in
    let room = c.in_ok-room_for_entry.ensures in
    let records : c.in_ok-records.records ≡ without old.number v.records =
    c.in_ok-records.ensures.records
    ∙ ap₂ without number (ap (λ (w : Version). w.records) c.self.view_is) in
    let ended : c.in_ok-leases.leases ≡ without_lease i.leases (lease_of old) =
    c.in_ok-leases.ensures.queue
    ∙ ap (without_lease i.leases)
    (lease_is c.lapse.result c.as_record.result.now.number old c.lapse.ensures number) in
    let unnamed : c.in_ok-names.names ≡ without_slot (slot_of old) i.names =
    c.in_ok-names.ensures
    ∙ ap (λ s. without_slot s i.names)
    (slot_is c.as_record-2.result.now c.as_record.result.now.number old
    c.as_record-2.ensures number) in
    let whole =
    removal_kept v i.names i.leases i.live i.text now c.args.counts old kept a
    (omega (arith, room, entries)) (c.args.counts.live - 1)
    (c.args.counts.text - c.octets.result) (omega (arith, few))
    (omega (arith, less, c.octets.ensures))
    c.in_ok-records.records records c.in_ok-names.names unnamed c.in_ok-leases.leases ended in
    let indexed : AreEntriesOf v.records i.index =
    subst (λ (w : Version). AreEntriesOf w.records i.index) c.self.view_is c.self.invariant.1 in
    let taken : AreEntriesOf (without old.number v.records) c.in_ok-index.index
    = entries_without v.records old.number old i.index c.in_ok-index.index kept.rising r.stored
    indexed (λ e.
    c.in_ok-index.ensures.entries e
    ∙ ap (λ x. has_entry i.index e && not (has_entry (record_entries x) e))
    c.as_record-3.ensures) c.in_ok-index.ensures.ascends in (
      subst (λ (w : Version).
          IsKept (after_entry w now.0 c.in_ok-records.records w.last_number) c.in_ok-names.names
          c.in_ok-leases.leases (c.args.counts.live - 1)
          (c.args.counts.text - c.octets.result)) (sym c.self.view_is) whole,
      subst (λ rs. AreEntriesOf rs c.in_ok-index.index) (sym records) taken,
    )

pub returns : goal.returns
returns c =
    let v = c.args.self.now in
    let number : c.as_record.result.now.number ≡ c.args.old.now.number =
    ap (λ (x : Record). x.number) c.as_record.ensures in
    let records : c.in_ok-records.records ≡ without c.args.old.now.number v.records =
    c.in_ok-records.ensures.records
    ∙ ap₂ without number (ap (λ (w : Version). w.records) c.self.view_is) in
    let entries : c.self.inside.entries ≡ v.entries =
    ap (λ (w : Version). w.entries) c.self.view_is in
    let room = c.in_ok-room_for_entry.ensures in (
      ap (λ (w : Version). after_entry w c.args.now.0 c.in_ok-records.records w.last_number)
          c.self.view_is
          ∙ ap (λ rs. after_entry v c.args.now.0 rs v.last_number) records,
      omega arith,
      omega (arith, room, entries),
    )
