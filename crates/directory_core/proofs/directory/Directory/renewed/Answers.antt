use Rattle.std.proofs.Common.{refl, ◌≡◌, ◌≤◌, ◌^◌, Err, sym, ap, ap₂, ◌∙◌, subst, arith, Some, List}
use Rattle.rd_base.specs.declared.moments.Moment.{Moment}
use Rattle.rd_base.specs.declared.records.Item.{Item}
use Rattle.rd_base.specs.declared.records.Record.{Record}
use Rattle.record_model.specs.ListingLines.{weight}
use Rattle.registration.specs.Drafts.{recorded}
use Rattle.registration.specs.Weights.{capped}
use Rattle.history_model.specs.Versions.{Version}
use Rattle.history_model.specs.Leases.{lapse, live_among}
use Rattle.history_model.specs.Refusals.{text_of}
use Rattle.lease_queue.specs.Leases.{with_lease, without_lease}
use Rattle.directory_core.specs.declared.counts.Counts.{Counts}
use Rattle.directory_core.specs.AfterEntries.{renewed, after_entry, HasRoom}
use Rattle.directory_core.specs.LinksAgainst.{AreAfter}
use Rattle.directory_core.specs.NumberOrder.{with_record}
use Rattle.directory_core.specs.Shown.{IsKept, lease_of}
use Rattle.directory_core.proofs.KeptLaws.{live_light}
use Rattle.directory_core.proofs.RenewLaws.{
  Renewal,
  record_granted,
  record_items,
  record_number,
  record_name,
  lease_is,
  text_is,
  lost_below,
  renewal_kept,
  renewal_records,
  room_refused,
}
use Rattle.directory_core.specs.Bounds.{AreEntriesOf}
use Rattle.history_model.specs.Replay.{numbered}
use Rattle.directory_core.proofs.ChangeLaws.{with_record-renewed}
use Rattle.directory_core.proofs.directory.Directory.renewed.Goals as goal

pub overflow_sub-counts : goal.overflow_sub-counts
overflow_sub-counts c =
    let v = c.args.self.now in
    let i = c.self.inside in
    let kept : IsKept v i.names i.leases i.live i.text =
    subst (λ w. IsKept w i.names i.leases i.live i.text) c.self.view_is c.self.invariant.0 in
    let r = c.requires in
    let a : Renewal v c.args.now c.args.counts c.args.old.now c.args.granted c.args.draft = record {
      after_at = r.after_at;
      after_sweep = r.after_sweep;
      moment = r.moment;
      counts = r.counts;
      stored = r.stored;
      live = r.live;
      granted = r.granted;
      unlapsed = r.unlapsed;
      named = r.named;
      sound = r.sound;
    } in
    lost_below v c.args.now c.args.counts c.args.old.now c.args.granted c.args.draft a
    kept.rising c.octets.result c.octets.ensures

pub text_with-requires : goal.text_with-requires
text_with-requires c =
    let v = c.args.self.now in
    let i = c.self.inside in
    let kept : IsKept v i.names i.leases i.live i.text =
    subst (λ w. IsKept w i.names i.leases i.live i.text) c.self.view_is c.self.invariant.0 in
    let light =
    live_light v i.names i.leases i.live i.text c.args.now.0 kept c.requires.after_at
    c.requires.after_sweep in
    let before : c.args.counts.text ≡ text_of (live_among c.args.now.0 v.records) =
    ap (λ (x : Counts). x.text) c.requires.counts in
    omega (arith, light, before)

pub returns-in-Err : goal.returns-in-Err
returns-in-Err c =
    let v = c.args.self.now in
    let i = c.self.inside in
    let kept : IsKept v i.names i.leases i.live i.text =
    subst (λ w. IsKept w i.names i.leases i.live i.text) c.self.view_is c.self.invariant.0 in
    let r = c.requires in
    let a : Renewal v c.args.now c.args.counts c.args.old.now c.args.granted c.args.draft = record {
      after_at = r.after_at;
      after_sweep = r.after_sweep;
      moment = r.moment;
      counts = r.counts;
      stored = r.stored;
      live = r.live;
      granted = r.granted;
      unlapsed = r.unlapsed;
      named = r.named;
      sound = r.sound;
    } in
    let new = recorded c.args.old.now.number c.args.granted c.args.draft in
    let text =
    text_is v c.args.now c.args.counts c.args.old.now c.args.granted c.args.draft a kept.rising
    c.octets.result c.octets.ensures in
    let octets : c.weight_after-octets.result ≡ capped (weight new) =
    c.weight_after-octets.ensures c.args.granted in
    room_refused (text_of (renewed new (live_among c.args.now.0 v.records))) v.entries i.entries
    (after_entry v c.args.now.0 (renewed new v.records) v.last_number) c.in-Err.refusal
    (Err c.in-Err.refusal)
    (ap (λ (w : Version). w.entries) c.self.view_is) refl
    (subst (λ t. HasRoom t i.entries (Err c.in-Err.refusal)) text
    (c.in-Err.ensures (weight new) octets))

pub of-requires-clause-granted : goal.of-requires-clause-granted
of-requires-clause-granted c =
    let began : c.record_from.result.granted ≡ c.args.granted =
    ap (λ (x : Record). x.granted) c.record_from.ensures
    ∙ record_granted c.as_record.result.now.number c.args.granted c.args.draft in
    subst (λ (m : Moment). m.0 ≤ 10 ^ 15) (sym began)
    (let granted = c.requires.granted in let moment = c.requires.moment in omega arith)

pub index_renewed-requires-clause-numbered : goal.index_renewed-requires-clause-numbered
index_renewed-requires-clause-numbered c =
    let made :
    c.in_ok-kept.kept ≡ recorded c.as_record.result.now.number c.args.granted c.args.draft
    = c.in_ok-kept.ensures ∙ c.record_from.ensures in
    let number : c.as_record.result.now.number ≡ c.args.old.now.number =
    ap (λ (x : Record). x.number) c.as_record.ensures in
    ap (λ (x : Record). x.number) (c.as_record-3.ensures ∙ made)
    ∙ record_number c.as_record.result.now.number c.args.granted c.args.draft
    ∙ number
    ∙ sym (ap (λ (x : Record). x.number) c.as_record-2.ensures)

pub index_renewed-requires-clause-named : goal.index_renewed-requires-clause-named
index_renewed-requires-clause-named c =
    let made :
    c.in_ok-kept.kept ≡ recorded c.as_record.result.now.number c.args.granted c.args.draft
    = c.in_ok-kept.ensures ∙ c.record_from.ensures in
    ap (λ (x : Record). x.name) (c.as_record-3.ensures ∙ made)
    ∙ record_name c.as_record.result.now.number c.args.granted c.args.draft
    ∙ c.requires.named
    ∙ sym (ap (λ (x : Record). x.name) c.as_record-2.ensures)

pub index_renewed-requires-clause-links : goal.index_renewed-requires-clause-links
index_renewed-requires-clause-links c =
    let made :
    c.in_ok-kept.kept ≡ recorded c.as_record.result.now.number c.args.granted c.args.draft
    = c.in_ok-kept.ensures ∙ c.record_from.ensures in
    let new : c.as_record-3.result.now.items ≡ c.args.draft.items =
    ap (λ (x : Record). x.items) (c.as_record-3.ensures ∙ made)
    ∙ record_items c.as_record.result.now.number c.args.granted c.args.draft in
    let old : c.as_record-2.result.now.items ≡ c.args.old.now.items =
    ap (λ (x : Record). x.items) c.as_record-2.ensures in
    subst (λ (is : List Item). AreAfter c.args.links is c.as_record-3.result.now.items) (sym old)
    (subst (AreAfter c.args.links c.args.old.now.items) (sym new) c.requires.links)

pub invariant_of-result : goal.invariant_of-result
invariant_of-result c =
    let v = c.args.self.now in
    let i = c.self.inside in
    let now = c.args.now in
    let old = c.args.old.now in
    let granted = c.args.granted in
    let draft = c.args.draft in
    let kept : IsKept v i.names i.leases i.live i.text =
    subst (λ w. IsKept w i.names i.leases i.live i.text) c.self.view_is c.self.invariant.0 in
    let r = c.requires in
    let a : Renewal v now c.args.counts old granted draft = record {
      after_at = r.after_at;
      after_sweep = r.after_sweep;
      moment = r.moment;
      counts = r.counts;
      stored = r.stored;
      live = r.live;
      granted = r.granted;
      unlapsed = r.unlapsed;
      named = r.named;
      sound = r.sound;
    } in
    let new = recorded old.number granted draft in
    let number : c.as_record.result.now.number ≡ old.number =
    ap (λ (x : Record). x.number) c.as_record.ensures in
    let octets : c.weight_after-octets.result ≡ capped (weight new) =
    c.weight_after-octets.ensures granted in
    let room = c.in-Ok.ensures (weight new) octets in
    let entries : i.entries ≡ v.entries = ap (λ (w : Version). w.entries) c.self.view_is in
    let text =
    text_is v now c.args.counts old granted draft a kept.rising c.octets.result c.octets.ensures in
    let made : c.in_ok-kept.kept ≡ new =
    c.in_ok-kept.ensures ∙ c.record_from.ensures ∙ ap (λ n. recorded n granted draft) number in
    let records : c.in_ok-records.records ≡ with_record new v.records =
    c.in_ok-records.ensures.records
    ∙ ap₂ with_record made (ap (λ (w : Version). w.records) c.self.view_is) in
    let ended : c.in_ok-leases.leases ≡ without_lease i.leases (lease_of old) =
    c.in_ok-leases.ensures.queue
    ∙ ap (without_lease i.leases)
    (lease_is c.lapse.result c.as_record.result.now.number old c.lapse.ensures number) in
    let begun :
    c.in_ok-leases-2.leases ≡ with_lease (without_lease i.leases (lease_of old)) (lease_of new)
    = c.in_ok-leases-2.ensures.queue
    ∙ ap₂ with_lease ended
    (lease_is c.lapse-2.result c.as_record.result.now.number new (c.lapse-2.ensures ∙ ap lapse
    made) (number ∙ sym (record_number old.number granted draft))) in
    let few = room.2 in
    let whole =
    renewal_kept v i.names i.leases i.live i.text now c.args.counts old granted draft kept a
    (omega (arith, few, entries)) c.in-Ok.text (room.0 ∙ text)
    (omega (arith, room.0, room.1)) c.in_ok-records.records records
    c.in_ok-records.ensures.rising c.in_ok-leases-2.leases begun in
    let indexed : AreEntriesOf v.records i.index =
    subst (λ (w : Version). AreEntriesOf w.records i.index) c.self.view_is c.self.invariant.1 in
    let found : numbered new.number v.records ≡ Some old =
    ap (λ n. numbered n v.records) (record_number old.number granted draft) ∙ r.stored in
    let placed : AreEntriesOf (renewed new v.records) c.in_ok-index.index
    = subst (λ x. AreEntriesOf (renewed x v.records) c.in_ok-index.index)
    (c.as_record-3.ensures ∙ made)
    (c.in_ok-index.ensures v.records kept.rising (ap (λ (x : Record). numbered x.number v.records)
    c.as_record-2.ensures ∙ r.stored ∙ ap Some (sym c.as_record-2.ensures)) indexed) in (
      subst (λ (w : Version).
          IsKept (after_entry w now.0 c.in_ok-records.records w.last_number) c.in_ok-names.names
          c.in_ok-leases-2.leases c.args.counts.live c.in-Ok.text) (sym c.self.view_is)
          (subst (λ n.
          IsKept (after_entry v now.0 c.in_ok-records.records v.last_number) n
          c.in_ok-leases-2.leases c.args.counts.live c.in-Ok.text)
          (sym c.in_ok-names.ensures) whole),
      subst (λ rs. AreEntriesOf rs c.in_ok-index.index)
          (sym (records ∙ with_record-renewed new old v.records kept.rising found)) placed,
    )

pub returns : goal.returns
returns c =
    let v = c.args.self.now in
    let i = c.self.inside in
    let now = c.args.now in
    let old = c.args.old.now in
    let granted = c.args.granted in
    let draft = c.args.draft in
    let kept : IsKept v i.names i.leases i.live i.text =
    subst (λ w. IsKept w i.names i.leases i.live i.text) c.self.view_is c.self.invariant.0 in
    let r = c.requires in
    let a : Renewal v now c.args.counts old granted draft = record {
      after_at = r.after_at;
      after_sweep = r.after_sweep;
      moment = r.moment;
      counts = r.counts;
      stored = r.stored;
      live = r.live;
      granted = r.granted;
      unlapsed = r.unlapsed;
      named = r.named;
      sound = r.sound;
    } in
    let new = recorded old.number granted draft in
    let number : c.as_record.result.now.number ≡ old.number =
    ap (λ (x : Record). x.number) c.as_record.ensures in
    let octets : c.weight_after-octets.result ≡ capped (weight new) =
    c.weight_after-octets.ensures granted in
    let room = c.in-Ok.ensures (weight new) octets in
    let entries : i.entries ≡ v.entries = ap (λ (w : Version). w.entries) c.self.view_is in
    let text =
    text_is v now c.args.counts old granted draft a kept.rising c.octets.result c.octets.ensures in
    let made : c.in_ok-kept.kept ≡ new =
    c.in_ok-kept.ensures ∙ c.record_from.ensures ∙ ap (λ n. recorded n granted draft) number in
    let records : c.in_ok-records.records ≡ with_record new v.records =
    c.in_ok-records.ensures.records
    ∙ ap₂ with_record made (ap (λ (w : Version). w.records) c.self.view_is) in
    let few = room.2 in
    let light = room.1 in (
      ap (λ (w : Version). after_entry w now.0 c.in_ok-records.records w.last_number) c.self.view_is
          ∙ renewal_records v now c.args.counts old granted draft kept.rising a
          c.in_ok-records.records records,
      omega (arith, light, text),
      omega (arith, few, entries),
    )
