use Rattle.std.proofs.Common.{
  refl,
  ◌≡◌,
  ◌+◌,
  ◌≤◌,
  ◌^◌,
  [],
  ◌∷◌,
  ◌++◌,
  Err,
  sym,
  ap,
  ap₂,
  ◌∙◌,
  subst,
  arith,
  ◌||◌,
}
use Rattle.rd_base.specs.declared.moments.Moment.{Moment}
use Rattle.rd_base.specs.declared.records.Record.{Record}
use Rattle.record_model.specs.ListingLines.{weight}
use Rattle.registration.specs.Drafts.{recorded}
use Rattle.registration.specs.Weights.{capped}
use Rattle.history_model.specs.Versions.{Version}
use Rattle.history_model.specs.Leases.{lapse, live_among}
use Rattle.history_model.specs.Refusals.{text_of}
use Rattle.lease_queue.specs.Leases.{with_lease}
use Rattle.directory_core.specs.declared.counts.Counts.{Counts}
use Rattle.directory_core.specs.AfterEntries.{after_entry, HasRoom}
use Rattle.directory_core.specs.NameSlots.{slot_of, with_slot}
use Rattle.directory_core.specs.NumberOrder.{with_record}
use Rattle.directory_core.specs.Shown.{IsKept, lease_of}
use Rattle.directory_core.proofs.KeptLaws.{live_light}
use Rattle.directory_core.proofs.RenewLaws.{
  Addition,
  record_granted,
  record_number,
  lease_is,
  slot_is,
  addition_text,
  addition_put,
  addition_kept,
  room_refused,
}
use Rattle.attribute_index.specs.Entries.{has_entry}
use Rattle.directory_core.specs.Bounds.{record_entries, AreEntriesOf}
use Rattle.directory_core.proofs.IndexLaws.{entries_appended}
use Rattle.directory_core.proofs.directory.Directory.appended.Goals as goal

pub text_with-requires : goal.text_with-requires
text_with-requires c =
    let v = c.args.self.now in
    let i = c.self.inside in
    let kept : IsKept v i.names i.leases i.live i.text =
    subst (λ w. IsKept w i.names i.leases i.live i.text) c.self.view_is c.self.invariant.0 in
    let light =
    live_light v i.names i.leases i.live i.text c.args.now.0 kept c.requires.after_at
    c.requires.after_sweep in
    let before : c.args.counts.text ≡ text_of (live_among c.args.now.0 v.records) =
    ap (λ (x : Counts). x.text) c.requires.counts in
    omega (arith, light, before)

pub returns-in-Err : goal.returns-in-Err
returns-in-Err c =
    let v = c.args.self.now in
    let i = c.self.inside in
    let r = c.requires in
    let now = c.args.now in
    let draft = c.args.draft in
    let a : Addition v now c.args.counts draft = record {
      after_at = r.after_at;
      after_sweep = r.after_sweep;
      moment = r.moment;
      counts = r.counts;
      few = r.few;
      sound = r.sound;
    } in
    let next : i.last_number + 1 ≡ v.last_number + 1 =
    ap (λ (w : Version). w.last_number + 1) c.self.view_is in
    let new = recorded (v.last_number + 1) now draft in
    let octets : c.weight-octets.result ≡ capped (weight new) =
    c.weight-octets.ensures now ∙ ap (λ n. capped (weight (recorded n now draft))) next in
    room_refused (text_of (live_among now.0 v.records ++ new ∷ [])) v.entries i.entries
    (after_entry v now.0 (v.records ++ new ∷ []) (v.last_number + 1)) c.in-Err.refusal
    (Err c.in-Err.refusal)
    (ap (λ (w : Version). w.entries) c.self.view_is) refl
    (subst (λ t. HasRoom t i.entries (Err c.in-Err.refusal))
    (addition_text v now c.args.counts draft a) (c.in-Err.ensures (weight new) octets))

pub of-requires-clause-granted : goal.of-requires-clause-granted
of-requires-clause-granted c =
    let granted : c.record_from.result.granted ≡ c.args.now =
    ap (λ (x : Record). x.granted) c.record_from.ensures
    ∙ record_granted (c.self.inside.last_number + 1) c.args.now c.args.draft in
    subst (λ (m : Moment). m.0 ≤ 10 ^ 15) (sym granted) c.requires.moment

pub invariant_of-result : goal.invariant_of-result
invariant_of-result c =
    let v = c.args.self.now in
    let i = c.self.inside in
    let r = c.requires in
    let now = c.args.now in
    let draft = c.args.draft in
    let kept : IsKept v i.names i.leases i.live i.text =
    subst (λ w. IsKept w i.names i.leases i.live i.text) c.self.view_is c.self.invariant.0 in
    let a : Addition v now c.args.counts draft = record {
      after_at = r.after_at;
      after_sweep = r.after_sweep;
      moment = r.moment;
      counts = r.counts;
      few = r.few;
      sound = r.sound;
    } in
    let next : i.last_number + 1 ≡ v.last_number + 1 =
    ap (λ (w : Version). w.last_number + 1) c.self.view_is in
    let new = recorded (v.last_number + 1) now draft in
    let octets : c.weight-octets.result ≡ capped (weight new) =
    c.weight-octets.ensures now ∙ ap (λ n. capped (weight (recorded n now draft))) next in
    let room = c.in-Ok.ensures (weight new) octets in
    let entries : i.entries ≡ v.entries = ap (λ (w : Version). w.entries) c.self.view_is in
    let text = addition_text v now c.args.counts draft a in
    let made : c.in_ok-kept.kept ≡ new =
    c.in_ok-kept.ensures ∙ c.record_from.ensures ∙ ap (λ n. recorded n now draft) next in
    let number = record_number (v.last_number + 1) now draft in
    let records : c.in_ok-records.records ≡ with_record new v.records =
    c.in_ok-records.ensures.records
    ∙ ap₂ with_record made (ap (λ (w : Version). w.records) c.self.view_is) in
    let begun : c.in_ok-leases.leases ≡ with_lease i.leases (lease_of new)
    = c.in_ok-leases.ensures.queue
    ∙ ap (with_lease i.leases)
    (lease_is c.lapse.result (i.last_number + 1) new (c.lapse.ensures ∙ ap lapse made) (next ∙
    sym number)) in
    let named : c.in_ok-names.names ≡ with_slot (slot_of new) i.names
    = c.in_ok-names.ensures
    ∙ ap (λ s. with_slot s i.names)
    (slot_is c.as_record.result.now (i.last_number + 1) new (c.as_record.ensures ∙ made) (next ∙
    sym number)) in
    let few = room.2 in
    let whole =
    addition_kept v i.names i.leases i.live i.text now c.args.counts draft kept a
    (omega (arith, few, entries)) c.in-Ok.text (room.0 ∙ text)
    (omega (arith, room.0, room.1)) c.in_ok-records.records records c.in_ok-names.names
    named c.in_ok-leases.leases begun in
    let indexed : AreEntriesOf v.records i.index =
    subst (λ (w : Version). AreEntriesOf w.records i.index) c.self.view_is c.self.invariant.1 in
    let placed : AreEntriesOf (v.records ++ new ∷ []) c.in_ok-index.index
    = entries_appended v.records new i.index c.in_ok-index.index indexed
    (λ e.
    c.in_ok-index.ensures.entries e
    ∙ ap (λ x. has_entry i.index e || has_entry (record_entries x) e)
    (c.as_record-2.ensures ∙ made)) c.in_ok-index.ensures.ascends in (
      subst (λ (w : Version).
          IsKept (after_entry w now.0 c.in_ok-records.records (w.last_number + 1))
          c.in_ok-names.names c.in_ok-leases.leases (c.args.counts.live + 1) c.in-Ok.text)
          (sym c.self.view_is) whole,
      subst (λ rs. AreEntriesOf rs c.in_ok-index.index)
          (sym (records ∙ addition_put v i.names i.leases i.live i.text now draft kept)) placed,
    )

pub returns : goal.returns
returns c =
    let v = c.args.self.now in
    let i = c.self.inside in
    let r = c.requires in
    let now = c.args.now in
    let draft = c.args.draft in
    let kept : IsKept v i.names i.leases i.live i.text =
    subst (λ w. IsKept w i.names i.leases i.live i.text) c.self.view_is c.self.invariant.0 in
    let a : Addition v now c.args.counts draft = record {
      after_at = r.after_at;
      after_sweep = r.after_sweep;
      moment = r.moment;
      counts = r.counts;
      few = r.few;
      sound = r.sound;
    } in
    let next : i.last_number + 1 ≡ v.last_number + 1 =
    ap (λ (w : Version). w.last_number + 1) c.self.view_is in
    let new = recorded (v.last_number + 1) now draft in
    let octets : c.weight-octets.result ≡ capped (weight new) =
    c.weight-octets.ensures now ∙ ap (λ n. capped (weight (recorded n now draft))) next in
    let room = c.in-Ok.ensures (weight new) octets in
    let entries : i.entries ≡ v.entries = ap (λ (w : Version). w.entries) c.self.view_is in
    let text = addition_text v now c.args.counts draft a in
    let made : c.in_ok-kept.kept ≡ new =
    c.in_ok-kept.ensures ∙ c.record_from.ensures ∙ ap (λ n. recorded n now draft) next in
    let records : c.in_ok-records.records ≡ v.records ++ new ∷ [] =
    c.in_ok-records.ensures.records
    ∙ ap₂ with_record made (ap (λ (w : Version). w.records) c.self.view_is)
    ∙ addition_put v i.names i.leases i.live i.text now draft kept in
    let few = room.2 in
    let light = room.1 in (
      ap (λ (w : Version). after_entry w now.0 c.in_ok-records.records (w.last_number + 1))
          c.self.view_is
          ∙ ap (λ rs. after_entry v now.0 rs (v.last_number + 1)) records,
      omega (arith, light, text),
      omega (arith, few, entries),
    )
