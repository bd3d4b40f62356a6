use Rattle.std.proofs.Common.{◌≡◌, max, sym, ap, ap₂, ◌∙◌, subst, arith}
use Rattle.history_model.specs.Versions.{Version}
use Rattle.directory_core.specs.Bounds.{AreEntriesOf}
use Rattle.directory_core.specs.Shown.{IsKept}
use Rattle.directory_core.proofs.RenewLaws.{begun_with, beginning_kept}
use Rattle.directory_core.proofs.directory.Directory.begun.Goals as goal

pub invariant_of-result : goal.invariant_of-result
invariant_of-result c =
    let v = c.args.self.now in
    let i = c.self.inside in
    let r = c.requires in
    let first = c.args.first in
    let kept : IsKept v i.names i.leases i.live i.text =
    subst (λ w. IsKept w i.names i.leases i.live i.text) c.self.view_is c.self.invariant.0 in
    let entries : c.lifted-entries.result ≡ max v.entries first =
    c.lifted-entries.ensures ∙ ap (λ (w : Version). max w.entries first) c.self.view_is in
    let last : c.lifted.result ≡ max v.last_number first =
    c.lifted.ensures ∙ ap (λ (w : Version). max w.last_number first) c.self.view_is in
    let records : c.in_ok-records.records ≡ v.records =
    c.in_ok-records.ensures.same ∙ ap (λ (w : Version). w.records) c.self.view_is in
    let whole =
    beginning_kept v i.names i.leases i.live i.text c.args.now c.counts_at-counts.result first kept
    r.after_at r.after_sweep r.moment c.counts_at-counts.ensures c.lifted-entries.result
    c.lifted.result entries c.in_ok-room_for_entry.ensures last c.in_ok-records.records records
    c.in_ok-names.names c.in_ok-names.ensures c.in_ok-leases.leases c.in_ok-leases.ensures.same in
    let indexed : AreEntriesOf v.records i.index =
    subst (λ (w : Version). AreEntriesOf w.records i.index) c.self.view_is c.self.invariant.1 in (
      subst (λ (w : Version).
          IsKept (begun_with w c.args.now.0 c.in_ok-records.records c.lifted-entries.result
          c.lifted.result) c.in_ok-names.names c.in_ok-leases.leases c.counts_at-counts.result.live
          c.counts_at-counts.result.text) (sym c.self.view_is) whole,
      subst (λ rs. AreEntriesOf rs c.in_ok-index.index) (sym records)
          (subst (AreEntriesOf v.records) (sym c.in_ok-index.ensures) indexed),
    )

pub returns : goal.returns
returns c =
    let v = c.args.self.now in
    let first = c.args.first in
    let entries : c.lifted-entries.result ≡ max v.entries first =
    c.lifted-entries.ensures ∙ ap (λ (w : Version). max w.entries first) c.self.view_is in
    let last : c.lifted.result ≡ max v.last_number first =
    c.lifted.ensures ∙ ap (λ (w : Version). max w.last_number first) c.self.view_is in
    let records : c.in_ok-records.records ≡ v.records =
    c.in_ok-records.ensures.same ∙ ap (λ (w : Version). w.records) c.self.view_is in
    let few = c.in_ok-room_for_entry.ensures in (
      ap (λ (w : Version).
          begun_with w c.args.now.0 c.in_ok-records.records c.lifted-entries.result
          c.lifted.result) c.self.view_is
          ∙ (ap (λ rs.
          begun_with v c.args.now.0 rs c.lifted-entries.result c.lifted.result) records
          ∙ ap₂ (begun_with v c.args.now.0 v.records) entries last),
      omega arith,
      omega (arith, entries, few),
    )
