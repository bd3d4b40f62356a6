use Rattle.std.proofs.Common.{◌≡◌, ◌+◌, ◌-◌, length, sym, ap, ap₂, ◌∙◌, subst, arith}
use Rattle.std.specs.Prelude.{filter, nat_le}
use Rattle.history_model.specs.Leases.{lapse, live_among}
use Rattle.history_model.specs.Versions.{Version, VersionStandsFor}
use Rattle.history_model.proofs.SweepLaws.{live_among_live}
use Rattle.history_model.proofs.VersionLaws.{swept_to, swept_to-VersionStandsFor}
use Rattle.lease_queue.specs.Leases.{lapsed_at, unlapsed_at}
use Rattle.directory_core.specs.declared.counts.Counts.{Counts}
use Rattle.directory_core.specs.Bounds.{AreEntriesOf}
use Rattle.directory_core.specs.Shown.{IsKept}
use Rattle.directory_core.specs.Swept.{without_all}
use Rattle.directory_core.proofs.ReadLaws.{lapsed-counted}
use Rattle.directory_core.proofs.SweptLaws.{
  after_sweep,
  swept_records,
  lapsed_count,
  kept_swept,
  shown_swept,
}
use Rattle.directory_core.proofs.directory.Directory.sweep.Goals as goal

pub returns-in_default-clause-counted : goal.returns-in_default-clause-counted
returns-in_default-clause-counted g c =
    let v = c.args.self.now in
    let i = c.self.inside in
    let kept : IsKept v i.names i.leases i.live i.text =
    subst (λ w. IsKept w i.names i.leases i.live i.text) c.self.view_is c.self.invariant.0 in
    let all :
    length (lapsed_at c.args.now.0 i.leases)
    ≡ length (filter (λ r. nat_le (lapse r) c.args.now.0) v.records) =
    ap (λ q. length (lapsed_at c.args.now.0 q)) kept.leased
    ∙ lapsed_count c.args.now.0 v.records kept.rising in
    omega (arith, all, c.sweep-swept.ensures.counted)

pub returns-in_err-records-clause-counted : goal.returns-in_err-records-clause-counted
returns-in_err-records-clause-counted g c =
    let v = c.args.self.now in
    let i = c.self.inside in
    let kept : IsKept v i.names i.leases i.live i.text =
    subst (λ w. IsKept w i.names i.leases i.live i.text) c.self.view_is c.self.invariant.0 in
    let all :
    length (lapsed_at c.args.now.0 i.leases)
    ≡ length (filter (λ r. nat_le (lapse r) c.args.now.0) v.records) =
    ap (λ q. length (lapsed_at c.args.now.0 q)) kept.leased
    ∙ lapsed_count c.args.now.0 v.records kept.rising in
    omega (arith, all, c.sweep-swept.ensures.counted)

pub returns-in_err-index-clause-counted : goal.returns-in_err-index-clause-counted
returns-in_err-index-clause-counted g c =
    let v = c.args.self.now in
    let i = c.self.inside in
    let kept : IsKept v i.names i.leases i.live i.text =
    subst (λ w. IsKept w i.names i.leases i.live i.text) c.self.view_is c.self.invariant.0 in
    let all :
    length (lapsed_at c.args.now.0 i.leases)
    ≡ length (filter (λ r. nat_le (lapse r) c.args.now.0) v.records) =
    ap (λ q. length (lapsed_at c.args.now.0 q)) kept.leased
    ∙ lapsed_count c.args.now.0 v.records kept.rising in
    omega (arith, all, c.sweep-swept.ensures.counted)

pub returns-clause-counted : goal.returns-clause-counted
returns-clause-counted g c =
    let v = c.args.self.now in
    let i = c.self.inside in
    let kept : IsKept v i.names i.leases i.live i.text =
    subst (λ w. IsKept w i.names i.leases i.live i.text) c.self.view_is c.self.invariant.0 in
    let all :
    length (lapsed_at c.args.now.0 i.leases)
    ≡ length (filter (λ r. nat_le (lapse r) c.args.now.0) v.records) =
    ap (λ q. length (lapsed_at c.args.now.0 q)) kept.leased
    ∙ lapsed_count c.args.now.0 v.records kept.rising in
    omega (arith, all, c.sweep-swept.ensures.counted)

pub overflow_sub-result : goal.overflow_sub-result
overflow_sub-result g c =
    let v = c.args.self.now in
    let i = c.self.inside in
    let kept : IsKept v i.names i.leases i.live i.text =
    subst (λ w. IsKept w i.names i.leases i.live i.text) c.self.view_is c.self.invariant.0 in
    let live = ap (λ (x : Counts). x.live) c.counts_at-counts.ensures in
    let all =
    lapsed-counted v i.names i.leases i.live i.text c.args.now.0 kept c.requires.after_at
    c.requires.after_sweep in
    omega (arith, live, all)

pub invariant_of-result : goal.invariant_of-result
invariant_of-result g c =
    let v = c.args.self.now in
    let i = c.self.inside in
    let now = c.args.now.0 in
    let kept : IsKept v i.names i.leases i.live i.text =
    subst (λ w. IsKept w i.names i.leases i.live i.text) c.self.view_is c.self.invariant.0 in
    let same : i.records ≡ v.records = ap (λ (w : Version). w.records) c.self.view_is in
    let left : c.in_ok-records.records ≡ live_among now v.records
    = c.in_ok-records.ensures.records
    ∙ ap₂ without_all
    (c.as_slice.ensures.value ∙ c.in-Ok.ensures.numbers ∙ ap (lapsed_at now) kept.leased) same
    ∙ swept_records now v.records kept.rising in
    let unlapsed : c.in-Ok.field-0.queue ≡ unlapsed_at now i.leases = c.in-Ok.ensures.queue in
    let whole =
    kept_swept v i.names i.leases i.live i.text now c.counts_at-counts.result kept
    c.requires.after_at c.requires.after_sweep c.counts_at-counts.ensures
    c.in_ok-records.records left c.in_ok-records.ensures.rising c.in_ok-records.names
    c.in_ok-records.ensures.named c.in-Ok.field-0.queue unlapsed in (
      subst (λ (w : Version).
          IsKept (after_sweep w now c.in_ok-records.records
          (w.swept_live + (i.live - c.counts_at-counts.result.live)))
          c.in_ok-records.names c.in-Ok.field-0.queue c.counts_at-counts.result.live
          c.counts_at-counts.result.text) (sym c.self.view_is) whole,
      subst (AreEntriesOf c.in_ok-records.records) (sym c.in_ok-index.ensures)
          c.in_ok-records.ensures.entries,
    )

pub returns-clause-stands : goal.returns-clause-stands
returns-clause-stands g c first history stands =
    let v = c.args.self.now in
    let i = c.self.inside in
    let now = c.args.now.0 in
    let kept : IsKept v i.names i.leases i.live i.text =
    subst (λ w. IsKept w i.names i.leases i.live i.text) c.self.view_is c.self.invariant.0 in
    let same : i.records ≡ v.records = ap (λ (w : Version). w.records) c.self.view_is in
    let left : c.in_ok-records.records ≡ live_among now v.records
    = c.in_ok-records.ensures.records
    ∙ ap₂ without_all
    (c.as_slice.ensures.value ∙ c.in-Ok.ensures.numbers ∙ ap (lapsed_at now) kept.leased) same
    ∙ swept_records now v.records kept.rising in
    let shown =
    shown_swept v i.names i.leases i.live i.text now c.counts_at-counts.result kept
    c.requires.after_at c.requires.after_sweep c.counts_at-counts.ensures
    c.in_ok-records.records left in
    let made :
    after_sweep v now c.in_ok-records.records
    (v.swept_live + (i.live - c.counts_at-counts.result.live))
    ≡ swept_to now v =
    shown in
    subst (λ (w : Version).
    VersionStandsFor first history (after_sweep w now c.in_ok-records.records
    (w.swept_live + (i.live - c.counts_at-counts.result.live))))
    (sym c.self.view_is)
    (subst (VersionStandsFor first history) (sym made)
    (swept_to-VersionStandsFor first history v now stands c.requires.after_sweep))

pub returns-clause-live : goal.returns-clause-live
returns-clause-live g c moment order =
    let v = c.args.self.now in
    let i = c.self.inside in
    let now = c.args.now.0 in
    let kept : IsKept v i.names i.leases i.live i.text =
    subst (λ w. IsKept w i.names i.leases i.live i.text) c.self.view_is c.self.invariant.0 in
    let same : i.records ≡ v.records = ap (λ (w : Version). w.records) c.self.view_is in
    let left : c.in_ok-records.records ≡ live_among now v.records
    = c.in_ok-records.ensures.records
    ∙ ap₂ without_all
    (c.as_slice.ensures.value ∙ c.in-Ok.ensures.numbers ∙ ap (lapsed_at now) kept.leased) same
    ∙ swept_records now v.records kept.rising in
    ap (live_among moment) left ∙ live_among_live now moment v.records order
