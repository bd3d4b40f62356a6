-- What comes of watching a query: after the observer before is taken off, and for the observers
-- that the table stands for.
use Rattle.std.proofs.Common.{
  ◌≡◌,
  ◌≢◌,
  ℕ,
  List,
  [],
  ◌∷◌,
  ◌++◌,
  Result,
  Ok,
  Err,
  OnOk,
  subst,
  sym,
  ap,
  ◌∙◌,
  refl,
}
use Rattle.rd_base.specs.declared.queries.Query.{Query}
use Rattle.event_model.specs.declared.notes.Observer.{Observer}
use Rattle.watch_table.specs.declared.watch_fault.WatchFault.{WatchFault}
use Rattle.watch_table.specs.declared.watch_fault.WatchFault.TheVariants as fault
use Rattle.watch_table.specs.WatchedQueries.{Table, one_more, IsSlotFor}
use Rattle.watch_table.specs.ObserverCounts.{WatchesStandFor, IsFullAmong}
use Rattle.watch_table.specs.Outcomes.{Watches}
use Rattle.watch_table.proofs.ObserverLaws.{more-StandsFor, full-StandsFor, full_among-StandsFor}

pub watches-instead : (query : Query) (old gone before new : Table) (r : Result ℕ WatchFault)
    → Watches query before before r new
    → before ≡ gone
    → r ≢ Err fault.Starved
    → Watches query old gone r new
watches-instead query old gone before new (Ok slot) h same given =
    subst (λ t. Watches query old t (Ok slot) new) same h
watches-instead query old gone before new (Err fault.FullWatches) h same given =
    subst (λ t. Watches query old t (Err fault.FullWatches) new) same h
watches-instead query old gone before new (Err fault.Starved) h same given = absurd (given refl)

pub watches-StandsFor : (query : Query) (old gone new : Table) (standing : List Observer)
    (o : Observer) (r : Result ℕ WatchFault)
    → Watches query old gone r new
    → o.query ≡ query
    → WatchesStandFor standing gone
    → OnOk r (WatchesStandFor (standing ++ o ∷ []) new)
watches-StandsFor query old gone new standing o (Ok slot) h is stands =
    subst (WatchesStandFor (standing ++ o ∷ [])) (ap (λ q. one_more slot q gone) is
    ∙ sym h.table)
    (more-StandsFor standing o slot gone
    (subst (λ q. IsSlotFor q slot gone) (sym is) h.slot_for) stands)
watches-StandsFor query old gone new standing o (Err e) h is stands = tt

pub refused_among : (query : Query) (old gone new : Table) (standing : List Observer)
    (r : Result ℕ WatchFault)
    → Watches query old gone r new
    → WatchesStandFor standing gone
    → r ≡ Err fault.FullWatches
    → IsFullAmong query standing
refused_among query old gone new standing (Ok slot) h stands is = absurd cc
refused_among query old gone new standing (Err fault.FullWatches) h stands is =
    full-StandsFor query standing gone stands h.full
refused_among query old gone new standing (Err fault.Starved) h stands is = absurd cc

pub accepted_among : (query : Query) (old gone new : Table) (standing : List Observer)
    (r : Result ℕ WatchFault)
    → Watches query old gone r new
    → WatchesStandFor standing gone
    → IsFullAmong query standing
    → (slot : ℕ)
    → r ≡ Ok slot
    → ⊥
accepted_among query old gone new standing (Ok own) h stands full slot is =
    h.room (full_among-StandsFor query standing gone stands full)
accepted_among query old gone new standing (Err e) h stands full slot is = absurd cc
