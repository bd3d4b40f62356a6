-- What a row that is no tick builds for observers: no notification, and a first body for each that
-- it adds.
use Rattle.std.proofs.Common.{◌≡◌, ℕ, true, false, List, ◌∷◌, None, refl, sym, subst, ◌∙◌}
use Rattle.std.specs.List.{list_any, AllByRecursion}
use Rattle.std.proofs.lemmas.Bool.{false≢true}
use Rattle.std.proofs.lemmas.List.Folds.{list_any-append}
use Rattle.event_model.specs.declared.notes.Note.{Note}
use Rattle.event_model.specs.declared.notes.Note.TheVariants as note
use Rattle.event_model.specs.declared.notes.Observer.{Observer}
use Rattle.event_model.specs.Observers.{name_of}
use Rattle.event_model.specs.Flights.{is_forming_for}
use Rattle.event_model.proofs.SameLaws.{is_same_request-refl}
use Rattle.journal_model.specs.declared.rows.Row.{Row}
use Rattle.journal_model.proofs.observers.ObserverKnowledge.{is_observing}
use Rattle.journal_model.proofs.observers.AddedObservers.{around}
use Rattle.journal_model.proofs.observers.ObserversKnow.{ObserverNotes, quiet, adds}
use Rattle.journal_model.proofs.notes.LookupNotes.{OfWatched}
use Rattle.journal_model.proofs.FlightKeys.{is_notification}
use Rattle.std.proofs.lemmas.Bool.{or_right}
use Rattle.rd_base.proofs.lemmas.Each.{each_append, none_pass, each_failing}

-- notes that do nothing for observers
observing_none : (P : Observer → Type 0) (notes : List Note)
    → list_any is_observing notes ≡ false
    → (list_any is_notification notes ≡ false) × AllByRecursion (OfWatched P) notes
observing_none P notes none = (
  none_pass is_observing is_notification forms_none notes none,
  each_failing is_observing (OfWatched P)
      adds_none notes none,
)
  where
    forms_none : (x : Note) → is_observing x ≡ false → is_notification x ≡ false
    forms_none (note.Formed peer token body mid) h = absurd (false≢true (sym h))
    forms_none _ h = refl

    adds_none : (x : Note) → is_observing x ≡ false → OfWatched P x
    adds_none (note.Watched o) h = absurd (false≢true (sym h))
    adds_none _ h = tt

-- what a row that is no tick builds for observers: no notification, and something for whomever it
-- adds
pub record FormsFirst (notes : List Note) : Type 0 where
  pub none : list_any is_notification notes ≡ false
  pub added : AllByRecursion (OfWatched (λ o. list_any (is_forming_for (name_of o)) notes ≡ true))
      notes

-- so it is of each row that is no tick
pub first_forms : (rows : List Row) (moment : ℕ) (notes : List Note)
    → ObserverNotes rows moment notes
    → FormsFirst notes
first_forms rows moment notes (quiet h) =
    let it = observing_none (λ o. list_any (is_forming_for (name_of o)) notes ≡ true) notes h in
    record { none = it.0; added = it.1 }
first_forms rows moment notes (adds o front back body is before after listed silent) =
    subst FormsFirst (sym is) (record {
      none =
          list_any-append is_notification front
          (note.Watched o ∷ note.Formed o.peer o.token body None ∷ back)
          ∙ rw (first.0, last.0) refl;
      added =
          each_append (OfWatched P) front
          (note.Watched o ∷ note.Formed o.peer o.token body None ∷ back)
          first.1 (
            list_any-append (is_forming_for (name_of o)) front
                (note.Watched o ∷ note.Formed o.peer o.token body None ∷ back)
                ∙ or_right (list_any (is_forming_for (name_of o)) front) _
                (rw (is_same_request-refl (name_of o)) refl),
            (tt, last.1),
          );
    })
  where
    P : Observer → Type 0
    P x = list_any (is_forming_for (name_of x)) (around front o body back) ≡ true

    first : (list_any is_notification front ≡ false) × AllByRecursion (OfWatched P) front
    first = observing_none P front before

    last : (list_any is_notification back ≡ false) × AllByRecursion (OfWatched P) back
    last = observing_none P back after
