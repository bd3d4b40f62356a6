-- An admission is open from its event on, until one fails it: what a job keeps of the write that it
-- answers. End theorems, for what keeps a journal: nothing here cites them.
use Rattle.std.proofs.Common.{
  ◌≡◌,
  ℕ,
  false,
  not,
  List,
  ◌∷◌,
  ◌++◌,
  filter,
  true,
  refl,
  sym,
  ap,
  subst,
  ◌∙◌,
}
use Rattle.std.specs.List.{list_any}
use Rattle.rd_base.specs.declared.peers.Peer.{Peer}
use Rattle.rd_base.proofs.lemmas.Numbers.{eqb-refl}
use Rattle.rd_base.proofs.lemmas.Each.{none_pass}
use Rattle.event_model.specs.declared.notes.Note.{Note}
use Rattle.event_model.specs.declared.notes.Note.TheVariants as note
use Rattle.event_model.specs.Events.{Event, noted}
use Rattle.event_model.specs.Repeats.{
  admission_noted,
  is_admission_of,
  is_failure_of,
  is_ending_of,
  admissions,
}
use Rattle.event_model.specs.AdmissionOrder.{IsOrderly, is_admitted_event, IsOpen}
use Rattle.event_model.proofs.EventEquations.{admissions-event}
use Rattle.event_model.proofs.AsideLaws.{HasAdmission-noted}
use Rattle.exchange_core.proofs.RepeatLaws.{admission_passes}

-- the event that admits a write opens its admission
pub IsOpen-admitted : (peer : Peer) (mid : ℕ) (e : Event) (events : List Event)
    → e.note ≡ note.Admitted peer mid
    → IsOrderly (e ∷ events)
    → IsOpen e.place peer mid e.moment (e ∷ events)
IsOpen-admitted peer mid e events is orderly = record {
  orderly = orderly;
  admission =
      subst (λ (xs : List Event). list_any (is_admitted_event e.place peer mid e.moment) xs ≡ true)
      (sym (admissions-event e events
      ∙ ap (λ (n : Note).
      admission_noted n e
      ++ filter (λ a. not (is_failure_of a.place n)) (admissions events)) is))
      (rw (
        eqb-refl e.place,
        ap (is_admission_of peer mid) is,
        admission_passes peer mid,
        eqb-refl
            e.moment,
      ) refl);
}

-- the notes of a row that do not fail it leave it open
pub IsOpen-noted : (n place : ℕ) (peer : Peer) (mid moment at word : ℕ) (notes : List Note)
    (events : List Event)
    → IsOrderly (noted n at word notes events)
    → list_any (is_failure_of place) notes ≡ false
    → IsOpen place peer mid moment events
    → IsOpen place peer mid moment (noted n at word notes events)
IsOpen-noted n place peer mid moment at word notes events orderly none h = record {
  orderly = orderly;
  admission = HasAdmission-noted n place peer mid moment at word notes events none h.admission;
}

-- what neither settles it nor fails it, does not fail it
pub failure-ending : (place : ℕ) (notes : List Note)
    → list_any (is_ending_of place) notes ≡ false
    → list_any (is_failure_of place) notes ≡ false
failure-ending place notes none =
    none_pass (is_ending_of place) (is_failure_of place) one notes none
  where
    one : (n : Note) → is_ending_of place n ≡ false → is_failure_of place n ≡ false
    one (note.Failed p) h = h
    one _ h = refl
