-- The last admission of a peer and a Message ID: where it is young and did not fail, it is kept,
-- and a write of them is a repeat.
use Rattle.std.proofs.Common.{
  ◌≡◌,
  ℕ,
  ◌==◌,
  Bool,
  true,
  false,
  not,
  cond,
  List,
  [],
  ◌∷◌,
  ◌++◌,
  filter,
  Some,
  None,
  option_and_then,
  refl,
  sym,
  ap,
  subst,
  ◌∙◌,
  eqb-true,
}
use Rattle.std.specs.List.{list_any}
use Rattle.std.proofs.lemmas.Bool.{false≢true, or_right, or_parts}
use Rattle.std.proofs.lemmas.List.Elements.{filter-append}
use Rattle.std.proofs.lemmas.List.Folds.{list_any-append}
use Rattle.rd_base.specs.declared.peers.Peer.{Peer}
use Rattle.rd_base.proofs.lemmas.Filters.{filter_swapped, any_kept}
use Rattle.event_model.specs.declared.notes.Note.{Note}
use Rattle.event_model.specs.declared.notes.Note.TheVariants as note
use Rattle.event_model.specs.Events.{Event, last_event, has_event, is_young}
use Rattle.event_model.specs.Repeats.{
  is_admission_of,
  admission_noted,
  is_failure_of,
  admissions,
  kept,
  is_kept,
  repeated,
}
use Rattle.rd_base.proofs.lemmas.Numbers.{eqb-refl}

-- so it is after others, and among those that pass another test
found_filtered : (test young keep : Event → Bool)
    → ((o : Event) → test o ≡ true → keep o ≡ true)
    → (xs ys : List Event)
    → list_any test (filter young ys) ≡ true
    → list_any test (filter young (xs ++ filter keep ys)) ≡ true
found_filtered test young keep kept_too xs ys h =
    rw (filter-append young xs (filter keep ys))
    (rw (list_any-append test (filter young xs) (filter young (filter keep ys)))
    (or_right (list_any test (filter young xs)) (list_any test (filter young (filter keep ys)))
    (ap (list_any test) (filter_swapped young keep ys)
    ∙ (any_kept test keep kept_too (filter young ys) ∙ h))))

-- the note of an admission
admitted_by : (peer : Peer) (mid : ℕ) (n : Note) (e : Event)
    → is_admission_of peer mid n ≡ true
    → admission_noted n e ≡ e ∷ []
admitted_by peer mid (note.Admitted p m) e h = refl
admitted_by peer mid _ e h = absurd (false≢true h)

-- the last admission of a peer and a Message ID is kept where it is young and did not fail
pub last_is_kept : (now : ℕ) (peer : Peer) (mid : ℕ) (events : List Event) (a : Event)
    → last_event (is_admission_of peer mid) events ≡ Some a
    → is_young now a.moment ≡ true
    → has_event (is_failure_of a.place) events ≡ false → is_kept now events a ≡ true
unfolding admissions kept
last_is_kept now peer mid [] a last young alive = absurd (let h : None ≡ Some a = last in cc)
last_is_kept now peer mid (e ∷ before) a last young alive =
    by (is_admission_of peer mid e.note) refl last
    (or_parts (is_failure_of a.place e.note) (has_event (is_failure_of a.place) before) alive)
    (λ found alive_before. last_is_kept now peer mid before a found young alive_before)
  where
    by : (b : Bool)
        → is_admission_of peer mid e.note ≡ b
        → cond b (Some e) (last_event (is_admission_of peer mid) before) ≡ Some a
        → (is_failure_of a.place e.note ≡ false)
        × (has_event (is_failure_of a.place) before ≡ false)
        → (last_event (is_admission_of peer mid) before ≡ Some a
        → has_event (is_failure_of a.place) before ≡ false
        → is_kept now before a ≡ true)
        → list_any (λ other. other.place == a.place)
        (filter (λ x. is_young now x.moment) (admission_noted e.note e
        ++ filter (λ x. not (is_failure_of x.place e.note)) (admissions before)))
        ≡ true
    by true it found both more =
        let same : e ≡ a = cc in
        rw (admitted_by peer mid e.note e it)
        (rw (subst (λ (x : Event). is_young now x.moment ≡ true) (sym same) young)
        (rw (subst (λ (x : Event). (x.place == a.place) ≡ true) (sym same)
        (eqb-refl a.place)) refl))
    by false it found both more =
        found_filtered (λ other. other.place == a.place) (λ x. is_young now x.moment)
        (λ x. not (is_failure_of x.place e.note))
        (λ o t.
        ap not (subst (λ p. is_failure_of p e.note ≡ false) (sym (eqb-true o.place a.place t))
        both.0)) (admission_noted e.note e) (admissions before) (more found both.1)

-- where no kept admission has a peer and a Message ID, but the last one with them is young, that
-- one failed
pub last_failed : (now : ℕ) (peer : Peer) (mid : ℕ) (events : List Event) (a : Event)
    → repeated now peer mid events ≡ None
    → last_event (is_admission_of peer mid) events ≡ Some a
    → is_young now a.moment ≡ true → has_event (is_failure_of a.place) events ≡ true
unfolding repeated
last_failed now peer mid events a none last young =
    by (has_event (is_failure_of a.place) events) refl
  where
    kept_again : is_kept now events a ≡ true → Some a ≡ None
    kept_again h =
        sym (subst (λ found.
        option_and_then (λ x. cond (is_kept now events x) (Some x) None) found ≡ Some a)
        (sym last) (rw h refl))
        ∙ none

    by : (b : Bool)
        → has_event (is_failure_of a.place) events ≡ b
        → has_event (is_failure_of a.place) events ≡ true
    by true e = e
    by false e =
        absurd
        (let h : Some a ≡ None = kept_again (last_is_kept now peer mid events a last young e) in
        cc)
