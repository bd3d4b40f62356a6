-- What a repeat is, is the latest admission with its peer and Message ID among those that are kept.
use Rattle.std.proofs.Common.{
  ◌≡◌,
  ◌≢◌,
  ℕ,
  ◌+◌,
  ◌≤◌,
  ◌==◌,
  Bool,
  true,
  false,
  not,
  cond,
  List,
  [],
  ◌∷◌,
  ◌++◌,
  filter,
  find,
  Option,
  Some,
  None,
  option_and_then,
  refl,
  sym,
  ap,
  ap₂,
  subst,
  ◌∙◌,
  eqb-true,
  arith,
}
use Rattle.std.specs.List.{list_any, AllByRecursion}
use Rattle.std.proofs.lemmas.Bool.{false≢true, and_parts, and_from, ltb-false, le-ltb}
use Rattle.rd_base.specs.declared.peers.Peer.{Peer}
use Rattle.rd_base.proofs.lemmas.Filters.{filter_swapped, filter_none, any_kept}
use Rattle.rd_base.proofs.lemmas.Each.{each_weaker, each_both, each_filter, each_passes}
use Rattle.rd_base.proofs.lemmas.Pairs.{pairs_filter, pairs_known, PairsByRecursion}
use Rattle.event_model.specs.declared.notes.Note.{Note}
use Rattle.event_model.specs.declared.notes.Note.TheVariants as note
use Rattle.event_model.specs.Same.{is_same_peer}
use Rattle.event_model.specs.Events.{Event, last_event, is_young, exchange_lifetime}
use Rattle.event_model.specs.Repeats.{
  is_admission_of,
  admission_noted,
  is_failure_of,
  admissions,
  kept,
  repeated,
  answer_noted,
}
use Rattle.event_model.proofs.SameLaws.{is_same_peer-Decides, is_same_peer-refl}
use Rattle.event_model.specs.AdmissionOrder.{
  NoneAfter,
  IsNewPlace,
  AdmitsNew,
  AdmitsInOrder,
  IsOrderly,
}
use Rattle.exchange_core.proofs.FilterLemmas.{
  filter_true,
  found_holds,
  none_passes,
  each_filtered,
  none_filtered,
  found_filtered,
  only_dropped,
  any_none_filtered,
  any_dropped,
}
use Rattle.rd_base.proofs.lemmas.Numbers.{eqb-refl}

-- ---- admissions

-- the event admits a write of this peer under this Message ID
abbrev pub admits : Peer → ℕ → Event → Bool
admits peer mid a = is_admission_of peer mid a.note

pub eqb-differs : (n m : ℕ) → n ≢ m → (n == m) ≡ false
eqb-differs n m h = by (n == m) refl
  where
    by : (b : Bool) → (n == m) ≡ b → (n == m) ≡ false
    by true e = absurd (h (eqb-true n m e))
    by false e = e

pub admission_is : (peer : Peer) (mid : ℕ) (n : Note)
    → is_admission_of peer mid n ≡ true
    → n ≡ note.Admitted peer mid
admission_is peer mid (note.Admitted p m) h =
    let both = and_parts (is_same_peer p peer) (m == mid) h in
    ap₂ (λ q k. note.Admitted q k) ((is_same_peer-Decides p peer).0 both.0) (eqb-true m mid both.1)
admission_is peer mid _ h = absurd (false≢true h)

pub admission_passes : (peer : Peer) (mid : ℕ)
    → is_admission_of peer mid (note.Admitted peer mid) ≡ true
admission_passes peer mid =
    and_from (is_same_peer peer peer) (mid == mid) (is_same_peer-refl peer) (eqb-refl mid)

-- what holds of each event holds of each admission
pub each_admission : (P : Event → Type 0) (events : List Event)
    → AllByRecursion P events
    → AllByRecursion P (admissions events)
unfolding admissions
each_admission P [] known = tt
each_admission P (e ∷ before) known =
    by e.note (filter (λ a. not (is_failure_of a.place e.note)) (admissions before))
    (each_filter P (λ a. not (is_failure_of a.place e.note)) (admissions before)
    (each_admission P before known.1))
  where
    by : (n : Note) (rest : List Event)
        → AllByRecursion P rest
        → AllByRecursion P (admission_noted n e ++ rest)
    by (note.Admitted peer mid) rest more = (known.0, more)
    by _ rest more = more

-- an admission and one after it: they have two places, and where they have one peer and Message ID,
-- they are as far apart as an exchange lives
pub record Follows (x y : Event) : Type 0 where
  pub place : y.place ≢ x.place
  pub apart : (peer : Peer) (mid : ℕ)
      → x.note ≡ note.Admitted peer mid
      → y.note ≡ note.Admitted peer mid
      → y.moment + exchange_lifetime ≤ x.moment

-- what is known of events
pub record Known (events : List Event) : Type 0 where
  pub pairs : PairsByRecursion Follows (admissions events)
  pub found : (now : ℕ) (peer : Peer) (mid : ℕ)
      → NoneAfter now events
      → find (admits peer mid) (kept now events) ≡ repeated now peer mid events

-- among those that are kept, no two have one peer and Message ID
apart_kept : (now : ℕ) (peer : Peer) (mid : ℕ) (events : List Event)
    → PairsByRecursion Follows (admissions events)
    → NoneAfter now events
    → PairsByRecursion (λ x y. admits peer mid x ≡ true → admits peer mid y ≡ false)
    (kept now events)
unfolding kept
apart_kept now peer mid events pairs in_time =
    pairs_known Here Follows (λ x y. admits peer mid x ≡ true → admits peer mid y ≡ false) step
    (filter young (admissions events))
    (each_both (λ a. a.moment ≤ now) (λ a. young a ≡ true) Here (λ a low y. (low, y))
    (filter young (admissions events))
    (each_filter (λ a. a.moment ≤ now) young (admissions events)
    (each_admission (λ a. a.moment ≤ now) events in_time))
    (each_passes young (admissions events)))
    (pairs_filter Follows young (admissions events) pairs)
  where
    young : Event → Bool
    young a = is_young now a.moment

    Here : Event → Type 0
    Here a = (a.moment ≤ now) × (young a ≡ true)

    step : (x y : Event)
        → Here x
        → Here y
        → Follows x y
        → admits peer mid x ≡ true
        → admits peer mid y ≡ false
    step x y here there follows first = by (admits peer mid y) refl
      where
        by : (b : Bool) → admits peer mid y ≡ b → admits peer mid y ≡ false
        by true e =
            let far =
            follows.apart peer mid (admission_is peer mid x.note first)
            (admission_is peer mid y.note e) in
            let low = here.0 in
            absurd (false≢true
            (sym (le-ltb now (y.moment + exchange_lifetime) (omega (arith, far, low)))
            ∙ there.1))
        by false e = e

-- ---- one event more

-- whether an admission of this place is kept decides what a repeat is
abbrev last_kept : List Event → Option Event → Option Event
last_kept keeps last =
    option_and_then (λ a. cond (list_any (λ o. o.place == a.place) keeps) (Some a) None) last

-- one more that is kept, of another place
one_kept : (e : Event) (keeps : List Event) (last : Option Event)
    → ((a : Event) → last ≡ Some a → a.place ≢ e.place)
    → last_kept (e ∷ keeps) last ≡ last_kept keeps last
one_kept e keeps None other = refl
one_kept e keeps (Some a) other =
    let no : (e.place == a.place) ≡ false =
    eqb-differs e.place a.place (λ same. other a refl (sym same)) in
    rw no refl

-- one fewer: that of a place
failed_kept : (test : Event → Bool) (q : ℕ) (keeps : List Event) (last : Option Event)
    → PairsByRecursion (λ x y. test x ≡ true → test y ≡ false) keeps
    → find test keeps ≡ last_kept keeps last
    → find test (filter (λ a. not (q == a.place)) keeps)
    ≡ last_kept (filter (λ a. not (q == a.place)) keeps) last
failed_kept test q keeps None apart found = none_filtered test (λ a. not (q == a.place)) keeps found
failed_kept test q keeps (Some a) apart found =
    by (list_any (λ o. o.place == a.place) keeps) (q == a.place) refl refl found
  where
    keep : Event → Bool
    keep o = not (q == o.place)

    same : Event → Bool
    same o = o.place == a.place

    kept_too : (q == a.place) ≡ false → (o : Event) → same o ≡ true → keep o ≡ true
    kept_too differs o s =
        let at : o.place ≡ a.place = eqb-true o.place a.place s in rw at (rw differs refl)

    dropped_too : (q == a.place) ≡ true → (o : Event) → same o ≡ true → keep o ≡ false
    dropped_too matches o s =
        let at : o.place ≡ a.place = eqb-true o.place a.place s in rw at (rw matches refl)

    by : (k f : Bool)
        → list_any same keeps ≡ k
        → (q == a.place) ≡ f
        → find test keeps ≡ cond k (Some a) None
        → find test (filter keep keeps) ≡ cond (list_any same (filter keep keeps)) (Some a) None
    by false f k e h = rw (any_none_filtered same keep keeps k) (none_filtered test keep keeps h)
    by true true k e h =
        rw (any_dropped same keep (dropped_too e) keeps)
        (only_dropped test keep keeps a apart h (rw e refl))
    by true false k e h =
        rw (any_kept same keep (kept_too e) keeps)
        (rw k (found_filtered test keep keeps a h (rw e refl)))

-- what is found with one event more
found_step : (now : ℕ) (peer : Peer) (mid : ℕ) (e : Event) (before : List Event)
    → Known before
    → AdmitsInOrder e.note e before
    → NoneAfter now (e ∷ before)
    → find (admits peer mid) (kept now (e ∷ before)) ≡ repeated now peer mid (e ∷ before)
unfolding admissions kept repeated
found_step now peer mid e before known ordered in_time = by e.note refl ordered
  where
    young : Event → Bool
    young a = is_young now a.moment

    whole : List Event
    whole = admissions before

    last : Option Event
    last = last_event (is_admission_of peer mid) before

    were : find (admits peer mid) (filter young whole) ≡ last_kept (filter young whole) last
    were = known.found now peer mid in_time.1

    all : filter (λ a. true) whole ≡ whole
    all = filter_true whole

    -- an admission of this peer and Message ID
    this : (m : Bool) (y : Bool)
        → is_admission_of peer mid e.note ≡ m
        → young e ≡ y
        → IsNewPlace e.place before
        → NoneAfter e.moment before
        → find (admits peer mid) (filter young (e ∷ whole))
        ≡ last_kept (filter young (e ∷ whole))
        (cond (is_admission_of peer mid e.note) (Some e) last)
    this true true m y new before_it = rw (m, y) (rw m (rw (eqb-refl e.place) refl))
    this true false m y new before_it =
        let old : (a : Event) → a.moment ≤ e.moment → young a ≡ false =
        λ a low.
        le-ltb now (a.moment + exchange_lifetime)
        (let past = ltb-false now (e.moment + exchange_lifetime) y in omega (
          arith,
          low,
          past,
        )) in
        let none : filter young whole ≡ [] =
        filter_none young whole
        (each_weaker (λ a. a.moment ≤ e.moment) (λ a. young a ≡ false) old whole
        (each_admission (λ a. a.moment ≤ e.moment) before before_it)) in
        rw (m, y) (rw none refl)
    this false y m g new before_it = rw m (other y g)
      where
        other : (z : Bool)
            → young e ≡ z
            → find (admits peer mid) (filter young (e ∷ whole))
            ≡ last_kept (filter young (e ∷ whole)) last
        other true g = rw g (rw m (were ∙ sym (one_kept e (filter young whole) last
            (λ a there.
            (found_holds (λ b. (b.place ≢ e.place) × (answer_noted e.place b.note ≡ None))
            (λ b. is_admission_of peer mid b.note) before a new there).0))))
        other false g = rw g were

    by : (n : Note) → e.note ≡ n → AdmitsInOrder n e before
        → find (admits peer mid) (filter young
        (admission_noted n e ++ filter (λ a. not (is_failure_of a.place n)) whole))
        ≡ last_kept (filter young
        (admission_noted n e ++ filter (λ a. not (is_failure_of a.place n)) whole))
        (cond (is_admission_of peer mid n) (Some e) last)
    by (note.Admitted p m) is ordered =
        rw all (subst (λ n.
        find (admits peer mid) (filter young (e ∷ whole))
        ≡ last_kept (filter young (e ∷ whole))
        (cond (is_admission_of peer mid n) (Some e) last)) is
        (this (is_admission_of peer mid e.note) (young e) refl refl ordered.new_place
        ordered.in_time))
    by (note.Failed q) is ordered =
        rw (filter_swapped young (λ a. not (q == a.place)) whole)
        (failed_kept (admits peer mid) q (filter young whole) last
        (apart_kept now peer mid before known.pairs in_time.1) were)
    by _ is ordered = rw all were

-- the pairs with one event more
pairs_step : (e : Event) (before : List Event)
    → Known before
    → AdmitsInOrder e.note e before
    → PairsByRecursion Follows (admissions (e ∷ before))
unfolding admissions kept
pairs_step e before known ordered = by e.note refl ordered
  where
    whole : List Event
    whole = admissions before

    first : (peer : Peer) (mid : ℕ)
        → e.note ≡ note.Admitted peer mid
        → AdmitsNew peer mid e before
        → AllByRecursion (Follows e) whole
    first peer mid is new =
        each_both (λ y. y.place ≢ e.place) Old (Follows e) joined whole
        (each_weaker (λ y. (y.place ≢ e.place) × (answer_noted e.place y.note ≡ None))
        (λ y. y.place ≢ e.place) (λ y h. h.0) whole
        (each_admission (λ y. (y.place ≢ e.place) × (answer_noted e.place y.note ≡ None)) before
        new.new_place))
        (each_filtered (λ y. admits peer mid y ≡ false) (λ y. is_young e.moment y.moment) whole
        (none_passes (admits peer mid) (kept e.moment before)
        (known.found e.moment peer mid new.in_time ∙ new.no_repeat)))
      where
        Old : Event → Type 0
        Old y = is_young e.moment y.moment ≡ true → admits peer mid y ≡ false

        joined : (y : Event) → y.place ≢ e.place → Old y → Follows e y
        joined y place old = record {
          place = place;
          apart = λ p m one two. far (is_young e.moment y.moment) refl (two ∙ (sym one ∙ is));
        }
          where
            far : (b : Bool)
                → is_young e.moment y.moment ≡ b
                → y.note ≡ note.Admitted peer mid
                → y.moment + exchange_lifetime ≤ e.moment
            far true e same =
                absurd (false≢true (sym (old e)
                ∙ (ap (is_admission_of peer mid) same ∙ admission_passes peer mid)))
            far false g same = ltb-false e.moment (y.moment + exchange_lifetime) g

    by : (n : Note)
        → e.note ≡ n
        → AdmitsInOrder n e before
        → PairsByRecursion Follows
        (admission_noted n e ++ filter (λ a. not (is_failure_of a.place n)) whole)
    by (note.Admitted p m) is ordered = rw (filter_true whole) (first p m is ordered, known.pairs)
    by (note.Failed q) is ordered = pairs_filter Follows (λ a. not (q == a.place)) whole known.pairs
    by _ is ordered = rw (filter_true whole) known.pairs

-- what is known of events in order
pub known : (events : List Event) → IsOrderly events → Known events
unfolding IsOrderly admissions kept repeated
known [] ordered = record { pairs = tt; found = λ now peer mid in_time. refl }
known (e ∷ before) ordered =
    let were = known before ordered.1 in
    record {
      pairs = pairs_step e before were ordered.0;
      found = λ now peer mid in_time. found_step now peer mid e before were ordered.0 in_time;
    }
