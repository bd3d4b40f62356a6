-- Rows that admit writes, and which of them a request duplicates.
use Rattle.std.proofs.Common.{
  ◌≡◌,
  ◌⊎◌,
  inl,
  inr,
  ℕ,
  ◌+◌,
  ◌<◌,
  ◌==◌,
  ◌&&◌,
  ◌||◌,
  Bool,
  true,
  false,
  not,
  cond,
  List,
  [],
  ◌∷◌,
  ◌++◌,
  length,
  filter,
  Option,
  Some,
  None,
  Ok,
  option_and_then,
  refl,
  sym,
  ap,
  subst,
  ◌∙◌,
  eqb-true,
  ltb-true,
  arith,
}
use Rattle.std.specs.List.{list_any}
use Rattle.std.proofs.lemmas.Bool.{and_parts, and_from, false≢true, or_cases, or_left, or_right}
use Rattle.std.proofs.lemmas.List.Folds.{list_any-append}
use Rattle.rd_base.specs.declared.peers.Peer.{Peer}
use Rattle.rd_base.proofs.lemmas.Among.{any_among}
use Rattle.message_model.specs.Message.{Message}
use Rattle.message_model.specs.Reading.{reading}
use Rattle.event_model.specs.declared.notes.Note.{Note}
use Rattle.event_model.specs.declared.notes.Note.TheVariants as note
use Rattle.event_model.specs.Same.{is_same_peer}
use Rattle.event_model.specs.Events.{Event, noted, last_event, is_young, exchange_lifetime}
use Rattle.event_model.specs.Repeats.{
  is_admission_of,
  is_failure_of,
  admission_noted,
  admissions,
  kept,
  is_kept,
  repeated,
}
use Rattle.event_model.specs.AdmissionOrder.{is_aside}
use Rattle.event_model.proofs.SameLaws.{is_same_peer-Decides}
use Rattle.event_model.proofs.NotedLaws.{event_at}
use Rattle.journal_model.specs.declared.rows.Row.{Row}
use Rattle.journal_model.specs.declared.steps.Step.{Step}
use Rattle.journal_model.specs.declared.steps.StepKind.TheVariants as step
use Rattle.journal_model.specs.Journal.{events}
use Rattle.journal_model.specs.Rows.{row}
use Rattle.journal_model.specs.PlacedRows.{Within, admits}
use Rattle.journal_model.proofs.EventRows.{RowOf, row_of, within_more}
use Rattle.journal_model.proofs.NoteKinds.{none_of}
use Rattle.journal_model.proofs.desks.TouchedExchanges.{Touches, aside, ends, ends_at, row-Touches}
use Rattle.journal_model.proofs.desks.TouchedExchanges as touched

-- ---- rows within a journal

-- A row within a journal is its newest, or within the rows before that.
pub within_cases : (x : Row) (rest before : List Row) (r : Row)
    → Within (x ∷ rest) before r
    → ((x ≡ r) × (rest ≡ before)) ⊎ Within rest before r
within_cases x rest before r within = by within.later within.whole
  where
    by : (later : List Row)
        → x ∷ rest ≡ later ++ r ∷ before
        → ((x ≡ r) × (rest ≡ before)) ⊎ Within rest before r
    by [] whole = let first : x ≡ r = cc in let others : rest ≡ before = cc in inl (first, others)
    by (y ∷ later) whole =
        let others : rest ≡ later ++ r ∷ before = cc in
        inr (record { later = later; whole = others })

pub nothing_within : (before : List Row) (r : Row) → Within [] before r → ⊥
nothing_within before r within = by within.later within.whole
  where
    by : (later : List Row) → [] ≡ later ++ r ∷ before → ⊥
    by [] whole = absurd cc
    by (y ∷ later) whole = absurd cc

-- There are fewer rows before it.
pub within_fewer : (rows before : List Row) (r : Row) → Within rows before r
    → length before < length rows
within_fewer [] before r within = absurd (nothing_within before r within)
within_fewer (x ∷ rest) before r within =
    by (within_cases x rest before r within) (λ further. within_fewer rest before r further)
  where
    by : ((x ≡ r) × (rest ≡ before)) ⊎ Within rest before r
        → (Within rest before r → length before < length rest)
        → length before < length (x ∷ rest)
    by (inl same) more = let as_many = ap length same.1 in omega (arith, as_many)
    by (inr further) more = let few = more further in omega (arith, few)

-- Two rows with as many rows before them are one.
one_place : (rows before others : List Row) (r x : Row)
    → Within rows before r
    → Within rows others x
    → length before ≡ length others
    → r ≡ x
one_place [] before others r x within further same = absurd (nothing_within before r within)
one_place (y ∷ rest) before others r x within further same =
    by (within_cases y rest before r within) (within_cases y rest others x further)
    (λ a b. one_place rest before others r x a b same)
  where
    by : ((y ≡ r) × (rest ≡ before)) ⊎ Within rest before r
        → ((y ≡ x) × (rest ≡ others)) ⊎ Within rest others x
        → (Within rest before r → Within rest others x → r ≡ x)
        → r ≡ x
    by (inl a) (inl b) more = sym a.0 ∙ b.0
    by (inl a) (inr b) more =
        let few = within_fewer rest others x b in
        let as_many = ap length a.1 in
        absurd (omega (arith, few, as_many, same))
    by (inr a) (inl b) more =
        let few = within_fewer rest before r a in
        let as_many = ap length b.1 in
        absurd (omega (arith, few, as_many, same))
    by (inr a) (inr b) more = more a b

-- ---- what a row admits

-- A row that admits a write has a step of that kind, for a request of that peer and Message ID.
pub record Admission (r : Row) (peer : Peer) (mid : ℕ) : Type 0 where
  pub kind : r.step.kind ≡ step.Admit
  pub message : Message
  pub read : reading r.step.datagram ≡ Ok message
  pub number : message.mid ≡ mid
  pub of_peer : r.step.peer ≡ peer

pub row_admission : (rows : List Row) (s : Step) (starved : Bool) (peer : Peer) (mid : ℕ)
    → admits peer mid (row rows s starved) ≡ true
    → Admission (row rows s starved) peer mid
unfolding row
row_admission rows s starved peer mid it = by (row-Touches rows s starved)
  where
    never_aside : (n : Note) → is_aside n ≡ true → is_admission_of peer mid n ≡ false
    never_aside (note.Admitted p m) h = absurd (false≢true h)
    never_aside _ h = refl

    never_ends : (place : ℕ) (n : Note) → ends_at place n ≡ true
        → is_admission_of peer mid n ≡ false
    never_ends place (note.Admitted p m) h = absurd (false≢true h)
    never_ends place _ h = refl

    one : (b : Bool) → (b || false) ≡ true → b ≡ true
    one true h = refl
    one false h = h

    by : Touches s.kind rows (row rows s starved).moment.0 s (row rows s starved).notes
        → Admission (row rows s starved) peer mid
    by (aside all) =
        absurd (false≢true (sym (none_of is_aside (is_admission_of peer mid) never_aside
        (row rows s starved).notes all) ∙ it))
    by (touched.admits m here read asks is none) =
        let both =
        and_parts (is_same_peer s.peer peer) (m.mid == mid)
        (one (is_same_peer s.peer peer && m.mid == mid)
        (sym (ap (list_any (is_admission_of peer mid)) is) ∙ it)) in
        record {
          kind = here;
          message = m;
          read = read;
          number = eqb-true m.mid mid both.1;
          of_peer = (is_same_peer-Decides s.peer peer).0 both.0;
        }
    by (ends place here all) =
        absurd (false≢true (sym (none_of (ends_at place) (is_admission_of peer mid)
        (never_ends place) (row rows s starved).notes all) ∙ it))

-- ---- which admission a request duplicates

-- What passes a test among what a filter keeps passes both.
any_filtered : (test keep : Event → Bool) (xs : List Event)
    → list_any test (filter keep xs) ≡ true
    → list_any (λ e. test e && keep e) xs ≡ true
any_filtered test keep [] h = absurd (false≢true h)
any_filtered test keep (x ∷ xs) h = by (keep x) refl h (any_filtered test keep xs)
  where
    both : Bool
    both = test x && keep x

    by : (k : Bool)
        → keep x ≡ k
        → list_any test (cond k (x ∷ filter keep xs) (filter keep xs)) ≡ true
        → (list_any test (filter keep xs) ≡ true → list_any (λ e. test e && keep e) xs ≡ true)
        → (both || list_any (λ e. test e && keep e) xs) ≡ true
    by false out g more = or_right both (list_any (λ e. test e && keep e) xs) (more g)
    by true stays g more = first (test x) refl g
      where
        first : (t : Bool) → test x ≡ t → (t || list_any test (filter keep xs)) ≡ true
            → (both || list_any (λ e. test e && keep e) xs) ≡ true
        first true good f =
            or_left both (list_any (λ e. test e && keep e) xs)
            (and_from (test x) (keep x) good stays)
        first false bad f = or_right both (list_any (λ e. test e && keep e) xs) (more f)

-- What passes a test after a filter passes it before.
any_before : (test keep : Event → Bool) (xs : List Event)
    → list_any test (filter keep xs) ≡ true
    → list_any test xs ≡ true
any_before test keep [] h = h
any_before test keep (x ∷ xs) h = by (keep x) h (any_before test keep xs)
  where
    by : (k : Bool)
        → list_any test (cond k (x ∷ filter keep xs) (filter keep xs)) ≡ true
        → (list_any test (filter keep xs) ≡ true → list_any test xs ≡ true)
        → (test x || list_any test xs) ≡ true
    by false g more = or_right (test x) (list_any test xs) (more g)
    by true g more = first (test x) g
      where
        first : (t : Bool) → (t || list_any test (filter keep xs)) ≡ true
            → (t || list_any test xs) ≡ true
        first true f = refl
        first false f = more f

-- What passes a test among the admissions passes it among all events.
any_admission : (test : Event → Bool) (es : List Event)
    → list_any test (admissions es) ≡ true
    → list_any test es ≡ true
unfolding admissions
any_admission test [] h = h
any_admission test (e ∷ before) h =
    by (or_cases (list_any test (admission_noted e.note e))
    (list_any test (filter later (admissions before)))
    (sym (list_any-append test (admission_noted e.note e) (filter later (admissions before)))
    ∙ h)) (any_admission test before)
  where
    later : Event → Bool
    later a = not (is_failure_of a.place e.note)

    one : (n : Note) → list_any test (admission_noted n e) ≡ true → test e ≡ true
    one (note.Admitted p m) g = only (test e) g
      where
        only : (t : Bool) → (t || false) ≡ true → t ≡ true
        only true f = refl
        only false f = f
    one _ g = absurd (false≢true g)

    by : (list_any test (admission_noted e.note e) ≡ true)
        ⊎ (list_any test (filter later (admissions before)) ≡ true)
        → (list_any test (admissions before) ≡ true → list_any test before ≡ true)
        → (test e || list_any test before) ≡ true
    by (inl g) more = or_left (test e) (list_any test before) (one e.note g)
    by (inr g) more =
        or_right (test e) (list_any test before)
        (more (any_before test later (admissions before) g))

-- A test of the place and the moment of an event.
is_near : ℕ → ℕ → Event → Bool
is_near place now e = e.place == place && is_young now e.moment

-- What a row notes passes it by the place and the moment of the row.
any_noted : (place now at moment word : ℕ) (notes : List Note) (before : List Event)
    → list_any (is_near place now) (noted at moment word notes before) ≡ true
    → (((at == place && is_young now moment) ≡ true)
    ⊎ (list_any (is_near place now) before ≡ true))
unfolding is_near
any_noted place now at moment word [] before h = inr h
any_noted place now at moment word (n ∷ notes) before h =
    by (any_noted place now at moment word notes (event_at at moment word n ∷ before) h)
  where
    by : ((at == place && is_young now moment) ≡ true)
        ⊎ (list_any (is_near place now) (event_at at moment word n ∷ before) ≡ true)
        → ((at == place && is_young now moment) ≡ true)
        ⊎ (list_any (is_near place now) before ≡ true)
    by (inl g) = inl g
    by (inr g) = or_cases (at == place && is_young now moment)
        (list_any (is_near place now) before) g

-- A row at a place whose moment is less than 247 seconds before another.
record IsNear (rows : List Row) (place now : ℕ) : Type 0 where
  before : List Row
  row : Row
  within : Within rows before row
  place_is : length before ≡ place
  young : now < row.moment.0 + exchange_lifetime

near_row : (rows : List Row) (place now : ℕ)
    → list_any (is_near place now) (events rows) ≡ true
    → IsNear rows place now
unfolding events is_near
near_row [] place now h = absurd (false≢true h)
near_row (r ∷ before) place now h =
    by (any_noted place now (length before) r.moment.0 r.step.word r.notes (events before) h)
    (near_row before place now)
  where
    by : ((length before == place && is_young now r.moment.0) ≡ true)
        ⊎ (list_any (is_near place now) (events before) ≡ true)
        → (list_any (is_near place now) (events before) ≡ true → IsNear before place now)
        → IsNear (r ∷ before) place now
    by (inl g) more =
        let both = and_parts (length before == place) (is_young now r.moment.0) g in
        record {
          before = before;
          row = r;
          within = record { later = []; whole = refl };
          place_is = eqb-true (length before) place both.0;
          young = ltb-true now (r.moment.0 + exchange_lifetime) both.1;
        }
    by (inr g) more =
        let old : IsNear before place now = more g in
        record {
          before = old.before;
          row = old.row;
          within = within_more r before old.before old.row old.within;
          place_is = old.place_is;
          young = old.young;
        }

-- A row that admitted a write of a peer and a Message ID, less than 247 seconds before a moment.
pub record AdmittedNear (now : ℕ) (peer : Peer) (mid : ℕ) (rows : List Row) : Type 0 where
  pub before : List Row
  pub row : Row
  pub within : Within rows before row
  pub admitted : admits peer mid row ≡ true
  pub young : now < row.moment.0 + exchange_lifetime

-- What a request duplicates is such a row.
pub duplicates : (now : ℕ) (peer : Peer) (mid : ℕ) (rows : List Row) (first : Event)
    → repeated now peer mid (events rows) ≡ Some first
    → AdmittedNear now peer mid rows
unfolding repeated kept is_near
duplicates now peer mid rows first e =
    by (last_event (is_admission_of peer mid) (events rows)) refl e
  where
    found : (a : Event)
        → last_event (is_admission_of peer mid) (events rows) ≡ Some a
        → is_kept now (events rows) a ≡ true
        → AdmittedNear now peer mid rows
    found a last stored =
        let of : RowOf (is_admission_of peer mid) rows a =
        row_of (is_admission_of peer mid) rows a last in
        let near : IsNear rows a.place now =
        near_row rows a.place now
        (any_admission (is_near a.place now) (events rows)
        (any_filtered (λ other. other.place == a.place) (λ o. is_young now o.moment)
        (admissions (events rows)) stored)) in
        let same : near.row ≡ of.placed.row =
        one_place rows near.before of.placed.before near.row of.placed.row near.within of.within
        (near.place_is ∙ of.place) in
        record {
          before = of.placed.before;
          row = of.placed.row;
          within = of.within;
          admitted = any_among (is_admission_of peer mid) a.note of.placed.row.notes of.note
              of.kind;
          young = subst (λ (x : Row). now < x.moment.0 + exchange_lifetime) same near.young;
        }

    one : (b : Bool) (a : Event)
        → last_event (is_admission_of peer mid) (events rows) ≡ Some a
        → is_kept now (events rows) a ≡ b
        → cond b (Some a) None ≡ Some first
        → AdmittedNear now peer mid rows
    one true a h stored g = found a h stored
    one false a h stored g = absurd (let no : None ≡ Some first = g in cc)

    by : (o : Option Event)
        → last_event (is_admission_of peer mid) (events rows) ≡ o
        → option_and_then (λ a. cond (is_kept now (events rows) a) (Some a) None) o ≡ Some first
        → AdmittedNear now peer mid rows
    by None h g = absurd (let no : None ≡ Some first = g in cc)
    by (Some a) h g = one (is_kept now (events rows) a) a h refl g
