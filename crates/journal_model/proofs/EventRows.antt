-- The row that an event stands in: the last one with a note of its kind; and what holds of all rows
-- of a journal.
use Rattle.std.proofs.Common.{
  ◌≡◌,
  inl,
  inr,
  ℕ,
  ◌<◌,
  ◌||◌,
  Bool,
  true,
  false,
  List,
  [],
  ◌∷◌,
  ◌++◌,
  length,
  Option,
  Some,
  None,
  refl,
  sym,
  ap,
  subst,
  ◌∙◌,
  arith,
}
use Rattle.std.specs.Prelude.{⊤, is_some}
use Rattle.std.specs.List.{list_any}
use Rattle.std.proofs.lemmas.Bool.{false≢true, ne_eqb}
use Rattle.event_model.specs.declared.notes.Note.{Note}
use Rattle.event_model.specs.Events.{Event, noted, last_event, or_else, last_said}
use Rattle.event_model.proofs.NotedLaws.{event_at, last_event-before}
use Rattle.journal_model.specs.declared.rows.Row.{Row}
use Rattle.journal_model.specs.Journal.{events, row_at}
use Rattle.journal_model.specs.PlacedRows.{Within, Placed, last_row}
use Rattle.rd_base.proofs.lemmas.Numbers.{eqb-refl}
use Rattle.rd_base.proofs.lemmas.Among.{Among}

-- ---- notes of a row

-- the first, where the second does not hold
one_of : (b c : Bool) → (b || c) ≡ true → c ≡ false → b ≡ true
one_of true c h g = refl
one_of false c h g = absurd (false≢true (sym g ∙ h))

-- where a row notes something of a kind, the last event of the kind is one of its notes
pub found_in : (test : Note → Bool) (place moment word : ℕ) (notes : List Note)
    (before : List Event) (e : Event)
    → list_any test notes ≡ true
    → last_event test (noted place moment word notes before) ≡ Some e
    → Among e.note notes × (e.place ≡ place) × (test e.note ≡ true)
found_in test place moment word [] before e some found = absurd (false≢true some)
found_in test place moment word (n ∷ notes) before e some found =
    by (list_any test notes) refl (λ h.
    found_in test place moment word notes (event_at place moment word n ∷ before) e h found)
  where
    is_it : test n ≡ true
        → event_at place moment word n ≡ e
        → Among e.note (n ∷ notes) × (e.place ≡ place) × (test e.note ≡ true)
    is_it good same =
        subst (λ (x : Event). Among x.note (n ∷ notes) × (x.place ≡ place) × (test x.note ≡ true))
        same (inl refl, refl, good)

    by : (b : Bool)
        → list_any test notes ≡ b
        → (list_any test notes ≡ true
        → Among e.note notes × (e.place ≡ place) × (test e.note ≡ true))
        → Among e.note (n ∷ notes) × (e.place ≡ place) × (test e.note ≡ true)
    by true more later = let h = later more in (inr h.0, h.1, h.2)
    by false none later =
        let good : test n ≡ true = one_of (test n) (list_any test notes) some none in
        let here : Some (event_at place moment word n) ≡ Some e =
        sym (rw good refl)
        ∙ sym (last_event-before test place moment word notes
        (event_at place moment word n ∷ before) none)
        ∙ found in
        is_it good (let same : event_at place moment word n ≡ e = cc in same)

-- ---- rows of a journal

-- what holds of each row with the rows before it
abbrev pub AllRows : (List Row → Row → Type 0) → List Row → Type 0
AllRows P [] = ⊤
AllRows P (r ∷ before) = P before r × AllRows P before

-- the row of the last event of a kind
pub record RowOf (test : Note → Bool) (rows : List Row) (e : Event) : Type 0 where
  pub placed : Placed
  pub within : Within rows placed.before placed.row
  pub place : e.place ≡ length placed.before
  pub below : e.place < length rows
  pub at_place : row_at e.place rows ≡ Some placed.row
  pub note : Among e.note placed.row.notes
  pub kind : test e.note ≡ true
  pub last : last_row (λ r. list_any test r.notes) rows ≡ Some placed

-- so it is of each last event of a kind
pub row_of : (test : Note → Bool) (rows : List Row) (e : Event)
    → last_event test (events rows) ≡ Some e
    → RowOf test rows e
unfolding events row_at last_row
row_of test [] e found = absurd (let no : None ≡ Some e = found in cc)
row_of test (r ∷ before) e found = by (list_any test r.notes) refl (λ h. row_of test before e h)
  where
    after : list_any test r.notes ≡ false → RowOf test before e → RowOf test (r ∷ before) e
    after none it = record {
      placed = it.placed;
      within = record {
        later = r ∷ it.within.later;
        whole = ap (λ (rows : List Row). r ∷ rows) it.within.whole;
      };
      place = it.place;
      below = omega (arith, it.below);
      at_place =
          rw (ne_eqb e.place (length before) (λ same. absurd (omega (arith, same, it.below))))
          it.at_place;
      note = it.note;
      kind = it.kind;
      last = rw none it.last;
    }

    by : (b : Bool)
        → list_any test r.notes ≡ b
        → (last_event test (events before) ≡ Some e → RowOf test before e)
        → RowOf test (r ∷ before) e
    by true some more =
        let it =
        found_in test (length before) r.moment.0 r.step.word r.notes (events before) e some
        found in
        record {
          placed = record { row = r; before = before };
          within = record { later = []; whole = refl };
          place = it.1;
          below = omega (arith, it.1);
          at_place = rw it.1 (rw (eqb-refl (length before)) refl);
          note = it.0;
          kind = it.2;
          last = rw some refl;
        }
    by false none more =
        after none (more (sym (last_event-before test (length before) r.moment.0 r.step.word r.notes
        (events before) none)
        ∙ found))

-- what holds of all rows holds of one
pub row_within : (P : List Row → Row → Type 0) (rows before : List Row) (r : Row)
    → AllRows P rows
    → Within rows before r
    → P before r
row_within P rows before r all within = after within.later (subst (AllRows P) within.whole all)
  where
    after : (later : List Row) → AllRows P (later ++ r ∷ before) → P before r
    after [] h = h.0
    after (x ∷ later) h = after later h.1

-- a row within rows is within more of them
pub within_more : (x : Row) (rest before : List Row) (r : Row)
    → Within rest before r
    → Within (x ∷ rest) before r
within_more x rest before r within = record {
  later = x ∷ within.later;
  whole = ap (λ rows. x ∷ rows) within.whole;
}

-- what the last note says is said by the last event that says something
pub said_by : {A : Type 0} (says : Note → Option A) (past : List Event) (x : A)
    → last_said says past ≡ Some x
    → (e : Event) × (last_event (λ n. is_some (says n)) past ≡ Some e) × (says e.note ≡ Some x)
unfolding last_said
said_by says [] x said = absurd cc
said_by {A} says (e ∷ before) x said = by (says e.note) refl said (λ h. said_by says before x h)
  where
    Found : List Event → Type 0
    Found past =
        (f : Event) × (last_event (λ n. is_some (says n)) past ≡ Some f) × (says f.note ≡ Some x)

    by : (o : Option A)
        → says e.note ≡ o
        → or_else o (last_said says before) ≡ Some x
        → (last_said says before ≡ Some x → Found before)
        → Found (e ∷ before)
    by (Some y) it h more = (e, rw it refl, it ∙ h)
    by None it h more = let f = more h in (f.0, rw it f.1, f.2)
