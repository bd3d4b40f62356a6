-- In each journal of a desk admissions are in order, and its next row comes after all events.
use Rattle.std.proofs.Common.{
  ◌≡◌,
  ◌≢◌,
  ℕ,
  ◌<◌,
  ◌≤◌,
  ◌==◌,
  max,
  Bool,
  true,
  false,
  cond,
  List,
  [],
  ◌∷◌,
  length,
  Some,
  None,
  refl,
  sym,
  subst,
  eqb-true,
  arith,
}
use Rattle.std.specs.List.{AllByRecursion}
use Rattle.std.proofs.lemmas.Bool.{and_parts, false≢true}
use Rattle.std.proofs.Math.Nat.{le-max_left, le-max_right}
use Rattle.rd_base.proofs.lemmas.Each.{each_weaker}
use Rattle.event_model.specs.declared.notes.Note.{Note}
use Rattle.event_model.specs.declared.notes.Note.TheVariants as note
use Rattle.event_model.specs.Events.{Event, has_event, noted}
use Rattle.event_model.specs.Repeats.{is_admitting, is_ending_of, answer_noted}
use Rattle.event_model.specs.AdmissionOrder.{NoneAfter, IsNewPlace, IsOrderly, is_aside}
use Rattle.event_model.proofs.NotedLaws.{event_at}
use Rattle.event_model.proofs.OrderLaws.{IsOrderly-none, IsOrderly-admitted}
use Rattle.event_model.proofs.AsideLaws.{each_noted, IsOrderly-noted}
use Rattle.journal_model.specs.declared.steps.Step.{Step}
use Rattle.journal_model.specs.declared.steps.StepKind.{StepKind}
use Rattle.journal_model.specs.declared.steps.StepKind.TheVariants as step
use Rattle.journal_model.specs.declared.rows.Row.{Row}
use Rattle.journal_model.specs.Journal.{events, latest, row_at}
use Rattle.journal_model.specs.Rows.{row_moment, row}
use Rattle.journal_model.specs.DeskJournal.{IsOpenFor, CommitsOpen, IsDeskJournal, begun, made}
use Rattle.journal_model.specs.UnfinishedRow.{IsReady}
use Rattle.journal_model.proofs.NoteKinds.{are, none_of}
use Rattle.journal_model.proofs.entries.RowLaws.{row-moment_latest}
use Rattle.journal_model.proofs.desks.TouchedExchanges.{
  Touches,
  aside,
  admits,
  ends,
  ends_at,
  row-Touches,
}

-- a note that settles or fails an admission is of an earlier place
NamesBelow : ℕ → Note → Type 0
NamesBelow n (note.Settled place reply) = place < n
NamesBelow n (note.Failed place) = place < n
NamesBelow n _ = Unit {0}

-- an event of an earlier place and no later moment, with such a note
LiesBefore : ℕ → ℕ → Event → Type 0
LiesBefore n moment e = (e.place < n) × (e.moment ≤ moment) × NamesBelow n e.note

-- it lies before later ones too
still_before : (n k moment later : ℕ)
    → n ≤ k
    → moment ≤ later
    → (e : Event)
    → LiesBefore n moment e
    → LiesBefore k later e
unfolding LiesBefore NamesBelow
still_before n k moment later less early e h =
    (let a = h.0 in omega (arith, a, less), let b = h.1 in omega (arith, b, early), by e.note h.2)
  where
    by : (x : Note) → NamesBelow n x → NamesBelow k x
    by (note.Settled place reply) g = omega (arith, g, less)
    by (note.Failed place) g = omega (arith, g, less)
    by _ g = tt

-- the place of a row that is there
pub row_at-below : (place : ℕ) (rows : List Row) (r : Row)
    → row_at place rows ≡ Some r
    → place < length rows
unfolding row_at
row_at-below place [] r e = absurd (let h : None ≡ Some r = e in cc)
row_at-below place (x ∷ before) r e =
    by (place == length before) refl e (λ h. row_at-below place before r h)
  where
    by : (b : Bool)
        → (place == length before) ≡ b
        → cond b (Some x) (row_at place before) ≡ Some r
        → (row_at place before ≡ Some r → place < length before)
        → place < length (x ∷ before)
    by true same h more = let at = eqb-true place (length before) same in omega (arith, at)
    by false other h more = let low = more h in omega (arith, low)

-- a commit that may be made is of an earlier place
commits_below : (rows : List Row) (s : Step) (place : ℕ)
    → CommitsOpen rows s s.kind
    → s.kind ≡ step.Commit place
    → place < length rows
commits_below rows s place commits kind = below (subst (CommitsOpen rows s) kind commits)
  where
    below : IsOpenFor s place rows → place < length rows
    below it = row_at-below place rows it.admission it.found

-- the notes of a row name earlier places
notes_below : (kind : StepKind) (rows : List Row) (moment : ℕ) (s : Step) (notes : List Note)
    → ((place : ℕ) → kind ≡ step.Commit place → place < length rows)
    → Touches kind rows moment s notes
    → AllByRecursion (NamesBelow (length rows)) notes
unfolding NamesBelow
notes_below kind rows moment s notes early (aside all) = by notes all
  where
    one : (n : Note) → is_aside n ≡ true → NamesBelow (length rows) n
    one (note.Settled place reply) h = absurd (false≢true h)
    one (note.Failed place) h = absurd (false≢true h)
    one _ h = tt

    by : (ns : List Note) → are is_aside ns ≡ true → AllByRecursion (NamesBelow (length rows)) ns
    by [] h = tt
    by (n ∷ ns) h =
        let both = and_parts (is_aside n) (are is_aside ns) h in (one n both.0, by ns both.1)
notes_below kind rows moment s notes early (admits m here read asks is none) =
    subst (AllByRecursion (NamesBelow (length rows))) (sym is) (tt, tt)
notes_below kind rows moment s notes early (ends place here all) = by notes all
  where
    one : (n : Note) → ends_at place n ≡ true → NamesBelow (length rows) n
    one (note.Settled p reply) h =
        subst (λ x. x < length rows) (sym (eqb-true p place h)) (early place here)
    one (note.Failed p) h =
        subst (λ x. x < length rows) (sym (eqb-true p place h)) (early place here)
    one _ h = tt

    by : (ns : List Note)
        → are (ends_at place) ns ≡ true
        → AllByRecursion (NamesBelow (length rows)) ns
    by [] h = tt
    by (n ∷ ns) h =
        let both = and_parts (ends_at place n) (are (ends_at place) ns) h in
        (one n both.0, by ns both.1)

-- admissions are in order, and all events lie before the next row
record InOrder (rows : List Row) : Type 0 where
  orderly : IsOrderly (events rows)
  before : AllByRecursion (LiesBefore (length rows) (latest rows)) (events rows)

none_after : (rows : List Row) (moment : ℕ)
    → latest rows ≤ moment
    → AllByRecursion (LiesBefore (length rows) (latest rows)) (events rows)
    → NoneAfter moment (events rows)
unfolding LiesBefore
none_after rows moment late all =
    each_weaker (LiesBefore (length rows) (latest rows)) (λ e. e.moment ≤ moment)
    (λ e h. let b = h.1 in omega (arith, b, late)) (events rows) all

new_place : (rows : List Row)
    → AllByRecursion (LiesBefore (length rows) (latest rows)) (events rows)
    → IsNewPlace (length rows) (events rows)
unfolding LiesBefore NamesBelow
new_place rows all =
    each_weaker (LiesBefore (length rows) (latest rows))
    (λ e. (e.place ≢ length rows) × (answer_noted (length rows) e.note ≡ None)) one
    (events rows) all
  where
    silent : (place : ℕ) (reply : List ℕ) (b : Bool)
        → (place == length rows) ≡ b
        → place < length rows
        → answer_noted (length rows) (note.Settled place reply) ≡ None
    silent place reply true e h =
        absurd (let same = eqb-true place (length rows) e in omega (arith, same, h))
    silent place reply false e h = rw e refl

    by : (n : Note) → NamesBelow (length rows) n → answer_noted (length rows) n ≡ None
    by (note.Settled place reply) h = silent place reply (place == length rows) refl h
    by _ h = refl

    one : (e : Event)
        → LiesBefore (length rows) (latest rows) e
        → (e.place ≢ length rows) × (answer_noted (length rows) e.note ≡ None)
    one e h = (λ same. let a = h.0 in absurd (omega (arith, same, a)), by e.note h.2)

-- with the row of one step more
one_more : (rows : List Row) (s : Step) (r : Row)
    → latest rows ≤ r.moment.0
    → ((place : ℕ) → s.kind ≡ step.Commit place → place < length rows)
    → Touches s.kind rows r.moment.0 s r.notes
    → InOrder rows
    → InOrder (r ∷ rows)
unfolding events latest LiesBefore NamesBelow
one_more rows s r late early touches order = record {
  orderly = by touches;
  before =
      each_noted (LiesBefore (length (r ∷ rows)) (max r.moment.0 (latest rows))) (length rows)
      r.moment.0 r.step.word r.notes (events rows)
      (each_weaker (NamesBelow (length rows)) (λ n.
      LiesBefore (length (r ∷ rows)) (max r.moment.0 (latest rows))
      (event_at (length rows) r.moment.0 r.step.word n)) here r.notes
      (notes_below s.kind rows r.moment.0 s r.notes early touches))
      (each_weaker (LiesBefore (length rows) (latest rows))
      (LiesBefore (length (r ∷ rows)) (max r.moment.0 (latest rows)))
      (still_before (length rows) (length (r ∷ rows)) (latest rows) (max r.moment.0 (latest rows))
      (omega arith) (omega arith)) (events rows) order.before);
}
  where
    more : (n : Note) → NamesBelow (length rows) n → NamesBelow (length (r ∷ rows)) n
    more (note.Settled place reply) h = omega (arith, h)
    more (note.Failed place) h = omega (arith, h)
    more _ h = tt

    here : (n : Note)
        → NamesBelow (length rows) n
        → LiesBefore (length (r ∷ rows)) (max r.moment.0 (latest rows))
        (event_at (length rows) r.moment.0 r.step.word n)
    here n h = (
      let a : length rows < length (r ∷ rows) = omega arith in a,
      le-max_left r.moment.0
          (latest rows),
      more n h,
    )

    never_aside : (n : Note) → is_aside n ≡ true → is_admitting n ≡ false
    never_aside (note.Admitted peer mid) h = absurd (false≢true h)
    never_aside _ h = refl

    never_ends : (place : ℕ) (n : Note) → ends_at place n ≡ true → is_admitting n ≡ false
    never_ends place (note.Admitted peer mid) h = absurd (false≢true h)
    never_ends place _ h = refl

    by : Touches s.kind rows r.moment.0 s r.notes
        → IsOrderly (noted (length rows) r.moment.0 r.step.word r.notes (events rows))
    by (aside all) =
        IsOrderly-noted (length rows) r.moment.0 r.step.word r.notes (events rows)
        (none_of is_aside is_admitting never_aside r.notes all) order.orderly
    by (admits m kind read asks is none) =
        subst (λ (ns : List Note).
        IsOrderly (noted (length rows) r.moment.0 r.step.word ns (events rows))) (sym is)
        (IsOrderly-admitted s.peer m.mid
        (event_at (length rows) r.moment.0 r.step.word (note.Admitted s.peer m.mid))
        (events rows) refl
        (record {
          no_repeat = none;
          new_place = new_place rows order.before;
          in_time = none_after rows
              r.moment.0 late order.before;
        }) order.orderly)
    by (ends place kind all) =
        IsOrderly-noted (length rows) r.moment.0 r.step.word r.notes (events rows)
        (none_of (ends_at place) is_admitting (never_ends place) r.notes all) order.orderly

-- so it is in each journal of a desk
journal-InOrder : (rows : List Row) → IsDeskJournal rows → InOrder rows
unfolding events
journal-InOrder [] begun = record { orderly = IsOrderly-none; before = tt }
journal-InOrder (r ∷ before) (made {rows} s starved journal may) =
    one_more before s (row before s starved) (row-moment_latest before s starved)
    (λ place kind. commits_below before s place may.commits kind) (row-Touches before s starved)
    (journal-InOrder before journal)

-- after each journal of a desk a step may be made
pub journal-IsReady : (rows : List Row) (s : Step) → IsDeskJournal rows → IsReady rows s
unfolding row_moment
journal-IsReady rows s journal =
    let order = journal-InOrder rows journal in
    record {
      orderly = order.orderly;
      in_time =
          none_after rows (row_moment rows s) (le-max_right s.handed.0 (latest rows)) order.before;
      new_place = new_place rows order.before;
    }

-- its admissions are in order
pub journal-IsOrderly : (rows : List Row) → IsDeskJournal rows → IsOrderly (events rows)
journal-IsOrderly rows journal = (journal-InOrder rows journal).orderly

-- and nothing ends the admission of the place of its next row
pub journal-not_ended : (rows : List Row)
    → IsDeskJournal rows
    → has_event (is_ending_of (length rows)) (events rows) ≡ false
unfolding LiesBefore NamesBelow
journal-not_ended rows journal = by (events rows) (journal-InOrder rows journal).before
  where
    unlike : (place : ℕ) (b : Bool)
        → (place == length rows) ≡ b
        → place < length rows
        → (place == length rows) ≡ false
    unlike place true e h =
        absurd (let same = eqb-true place (length rows) e in omega (arith, same, h))
    unlike place false e h = e

    one : (n : Note) → NamesBelow (length rows) n → is_ending_of (length rows) n ≡ false
    one (note.Settled place reply) h = unlike place (place == length rows) refl h
    one (note.Failed place) h = unlike place (place == length rows) refl h
    one _ h = refl

    by : (es : List Event)
        → AllByRecursion (LiesBefore (length rows) (latest rows)) es
        → has_event (is_ending_of (length rows)) es ≡ false
    by [] h = refl
    by (e ∷ es) h = rw (one e.note h.0.2) (by es h.1)
