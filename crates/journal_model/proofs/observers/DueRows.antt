-- Who is due after a row, by the marks of a desk: where a record lapses meanwhile that gives lines
-- to a query, and where the record that an entry is about gives other lines after it than before.
-- Together these marks are exactly the change of the row's transition. End theorems, for what keeps
-- the observers of a journal: nothing else here cites them.
use Rattle.std.proofs.Common.{
  ◌≡◌,
  ℕ,
  ◌≤◌,
  Bool,
  true,
  false,
  not,
  ◌||◌,
  cond,
  List,
  [],
  ◌∷◌,
  ◌++◌,
  length,
  None,
  refl,
  sym,
  ap,
  subst,
  ◌∙◌,
  append-nil,
  arith,
}
use Rattle.std.specs.List.{list_any, AllByRecursion, IsAmong}
use Rattle.std.proofs.lemmas.List.Folds.{list_any-append}
use Rattle.rd_base.specs.declared.queries.Query.{Query}
use Rattle.rd_base.proofs.lemmas.Among.{all_at_index}
use Rattle.history_model.specs.declared.entries.Entry.{Entry}
use Rattle.history_model.specs.ChangedParts.{is_other_part, is_lapse_of}
use Rattle.history_model.specs.Replay.{replay, numbered, number_about}
use Rattle.history_model.specs.Live.{live}
use Rattle.history_model.specs.Refusals.{change_refusal}
use Rattle.event_model.specs.declared.notes.Observer.{Observer}
use Rattle.event_model.specs.Observers.{name_of, observers}
use Rattle.event_model.specs.Due.{Transition, is_looking_for, is_due}
use Rattle.event_model.proofs.TransitionLaws.{transition}
use Rattle.event_model.proofs.DueLaws.{
  IsLookedAt,
  due_later,
  due_entered,
  due_joined,
  due_quiet,
  due_looked,
}
use Rattle.journal_model.specs.declared.steps.Step.{Step}
use Rattle.journal_model.specs.declared.rows.Row.{Row}
use Rattle.journal_model.specs.Journal.{
  is_look,
  is_desk_row,
  transition_of,
  events,
  entries,
  entries_of,
  now,
  latest,
  transitions,
}
use Rattle.journal_model.specs.Effects.{Effects, nothing, joined}
use Rattle.journal_model.specs.Rows.{row_with, row_moment, AreRows}
use Rattle.journal_model.specs.UnfinishedRow.{making}
use Rattle.journal_model.proofs.EntriesNoted.{entries_in, NotesNext, none, one, entries_in-append}
use Rattle.journal_model.proofs.RowEquations.{events-row, transitions-row}
use Rattle.journal_model.proofs.UnfinishedRowLaws.{now_latest, events-making_joined}
use Rattle.journal_model.proofs.entries.RowLaws.{row-NotesNext, row-moment_latest}
use Rattle.journal_model.proofs.entries.JournalLaws.{RowMade, newest_made}
use Rattle.journal_model.proofs.observers.ObserverKnowledge.{KnownIn}
use Rattle.journal_model.proofs.observers.ObserversKnow.{rows-AllKnown}

-- an observer that stands in a journal was looked at before the next row
pub looked_before : (rows : List Row) (o : Observer)
    → KnownIn rows o
    → IsLookedAt o (events rows) (length rows)
looked_before rows o known = record { event = known.event; last = known.last; before = known.place }

-- the places of transitions are those of rows
pub transitions_below : (rows : List Row)
    → AllByRecursion (λ t. t.place ≤ length rows) (transitions rows)
unfolding transitions
transitions_below [] = tt
transitions_below (r ∷ rows) = by (is_desk_row r) (transitions_below rows)
  where
    longer : (ts : List Transition)
        → AllByRecursion (λ t. t.place ≤ length rows) ts
        → AllByRecursion (λ t. t.place ≤ length (r ∷ rows)) ts
    longer [] h = tt
    longer (t ∷ ts) h = (let low = h.0 in omega (arith, low), longer ts h.1)

    by : (b : Bool) → AllByRecursion (λ t. t.place ≤ length rows) (transitions rows)
        → AllByRecursion (λ t. t.place ≤ length (r ∷ rows))
        (cond b (transition_of r rows ∷ transitions rows) (transitions rows))
    by true low = (omega arith, longer (transitions rows) low)
    by false low = longer (transitions rows) low

-- after a desk row that does not look at an observer
after_quiet : (rows : List Row) (r : Row) (o : Observer)
    → is_desk_row r ≡ true
    → list_any (is_looking_for (name_of o)) r.notes ≡ false
    → is_due o (events (r ∷ rows)) (transitions (r ∷ rows))
    ≡ is_due o (events rows) (transition_of r rows ∷ transitions rows)
after_quiet rows r o desk quiet =
    ap (λ seen. is_due o (events (r ∷ rows)) seen) (transitions-row rows r
    ∙ ap (λ b. cond b (transition_of r rows ∷ transitions rows) (transitions rows)) desk)
    ∙ (ap (λ past. is_due o past (transition_of r rows ∷ transitions rows)) (events-row rows r)
    ∙ due_quiet o (events rows) (transition_of r rows ∷ transitions rows) (length rows) r.moment.0
    r.step.word r.notes quiet)

-- A desk row without an entry, that does not look at an observer, makes it due exactly where a
-- record that lapses meanwhile gives a line to its query.
pub row_passes : (rows : List Row) (r : Row) (o : Observer)
    → KnownIn rows o
    → is_desk_row r ≡ true
    → list_any (is_looking_for (name_of o)) r.notes ≡ false
    → now rows ≤ r.moment.0
    → entries_of r ≡ []
    → is_due o (events (r ∷ rows)) (transitions (r ∷ rows))
    ≡ (is_lapse_of o.query (now rows) r.moment.0 (replay (entries rows)).records
    || is_due o (events rows) (transitions rows))
row_passes rows r o known desk quiet order no_entry =
    after_quiet rows r o desk quiet
    ∙ (ap (λ after.
    is_due o (events rows)
    (transition (length rows) (entries rows) (now rows) after r.moment.0
    ∷ transitions rows))
    (ap (λ more. entries rows ++ more) no_entry ∙ append-nil (entries rows))
    ∙ due_later o (events rows) (transitions rows) (length rows) (entries rows) (now rows)
    r.moment.0 (looked_before rows o known) order)

-- A desk row with an entry makes it due exactly where such a record does, or the record that the
-- entry is about gives other lines after it.
pub row_enters : (rows : List Row) (r : Row) (o : Observer) (entry : Entry) (first : ℕ)
    → KnownIn rows o
    → is_desk_row r ≡ true
    → list_any (is_looking_for (name_of o)) r.notes ≡ false
    → now rows ≤ r.moment.0
    → entries_of r ≡ entry ∷ []
    → r.moment.0 ≡ entry.moment.0
    → change_refusal first (entries rows) entry ≡ None
    → is_due o (events (r ∷ rows)) (transitions (r ∷ rows))
    ≡ (is_other_part o.query
    (numbered (number_about (replay (entries rows)) entry.moment.0 entry.change)
    (live (entries rows) entry.moment.0))
    (numbered (number_about (replay (entries rows)) entry.moment.0 entry.change)
    (live (entries rows ++ entry ∷ []) entry.moment.0))
    || (is_lapse_of o.query (now rows) entry.moment.0 (replay (entries rows)).records
    || is_due o (events rows) (transitions rows)))
row_enters rows r o entry first known desk quiet order single at accepts =
    let looked = looked_before rows o known in
    let early : now rows ≤ entry.moment.0 = omega (arith, order, at) in
    let passing =
    transition (length rows) (entries rows) (now rows) (entries rows) entry.moment.0 in
    after_quiet rows r o desk quiet
    ∙ (ap (λ after.
    is_due o (events rows)
    (transition (length rows) (entries rows) (now rows) (entries rows ++ after)
    r.moment.0
    ∷ transitions rows)) single
    ∙ (ap (λ moment.
    is_due o (events rows)
    (transition (length rows) (entries rows) (now rows) (entries rows ++ entry ∷ [])
    moment
    ∷ transitions rows)) at
    ∙ (sym (due_joined o (events rows) (transitions rows) (length rows) first (entries rows) entry
    (now rows) early accepts)
    ∙ (due_entered o (events rows) (passing ∷ transitions rows) (length rows) (entries rows) entry
    entry.moment.0 looked
    ∙ ap (λ b. is_other_part o.query
    (numbered (number_about (replay (entries rows)) entry.moment.0 entry.change)
    (live (entries rows) entry.moment.0))
    (numbered (number_about (replay (entries rows)) entry.moment.0 entry.change)
    (live (entries rows ++ entry ∷ []) entry.moment.0))
    || b)
    (due_later o (events rows) (transitions rows) (length rows) (entries rows) (now rows)
    entry.moment.0 looked early)))))

-- A row that looks at an observer leaves it not due.
pub row_looks : (rows : List Row) (r : Row) (o : Observer)
    → is_desk_row r ≡ true
    → list_any (is_looking_for (name_of o)) r.notes ≡ true
    → is_due o (events (r ∷ rows)) (transitions (r ∷ rows)) ≡ false
row_looks rows r o desk looks =
    ap (λ seen. is_due o (events (r ∷ rows)) seen) (transitions-row rows r
    ∙ ap (λ b. cond b (transition_of r rows ∷ transitions rows) (transitions rows)) desk)
    ∙ (ap (λ past. is_due o past (transition_of r rows ∷ transitions rows)) (events-row rows r)
    ∙ due_looked o (events rows) (transition_of r rows ∷ transitions rows) (length rows) r.moment.0
    r.step.word r.notes (omega arith, transitions_below rows) looks)

-- ---- rows of steps

-- the marks that the entries of a row set for a query: its one entry is about a record that gives
-- other lines after it
abbrev pub entry_marks : Query → List Entry → List Entry → Bool
entry_marks query history [] = false
entry_marks query history (entry ∷ more) =
    is_other_part query (numbered (number_about (replay history) entry.moment.0 entry.change)
    (live history entry.moment.0))
    (numbered (number_about (replay history) entry.moment.0 entry.change)
    (live (history ++ entry ∷ []) entry.moment.0))

-- the marks that a row sets for a query: by its entry, and by the records that lapse from the
-- moment before it to its own
abbrev pub row_marks : Query → List Row → Row → Bool
row_marks query rows r =
    entry_marks query (entries rows) (entries_of r)
    || is_lapse_of query (now rows) r.moment.0 (replay (entries rows)).records

-- An observer that stands, and at whose listing a desk row does not look, is due after it exactly
-- where the row sets a mark for its query, or it was due before.
pub row-due : (rows : List Row) (r : Row) (o : Observer)
    → AreRows (r ∷ rows)
    → is_desk_row r ≡ true
    → IsAmong (observers (events rows)) o
    → list_any (is_looking_for (name_of o)) r.notes ≡ false
    → is_due o (events (r ∷ rows)) (transitions (r ∷ rows))
    ≡ (row_marks o.query rows r || is_due o (events rows) (transitions rows))
row-due rows r o all desk among quiet =
    by (subst (λ (x : Row). NotesNext (entries rows) x.moment.0 x.notes) (sym it.is)
    (row-NotesNext rows it.step it.starved))
  where
    it : RowMade rows r
    it = newest_made rows r all

    known : KnownIn rows o
    known =
        all_at_index (KnownIn rows) (observers (events rows)) o among (rows-AllKnown rows it.rows)

    order : now rows ≤ r.moment.0
    order =
        let early = now_latest rows in
        let late : latest rows ≤ r.moment.0 =
        subst (λ (x : Row). latest rows ≤ x.moment.0) (sym it.is)
        (row-moment_latest rows it.step it.starved) in
        omega (arith, early, late)

    regrouped : (a b c : Bool) → (a || (b || c)) ≡ ((a || b) || c)
    regrouped true b c = refl
    regrouped false b c = refl

    by : NotesNext (entries rows) r.moment.0 r.notes
        → is_due o (events (r ∷ rows)) (transitions (r ∷ rows))
        ≡ (row_marks o.query rows r || is_due o (events rows) (transitions rows))
    by (none h) =
        row_passes rows r o known desk quiet order h
        ∙ ap (λ more.
        (entry_marks o.query (entries rows) more
        || is_lapse_of o.query (now rows) r.moment.0 (replay (entries rows)).records)
        || is_due o (events rows) (transitions rows)) (sym h)
    by (one entry h at good accepted) =
        row_enters rows r o entry 0 known desk quiet order h (sym at) accepted
        ∙ (ap (λ m.
        entry_marks o.query (entries rows) (entry ∷ [])
        || (is_lapse_of o.query (now rows) m (replay (entries rows)).records
        || is_due o (events rows) (transitions rows))) at
        ∙ (regrouped (entry_marks o.query (entries rows) (entry ∷ []))
        (is_lapse_of o.query (now rows) r.moment.0 (replay (entries rows)).records)
        (is_due o (events rows) (transitions rows))
        ∙ ap (λ more.
        (entry_marks o.query (entries rows) more
        || is_lapse_of o.query (now rows) r.moment.0 (replay (entries rows)).records)
        || is_due o (events rows) (transitions rows)) (sym h)))

-- ---- a row that is being made

-- time passes before anything is done: an observer is due where a record lapses meanwhile that
-- gives lines to its query, or it was due before
pub due-making_passes : (rows : List Row) (s : Step) (starved : Bool) (o : Observer)
    → KnownIn rows o
    → is_look s.kind ≡ false
    → now rows ≤ row_moment rows s
    → is_due o (events (making rows s starved nothing))
    (transitions (making rows s starved nothing))
    ≡ (is_lapse_of o.query (now rows) (row_moment rows s) (replay (entries rows)).records
    || is_due o (events rows) (transitions rows))
due-making_passes rows s starved o known desk order =
    row_passes rows (row_with s (row_moment rows s) starved nothing) o known (ap not desk) refl
    order refl

-- then an entry is made, and nobody is looked at: an observer is due where the record that the
-- entry is about gives other lines after it, or it was due before
pub due-making_enters : (rows : List Row) (s : Step) (starved : Bool) (done more : Effects)
    (o : Observer) (entry : Entry) (first : ℕ)
    → KnownIn rows o
    → is_look s.kind ≡ false
    → now rows ≤ row_moment rows s
    → list_any (is_looking_for (name_of o)) done.notes ≡ false
    → list_any (is_looking_for (name_of o)) more.notes ≡ false
    → entries_in done.notes ≡ []
    → entries_in more.notes ≡ entry ∷ []
    → entry.moment.0 ≡ row_moment rows s → change_refusal first (entries rows) entry ≡ None
    → is_due o (events (making rows s starved (joined done more)))
    (transitions (making rows s starved (joined done more)))
    ≡ (entry_marks o.query (entries rows) (entry ∷ [])
    || is_due o (events (making rows s starved done))
    (transitions (making rows s starved done)))
due-making_enters rows s starved done more o entry first known desk order quiet also none_yet single
    at accepts =
    row_enters rows (row_with s (row_moment rows s) starved (joined done more)) o entry first known
    (ap not desk) looks_none order enters (sym at) accepts
    ∙ ap (λ b. entry_marks o.query (entries rows) (entry ∷ []) || b)
    (ap (λ m.
    is_lapse_of o.query (now rows) m (replay (entries rows)).records
    || is_due o (events rows) (transitions rows)) at
    ∙ sym (row_passes rows (row_with s (row_moment rows s) starved done) o known (ap not desk) quiet
    order none_yet))
  where
    looks_none : list_any (is_looking_for (name_of o)) (done.notes ++ more.notes) ≡ false
    looks_none = list_any-append (is_looking_for (name_of o)) done.notes more.notes ∙ rw quiet also

    enters : entries_in (done.notes ++ more.notes) ≡ entry ∷ []
    enters =
        entries_in-append done.notes more.notes
        ∙ (ap (λ (es : List Entry). es ++ entries_in more.notes) none_yet ∙ single)

-- what is done next enters nothing and looks at nobody: an observer is due as before
pub due-making_quiet : (rows : List Row) (s : Step) (starved : Bool) (done more : Effects)
    (o : Observer)
    → entries_in more.notes ≡ []
    → list_any (is_looking_for (name_of o)) more.notes ≡ false
    → is_due o (events (making rows s starved (joined done more)))
    (transitions (making rows s starved (joined done more)))
    ≡ is_due o (events (making rows s starved done)) (transitions (making rows s starved done))
unfolding transitions
due-making_quiet rows s starved done more o no_entry quiet =
    ap (λ past. is_due o past (transitions (making rows s starved (joined done more))))
    (events-making_joined rows s starved done more)
    ∙ (due_quiet o (events (making rows s starved done))
    (transitions (making rows s starved (joined done more))) (length rows) (row_moment rows s)
    s.word more.notes quiet
    ∙ ap (λ entered. is_due o (events (making rows s starved done)) (seen entered)) same)
  where
    seen : List Entry → List Transition
    seen entered =
        cond (is_desk_row (row_with s (row_moment rows s) starved done))
        (transition (length rows) (entries rows) (now rows) (entries rows ++ entered)
        (row_moment rows s)
        ∷ transitions rows) (transitions rows)

    same : entries_in (joined done more).notes ≡ entries_in done.notes
    same =
        entries_in-append done.notes more.notes
        ∙ (ap (λ (es : List Entry). entries_in done.notes ++ es) no_entry
        ∙ append-nil (entries_in done.notes))

-- what is done next looks at an observer: it is not due
pub due-making_looked : (rows : List Row) (s : Step) (starved : Bool) (done more : Effects)
    (o : Observer)
    → list_any (is_looking_for (name_of o)) more.notes ≡ true
    → is_due o (events (making rows s starved (joined done more)))
    (transitions (making rows s starved (joined done more)))
    ≡ false
unfolding transitions
due-making_looked rows s starved done more o looks =
    ap (λ past. is_due o past (transitions (making rows s starved (joined done more))))
    (events-making_joined rows s starved done more)
    ∙ due_looked o (events (making rows s starved done))
    (transitions (making rows s starved (joined done more))) (length rows) (row_moment rows s)
    s.word more.notes
    (low (not (is_look s.kind)) (transitions_below rows)) looks
  where
    low : (b : Bool) → AllByRecursion (λ t. t.place ≤ length rows) (transitions rows)
        → AllByRecursion (λ t. t.place ≤ length rows)
        (cond b (transition_of (row_with s (row_moment rows s) starved (joined done more)) rows
        ∷ transitions rows) (transitions rows))
    low true h = (omega arith, h)
    low false h = h
