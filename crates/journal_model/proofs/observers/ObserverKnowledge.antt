-- What an observer knows: when its listing was last looked at, and that the last body built for it
-- is the listing now unless it is due.
use Rattle.std.proofs.Common.{
  ◌≡◌,
  ℕ,
  suc,
  ◌<◌,
  ◌==◌,
  ◌&&◌,
  ◌||◌,
  Bool,
  true,
  false,
  cond,
  List,
  [],
  ◌∷◌,
  ◌++◌,
  length,
  map,
  filter,
  Some,
  refl,
  sym,
  ap,
  ap₂,
  subst,
  ◌∙◌,
  bytes_eq,
  nat_lt,
  lt-ltb,
  eqb-true,
  arith,
}
use Rattle.std.specs.List.{list_any, AllByRecursion}
use Rattle.std.proofs.lemmas.Bool.{false≢true, and_parts, or_parts, not-false}
use Rattle.std.proofs.lemmas.Slice.Eq.{bytes_eq-Decides}
use Rattle.rd_base.specs.declared.queries.Query.{Query}
use Rattle.record_model.specs.ListingLines.{shown}
use Rattle.history_model.specs.declared.entries.Entry.{Entry}
use Rattle.history_model.specs.Listing.{all_lines, listing}
use Rattle.rd_base.proofs.lemmas.Each.{each_weaker, none_pass}
use Rattle.event_model.specs.declared.notes.Note.{Note}
use Rattle.event_model.specs.declared.notes.Note.TheVariants as note
use Rattle.event_model.specs.declared.notes.Observer.{Observer}
use Rattle.event_model.specs.Same.{RequestName}
use Rattle.event_model.specs.Events.{Event, noted, last_event}
use Rattle.event_model.specs.Observers.{name_of, observers, last_body_formed}
use Rattle.event_model.specs.Due.{
  Transition,
  are_same_lines,
  is_change_of,
  is_looking_for,
  is_changed_since,
  is_due,
}
use Rattle.event_model.proofs.NotedLaws.{
  Found,
  last_event-here,
  last_event-before,
  last_body_formed-before,
  is_watching,
  observers-noted,
}
use Rattle.journal_model.specs.declared.rows.Row.{Row}
use Rattle.journal_model.specs.Journal.{
  is_desk_row,
  transition_of,
  events,
  entries,
  entries_of,
  now,
  transitions,
}
use Rattle.journal_model.proofs.entries.JournalLaws.{entries-none_noted}
use Rattle.journal_model.proofs.EntriesNoted.{entries_in}

-- what is known of an observer after events, rows, a history and a moment
pub record Known (past : List Event) (rows_seen : List Transition) (history : List Entry)
    (moment count : ℕ) (o : Observer) : Type 0 where
  pub event : Event
  pub last : last_event (is_looking_for (name_of o)) past ≡ Some event
  pub place : event.place < count
  pub knows : is_due o past rows_seen ≡ false
      → last_body_formed (name_of o) past ≡ Some (listing o.query history moment)

-- equal lines
same_lines : (xs ys : List (ℕ × List ℕ)) → are_same_lines xs ys ≡ true → xs ≡ ys
same_lines [] [] h = refl
same_lines [] (y ∷ ys) h = absurd (false≢true h)
same_lines (x ∷ xs) [] h = absurd (false≢true h)
same_lines (x ∷ xs) (y ∷ ys) h =
    let both = and_parts (x.0 == y.0 && bytes_eq x.1 y.1) (are_same_lines xs ys) h in
    let one = and_parts (x.0 == y.0) (bytes_eq x.1 y.1) both.0 in
    let first : x ≡ y =
    ap₂ (λ n line. (n, line)) (eqb-true x.0 y.0 one.0) ((bytes_eq-Decides x.1 y.1).0 one.1) in
    ap₂ (λ z zs. z ∷ zs) first (same_lines xs ys both.1)

-- a row that does not change the lines of a query does not change its listing
unchanged : (query : Query) (t : Transition)
    → is_change_of query t ≡ false
    → listing query t.before t.moment_before ≡ listing query t.after t.moment_after
unfolding is_change_of listing
unchanged query t h =
    ap (λ lines. shown query (map (λ (numbered : ℕ × List ℕ). numbered.1) lines))
    (same_lines (all_lines query t.before t.moment_before) (all_lines query t.after t.moment_after)
    (not-false (are_same_lines (all_lines query t.before t.moment_before)
    (all_lines query t.after t.moment_after)) h))

-- who is due since the event at which its listing was last looked at
due_since : (o : Observer) (past : List Event) (rows_seen : List Transition) (e : Event)
    → last_event (is_looking_for (name_of o)) past ≡ Some e
    → is_due o past rows_seen
    ≡ list_any (is_change_of o.query) (filter (λ t. nat_lt e.place t.place) rows_seen)
unfolding is_due
due_since o past rows_seen e last = ap (is_changed_since o.query rows_seen) last

-- after a row that does not look at its listing, an observer knows as before
pub known_quiet : (past : List Event) (rows_seen : List Transition) (history more : List Entry)
    (moment later word count : ℕ) (notes : List Note) (o : Observer)
    → Known past rows_seen history moment count o
    → list_any (is_looking_for (name_of o)) notes ≡ false
    → Known (noted count later word notes past) (record {
      place =
          count;
      before =
          history;
      moment_before = moment;
      after = more;
      moment_after = later;
    }
    ∷ rows_seen) more later (suc count) o
known_quiet past rows_seen history more moment later word count notes o known quiet = record {
  event = known.event;
  last = last;
  place = let low = known.place in omega (arith, low);
  knows =
      λ not_due.
      last_body_formed-before (name_of o) count later word notes past quiet
      ∙ was_formed (or_parts _ _
      (counted (sym (due_since o (noted count later word notes past) (t ∷ rows_seen)
      known.event last)
      ∙ not_due)));
}
  where
    t : Transition
    t = record {
      place = count;
      before = history;
      moment_before = moment;
      after = more;
      moment_after = later;
    }

    last :
        last_event (is_looking_for (name_of o)) (noted count later word notes past)
        ≡ Some known.event
    last =
        last_event-before (is_looking_for (name_of o)) count later word notes past quiet
        ∙ known.last

    counted :
        list_any (is_change_of o.query) (cond (nat_lt known.event.place count)
        (t ∷ filter (λ x. nat_lt known.event.place x.place) rows_seen)
        (filter (λ x. nat_lt known.event.place x.place) rows_seen))
        ≡ false
        → (is_change_of o.query t
        || list_any (is_change_of o.query)
        (filter (λ x. nat_lt known.event.place x.place) rows_seen))
        ≡ false
    counted h =
        subst (λ b.
        list_any (is_change_of o.query)
        (cond b (t ∷ filter (λ x. nat_lt known.event.place x.place) rows_seen)
        (filter (λ x. nat_lt known.event.place x.place) rows_seen))
        ≡ false)
        (lt-ltb known.event.place count known.place) h

    was_formed :
        (is_change_of o.query t ≡ false)
        × (list_any (is_change_of o.query)
        (filter (λ x. nat_lt known.event.place x.place) rows_seen)
        ≡ false)
        → last_body_formed (name_of o) past ≡ Some (listing o.query more later)
    was_formed h =
        known.knows (due_since o past rows_seen known.event known.last ∙ h.1)
        ∙ ap (λ body. Some body) (unchanged o.query t h.0)

-- after a row that looks at its listing, and built it or found it unchanged
pub known_looked : (past : List Event) (rows_seen : List Transition) (history : List Entry)
    (later word count : ℕ) (notes : List Note) (o : Observer)
    → list_any (is_looking_for (name_of o)) notes ≡ true
    → last_body_formed (name_of o) (noted count later word notes past)
    ≡ Some (listing o.query history later)
    → Known (noted count later word notes past) rows_seen history later (suc count) o
known_looked past rows_seen history later word count notes o looks formed =
    let found : Found (is_looking_for (name_of o)) (noted count later word notes past) count later =
    last_event-here (is_looking_for (name_of o)) count later word notes past looks in
    record {
      event = found.event;
      last = found.last;
      place = let here = found.at_place in omega (arith, here);
      knows = λ not_due. formed;
    }

-- what is known of an observer in a journal
abbrev pub KnownIn : List Row → Observer → Type 0
KnownIn rows o = Known (events rows) (transitions rows) (entries rows) (now rows) (length rows) o

-- and of all that stand
abbrev pub AllKnown : List Row → Type 0
AllKnown rows = AllByRecursion (KnownIn rows) (observers (events rows))

-- the note adds an observer, or looks at the listing of one
abbrev pub is_observing : Note → Bool
is_observing (note.Watched o) = true
is_observing (note.Formed peer token body mid) = true
is_observing (note.Unchanged peer token) = true
is_observing _ = false

-- then it does neither of one observer
pub not_looking : (name : RequestName) (notes : List Note)
    → list_any is_observing notes ≡ false
    → list_any (is_looking_for name) notes ≡ false
not_looking name notes h = none_pass is_observing (is_looking_for name) by notes h
  where
    by : (x : Note) → is_observing x ≡ false → is_looking_for name x ≡ false
    by (note.Formed peer token body mid) e = absurd (false≢true (sym e))
    by (note.Unchanged peer token) e = absurd (false≢true (sym e))
    by _ e = refl

-- and adds none
pub not_watching : (notes : List Note)
    → list_any is_observing notes ≡ false
    → list_any is_watching notes ≡ false
not_watching notes h = none_pass is_observing is_watching by notes h
  where
    by : (x : Note) → is_observing x ≡ false → is_watching x ≡ false
    by (note.Watched o) e = absurd (false≢true (sym e))
    by _ e = refl

-- an observer in a journal with one row more, where the row does not look at its listing
pub known_row : (rows : List Row) (r : Row) (o : Observer)
    → is_desk_row r ≡ true
    → list_any (is_looking_for (name_of o)) r.notes ≡ false
    → KnownIn rows o
    → KnownIn (r ∷ rows) o
unfolding events entries now transitions
known_row rows r o desk quiet known =
    rw desk
    (known_quiet (events rows) (transitions rows) (entries rows) (entries rows ++ entries_of r)
    (now rows) r.moment.0 r.step.word (length rows) r.notes o known quiet)

-- and where it looks at its listing
pub looked_row : (rows : List Row) (r : Row) (o : Observer)
    → is_desk_row r ≡ true
    → list_any (is_looking_for (name_of o)) r.notes ≡ true
    → last_body_formed (name_of o) (events (r ∷ rows))
    ≡ Some (listing o.query (entries (r ∷ rows)) r.moment.0)
    → KnownIn (r ∷ rows) o
unfolding events entries now transitions
looked_row rows r o desk looks formed =
    rw desk (known_looked (events rows) _ (entries rows ++ entries_of r) r.moment.0 r.step.word
    (length rows) r.notes o looks formed)

-- a row that adds no observer and looks at no listing
pub quiet_row : (rows : List Row) (r : Row)
    → is_desk_row r ≡ true
    → list_any is_observing r.notes ≡ false
    → AllKnown rows
    → AllKnown (r ∷ rows)
unfolding events
quiet_row rows r desk quiet all =
    observers-noted (KnownIn (r ∷ rows)) (length rows) r.moment.0 r.step.word r.notes (events rows)
    (not_watching r.notes quiet)
    (each_weaker (KnownIn rows) (KnownIn (r ∷ rows))
    (λ o known. known_row rows r o desk (not_looking (name_of o) r.notes quiet) known)
    (observers (events rows)) all)

-- a row that notes nothing adds no event and no entry
events-nothing : (rows : List Row) (r : Row) → r.notes ≡ [] → events (r ∷ rows) ≡ events rows
unfolding events
events-nothing rows r none =
    ap (λ notes. noted (length rows) r.moment.0 r.step.word notes (events rows)) none

entries-nothing : (rows : List Row) (r : Row) → r.notes ≡ [] → entries (r ∷ rows) ≡ entries rows
entries-nothing rows r none = entries-none_noted rows r (ap entries_in none)

-- the row of a look is none of those that observers see
transitions-look : (rows : List Row) (r : Row)
    → is_desk_row r ≡ false
    → transitions (r ∷ rows) ≡ transitions rows
unfolding transitions
transitions-look rows r look =
    ap (λ b. cond b (transition_of r rows ∷ transitions rows) (transitions rows)) look

now-look : (rows : List Row) (r : Row) → is_desk_row r ≡ false → now (r ∷ rows) ≡ now rows
unfolding now
now-look rows r look = ap (λ b. cond b r.moment.0 (now rows)) look

-- so observers know as before
pub look_row : (rows : List Row) (r : Row)
    → is_desk_row r ≡ false
    → r.notes ≡ []
    → AllKnown rows
    → AllKnown (r ∷ rows)
look_row rows r look none all =
    subst (λ past. AllByRecursion (KnownIn (r ∷ rows)) (observers past))
    (sym (events-nothing rows r none))
    (each_weaker (KnownIn rows) (KnownIn (r ∷ rows)) same (observers (events rows)) all)
  where
    longer : (o : Observer)
        → KnownIn rows o
        → Known (events rows) (transitions rows) (entries rows) (now rows) (suc (length rows)) o
    longer o known = record {
      event = known.event;
      last = known.last;
      place = let low = known.place in omega (arith, low);
      knows = known.knows;
    }

    same : (o : Observer) → KnownIn rows o → KnownIn (r ∷ rows) o
    same o known =
        subst (λ past.
        Known past (transitions (r ∷ rows)) (entries (r ∷ rows)) (now (r ∷ rows))
        (suc (length rows)) o) (sym (events-nothing rows r none))
        (subst (λ seen.
        Known (events rows) seen (entries (r ∷ rows)) (now (r ∷ rows)) (suc (length rows))
        o) (sym (transitions-look rows r look))
        (subst (λ history.
        Known (events rows) (transitions rows) history (now (r ∷ rows)) (suc (length rows))
        o) (sym (entries-nothing rows r none))
        (subst (λ moment.
        Known (events rows) (transitions rows) (entries rows) moment (suc (length rows)) o)
        (sym (now-look rows r look)) (longer o known))))
