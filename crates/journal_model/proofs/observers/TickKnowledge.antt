-- What observers know after a tick.
use Rattle.std.proofs.Common.{
  ◌≡◌,
  ◌⊎◌,
  inl,
  inr,
  ℕ,
  ◌+◌,
  Bool,
  true,
  false,
  cond,
  List,
  [],
  ◌∷◌,
  ◌++◌,
  length,
  fold,
  Option,
  Some,
  None,
  refl,
  sym,
  ap,
  subst,
  ◌∙◌,
}
use Rattle.std.specs.List.{list_any}
use Rattle.std.proofs.lemmas.Bool.{false≢true, or_right, or_left}
use Rattle.std.proofs.lemmas.List.Folds.{list_any-append}
use Rattle.std.proofs.lemmas.Slice.Eq.{bytes_eq-Decides}
use Rattle.history_model.specs.Listing.{listing}
use Rattle.rd_base.proofs.lemmas.Each.{each_both}
use Rattle.event_model.specs.declared.notes.Note.{Note}
use Rattle.event_model.specs.declared.notes.Note.TheVariants as note
use Rattle.event_model.specs.declared.notes.Observer.{Observer}
use Rattle.event_model.specs.Same.{is_same_request}
use Rattle.event_model.specs.Events.{noted, last_said}
use Rattle.event_model.specs.KeptAnswers.{Answer}
use Rattle.event_model.specs.Observers.{name_of, observers, last_body_formed}
use Rattle.event_model.specs.Due.{is_looking_for}
use Rattle.event_model.proofs.SameLaws.{is_same_request-refl}
use Rattle.event_model.proofs.NotedLaws.{
  event_at,
  noted-append,
  last_body_formed-before,
  is_watching,
  observers-noted,
}
use Rattle.event_model.proofs.ObserverLaws.{observers-apart, Only, apart_only}
use Rattle.journal_model.specs.declared.steps.Step.{Step}
use Rattle.journal_model.specs.declared.rows.Row.{Row}
use Rattle.journal_model.specs.Journal.{is_desk_row, events, entries}
use Rattle.journal_model.specs.Effects.{Effects, mid_of}
use Rattle.journal_model.specs.Bodies.{is_long}
use Rattle.journal_model.specs.Ticks.{
  first_block,
  is_unchanged,
  listing_for,
  is_looked_at,
  events_with,
  Ticking,
  ticking,
  notified_unless,
  notified_if,
  notification_next,
  notifications_again,
  notifications,
  requests_again,
  tick_effects,
}
use Rattle.journal_model.proofs.EntriesNoted.{entries_in}
use Rattle.journal_model.proofs.NoteKinds.{of_again, of_resent, of_tick, none_of, tick-entries_in}
use Rattle.journal_model.proofs.StepNotes.{
  tick_effects-notes,
  notifications_again-notes,
  requests_again-notes,
}
use Rattle.journal_model.proofs.observers.ObserverKnowledge.{
  KnownIn,
  AllKnown,
  is_observing,
  not_looking,
  not_watching,
  known_row,
  looked_row,
}
use Rattle.journal_model.proofs.entries.JournalLaws.{entries-none_noted}

-- what notes of a tick do for an observer: nothing, or they look at its listing, and then the last
-- body built for it is the listing now
abbrev pub QuietOrLooked : List Row → ℕ → ℕ → Observer → List Note → Type 0
QuietOrLooked rows moment word o notes =
    (list_any (is_looking_for (name_of o)) notes ≡ false)
    ⊎ ((list_any (is_looking_for (name_of o)) notes ≡ true)
    × (last_body_formed (name_of o) (noted (length rows) moment word notes (events rows))
    ≡ Some (listing o.query (entries rows) moment)))

-- further notes that do nothing for it
with_quiet : (rows : List Row) (moment word : ℕ) (o : Observer) (notes more : List Note)
    → list_any (is_looking_for (name_of o)) more ≡ false
    → QuietOrLooked rows moment word o notes
    → QuietOrLooked rows moment word o (notes ++ more)
with_quiet rows moment word o notes more quiet (inl h) =
    inl (list_any-append (is_looking_for (name_of o)) notes more ∙ rw (h, quiet) refl)
with_quiet rows moment word o notes more quiet (inr h) = inr (
  list_any-append (is_looking_for (name_of o)) notes more
      ∙ or_left (list_any (is_looking_for (name_of o)) notes)
      (list_any (is_looking_for (name_of o)) more) h.0,
  ap (last_body_formed (name_of o))
      (noted-append (length rows) moment word notes more (events rows))
      ∙ (last_body_formed-before (name_of o) (length rows) moment word more
      (noted (length rows) moment word notes (events rows)) quiet
      ∙ h.1),
)

-- further notes that look at its listing, where the last body built is then the listing now
with_look : (rows : List Row) (moment word : ℕ) (o : Observer) (notes more : List Note)
    → list_any (is_looking_for (name_of o)) more ≡ true
    → last_body_formed (name_of o) (noted (length rows) moment word more
    (noted (length rows) moment word notes (events rows)))
    ≡ Some (listing o.query (entries rows) moment)
    → QuietOrLooked rows moment word o (notes ++ more)
with_look rows moment word o notes more looks formed = inr (
  list_any-append (is_looking_for (name_of o)) notes more
      ∙ or_right (list_any (is_looking_for (name_of o)) notes)
      (list_any (is_looking_for (name_of o)) more) looks,
  ap (last_body_formed (name_of o))
      (noted-append (length rows) moment word notes more (events rows))
      ∙ formed,
)

-- a body that equals the last that was built is the last
formed_same : (last : Option (List ℕ)) (body : List ℕ)
    → is_unchanged last body ≡ true
    → last ≡ Some body
formed_same None body h = absurd (false≢true h)
formed_same (Some octets) body h = ap (λ x. Some x) ((bytes_eq-Decides octets body).0 h)

-- an answer that is kept or not
kept_quiet : (b : Bool) (o x : Observer) (a : Answer)
    → list_any (is_looking_for (name_of o)) (cond b (note.Kept x.peer x.key a.body a.tag ∷ []) [])
    ≡ false
kept_quiet true o x a = refl
kept_quiet false o x a = refl

-- what is retransmitted looks at no listing and adds no observer
notifications_again-quiet : (rows : List Row) (moment : ℕ)
    → list_any is_observing (notifications_again rows moment).notes ≡ false
notifications_again-quiet rows moment =
    none_of of_again is_observing never (notifications_again rows moment).notes
    (notifications_again-notes rows moment)
  where
    never : (n : Note) → of_again n ≡ true → is_observing n ≡ false
    never (note.Unwatched peer token) h = refl
    never (note.Again peer mid) h = refl
    never _ h = absurd (false≢true h)

requests_again-quiet : (rows : List Row) (moment : ℕ)
    → list_any is_observing (requests_again rows moment).notes ≡ false
requests_again-quiet rows moment =
    none_of of_resent is_observing never (requests_again rows moment).notes
    (requests_again-notes rows moment)
  where
    never : (n : Note) → of_resent n ≡ true → is_observing n ≡ false
    never (note.Resent peer) h = refl
    never (note.Ceased peer) h = refl
    never _ h = absurd (false≢true h)

-- one observer that a tick comes to
notification_quiet_or_looked : (rows : List Row) (moment : ℕ) (s : Step) (o x : Observer)
    (done : Effects)
    → (is_same_request (name_of x) (name_of o) ≡ true → x ≡ o)
    → QuietOrLooked rows moment s.word o done.notes
    → QuietOrLooked rows moment s.word o (notification_next (ticking rows moment s) done x).notes
unfolding last_body_formed last_said
notification_quiet_or_looked rows moment s o x done only h =
    looked (is_looked_at (ticking rows moment s) done x)
  where
    t : Ticking
    t = ticking rows moment s

    kept_notes : Observer → List Note
    kept_notes y = cond (is_long (first_block y) (listing_for (ticking rows moment s) y).body)
        (note.Kept y.peer y.key (listing_for (ticking rows moment s) y).body
        (listing_for (ticking rows moment s) y).tag
        ∷ []) []

    unchanged : (b : Bool)
        → is_same_request (name_of x) (name_of o) ≡ b
        → is_unchanged (last_body_formed (name_of x) (events_with (ticking rows moment s) done))
        (listing_for (ticking rows moment s) x).body
        ≡ true
        → QuietOrLooked rows moment s.word o (done.notes ++ note.Unchanged x.peer x.token ∷ [])
    unchanged true same equal =
        let it : x ≡ o = only same in
        with_look rows moment s.word o done.notes (note.Unchanged x.peer x.token ∷ [])
        (rw same refl)
        (formed_same (last_body_formed (name_of o) (events_with (ticking rows moment s) done))
        (listing o.query (entries rows) moment)
        (subst (λ (y : Observer).
        is_unchanged
        (last_body_formed (name_of y) (events_with (ticking rows moment s) done))
        (listing_for (ticking rows moment s) y).body
        ≡ true) it equal))
    unchanged false same equal =
        with_quiet rows moment s.word o done.notes (note.Unchanged x.peer x.token ∷ [])
        (rw same refl) h

    formed : (b : Bool) (mid : ℕ) → is_same_request (name_of x) (name_of o) ≡ b
        → QuietOrLooked rows moment s.word o (done.notes
        ++ note.Formed x.peer x.token (listing_for (ticking rows moment s) x).body
        (Some mid)
        ∷ kept_notes x)
    formed true mid same =
        let it : x ≡ o = only same in
        subst (λ (y : Observer).
        QuietOrLooked rows moment s.word o (done.notes
        ++ note.Formed y.peer y.token (listing_for (ticking rows moment s) y).body
        (Some mid)
        ∷ kept_notes y)) (sym it)
        (with_look rows moment s.word o done.notes
        (note.Formed o.peer o.token (listing_for (ticking rows moment s) o).body (Some mid)
        ∷ kept_notes o)
        (or_left (is_same_request (name_of o) (name_of o))
        (list_any (is_looking_for (name_of o)) (kept_notes o))
        (is_same_request-refl (name_of o)))
        (last_body_formed-before (name_of o) (length rows) moment s.word (kept_notes o)
        (event_at (length rows) moment s.word
        (note.Formed o.peer o.token (listing_for (ticking rows moment s) o).body (Some mid))
        ∷ noted (length rows) moment s.word done.notes (events rows))
        (kept_quiet (is_long (first_block o) (listing_for (ticking rows moment s) o).body) o o
        (listing_for (ticking rows moment s) o))
        ∙ rw (is_same_request-refl (name_of o)) refl))
    formed false mid same =
        with_quiet rows moment s.word o done.notes
        (note.Formed x.peer x.token (listing_for (ticking rows moment s) x).body (Some mid)
        ∷ kept_notes x)
        (rw (
          same,
          kept_quiet (is_long (first_block x) (listing_for (ticking rows moment s) x).body)
              o x (listing_for (ticking rows moment s) x),
        ) refl) h

    unless : (b : Bool)
        → is_unchanged (last_body_formed (name_of x) (events_with (ticking rows moment s) done))
        (listing_for (ticking rows moment s) x).body
        ≡ b
        → QuietOrLooked rows moment s.word o (done.notes
        ++ (notified_unless b (ticking rows moment s) done x
        (listing_for (ticking rows moment s) x)).notes)
    unless true equal = unchanged (is_same_request (name_of x) (name_of o)) refl equal
    unless false equal =
        formed (is_same_request (name_of x) (name_of o)) (mid_of s.worker (s.drawn + done.drew))
        refl

    looked : (b : Bool)
        → QuietOrLooked rows moment s.word o
        (done.notes ++ (notified_if b (ticking rows moment s) done x).notes)
    looked true =
        unless
        (is_unchanged (last_body_formed (name_of x) (events_with (ticking rows moment s) done))
        (listing_for (ticking rows moment s) x).body) refl
    looked false = with_quiet rows moment s.word o done.notes [] refl h

-- all observers that a tick comes to
notifications_quiet_or_looked : (rows : List Row) (moment : ℕ) (s : Step) (o : Observer)
    (standing : List Observer) (done : Effects)
    → Only o standing
    → QuietOrLooked rows moment s.word o done.notes
    → QuietOrLooked rows moment s.word o
    (fold (notification_next (ticking rows moment s)) done standing).notes
notifications_quiet_or_looked rows moment s o [] done only h = h
notifications_quiet_or_looked rows moment s o (x ∷ standing) done only h =
    notifications_quiet_or_looked rows moment s o standing
    (notification_next (ticking rows moment s) done x)
    only.1 (notification_quiet_or_looked rows moment s o x done only.0 h)

-- what a tick notes of each observer
tick_quiet_or_looked : (starved : Bool) (rows : List Row) (moment : ℕ) (s : Step) (o : Observer)
    → Only o (observers (events rows))
    → QuietOrLooked rows moment s.word o (tick_effects starved rows moment s).notes
unfolding tick_effects notifications
tick_quiet_or_looked true rows moment s o only =
    with_quiet rows moment s.word o (notifications_again rows moment).notes
    (requests_again rows moment).notes
    (not_looking (name_of o) (requests_again rows moment).notes (requests_again-quiet rows moment))
    (inl (not_looking (name_of o) (notifications_again rows moment).notes
    (notifications_again-quiet rows moment)))
tick_quiet_or_looked false rows moment s o only =
    with_quiet rows moment s.word o
    (notifications (ticking rows moment s) (notifications_again rows moment)).notes
    (requests_again rows moment).notes
    (not_looking (name_of o) (requests_again rows moment).notes (requests_again-quiet rows moment))
    (notifications_quiet_or_looked rows moment s o
    (observers (events_with (ticking rows moment s) (notifications_again rows moment)))
    (notifications_again rows moment)
    (observers-noted (λ x. is_same_request (name_of x) (name_of o) ≡ true → x ≡ o) (length rows)
    moment s.word (notifications_again rows moment).notes (events rows)
    (not_watching (notifications_again rows moment).notes (notifications_again-quiet rows moment))
    only)
    (inl (not_looking (name_of o) (notifications_again rows moment).notes
    (notifications_again-quiet rows moment))))

-- no tick adds an observer
tick_adds_none : (starved : Bool) (rows : List Row) (moment : ℕ) (s : Step)
    → list_any is_watching (tick_effects starved rows moment s).notes ≡ false
tick_adds_none starved rows moment s =
    none_of of_tick is_watching never (tick_effects starved rows moment s).notes
    (tick_effects-notes starved rows moment s)
  where
    never : (n : Note) → of_tick n ≡ true → is_watching n ≡ false
    never (note.Watched o) h = absurd (false≢true h)
    never _ h = refl

-- after a tick, each observer that stands knows
pub tick_row : (rows : List Row) (r : Row) (starved : Bool)
    → is_desk_row r ≡ true
    → r.notes ≡ (tick_effects starved rows r.moment.0 r.step).notes
    → AllKnown rows
    → AllKnown (r ∷ rows)
unfolding events
tick_row rows r starved desk notes all =
    observers-noted (KnownIn (r ∷ rows)) (length rows) r.moment.0 r.step.word r.notes (events rows)
    (subst (λ ns. list_any is_watching ns ≡ false) (sym notes)
    (tick_adds_none starved rows r.moment.0 r.step))
    (each_both (KnownIn rows) (λ o. Only o (observers (events rows))) (KnownIn (r ∷ rows))
    (λ o known only. by o known (subst (QuietOrLooked rows r.moment.0 r.step.word o) (sym notes)
    (tick_quiet_or_looked starved rows r.moment.0 r.step o only)))
    (observers (events rows)) all
    (apart_only (observers (events rows)) (observers-apart (events rows))))
  where
    silent : entries_in r.notes ≡ []
    silent =
        subst (λ ns. entries_in ns ≡ []) (sym notes)
        (tick-entries_in (tick_effects starved rows r.moment.0 r.step).notes
        (tick_effects-notes starved rows r.moment.0 r.step))

    by : (o : Observer)
        → KnownIn rows o
        → QuietOrLooked rows r.moment.0 r.step.word o r.notes
        → KnownIn (r ∷ rows) o
    by o known (inl quiet) = known_row rows r o desk quiet known
    by o known (inr looked) =
        looked_row rows r o desk looked.0 (looked.1
        ∙ ap (λ history. Some (listing o.query history r.moment.0))
        (sym (entries-none_noted rows r silent)))
