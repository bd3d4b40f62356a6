-- What observers know after a row that adds one.
use Rattle.std.proofs.Common.{
  ◌≡◌,
  ℕ,
  ◌||◌,
  Bool,
  true,
  false,
  not,
  List,
  [],
  ◌∷◌,
  ◌++◌,
  length,
  filter,
  Some,
  None,
  refl,
  sym,
  ap,
  subst,
  ◌∙◌,
}
use Rattle.std.specs.List.{list_any, AllByRecursion}
use Rattle.std.proofs.lemmas.List.Folds.{list_any-append}
use Rattle.history_model.specs.Listing.{listing}
use Rattle.rd_base.proofs.lemmas.Each.{each_weaker, each_both, each_filter, each_passes, each_push}
use Rattle.event_model.specs.declared.notes.Note.{Note}
use Rattle.event_model.specs.declared.notes.Note.TheVariants as note
use Rattle.event_model.specs.declared.notes.Observer.{Observer}
use Rattle.event_model.specs.Same.{is_same_request}
use Rattle.event_model.specs.Events.{Event, noted, last_said}
use Rattle.event_model.specs.Observers.{name_of, observers, last_body_formed}
use Rattle.event_model.specs.Due.{is_looking_for}
use Rattle.event_model.proofs.SameLaws.{is_same_request-refl}
use Rattle.event_model.proofs.NotedLaws.{
  event_at,
  noted-append,
  last_body_formed-before,
  observers-noted,
}
use Rattle.event_model.proofs.ObserverLaws.{Apart, not_true}
use Rattle.journal_model.specs.declared.rows.Row.{Row}
use Rattle.journal_model.specs.Journal.{is_desk_row, events, entries}
use Rattle.journal_model.proofs.EntriesNoted.{entries_in}
use Rattle.journal_model.proofs.entries.JournalLaws.{entries-none_noted}
use Rattle.journal_model.proofs.observers.ObserverKnowledge.{
  KnownIn,
  AllKnown,
  is_observing,
  not_looking,
  not_watching,
  known_row,
  looked_row,
}

-- notes around those that add an observer and build its first listing
abbrev pub around : List Note → Observer → List ℕ → List Note → List Note
around front o body back = front ++ note.Watched o ∷ note.Formed o.peer o.token body None ∷ back

-- a row with such notes
pub record Adds (rows : List Row) (r : Row) : Type 0 where
  pub observer : Observer
  pub front : List Note
  pub back : List Note
  pub body : List ℕ
  pub notes : r.notes ≡ around front observer body back
  pub quiet_front : list_any is_observing front ≡ false
  pub quiet_back : list_any is_observing back ≡ false
  pub listed : body ≡ listing observer.query (entries rows) r.moment.0

-- another observer is not looked at
others_quiet : (front back : List Note) (o x : Observer) (body : List ℕ)
    → list_any is_observing front ≡ false
    → list_any is_observing back ≡ false
    → Apart o x
    → list_any (is_looking_for (name_of x)) (around front o body back) ≡ false
others_quiet front back o x body quiet_front quiet_back apart =
    list_any-append (is_looking_for (name_of x)) front
    (note.Watched o ∷ note.Formed o.peer o.token body None ∷ back)
    ∙ rw (not_looking (name_of x) front quiet_front, apart, not_looking (name_of x) back quiet_back)
    refl

-- the new one is
new_looked : (front back : List Note) (o : Observer) (body : List ℕ)
    → list_any (is_looking_for (name_of o)) (around front o body back) ≡ true
new_looked front back o body =
    list_any-append (is_looking_for (name_of o)) front
    (note.Watched o ∷ note.Formed o.peer o.token body None ∷ back)
    ∙ by (list_any (is_looking_for (name_of o)) front)
  where
    by : (b : Bool)
        → (b
        || (is_same_request (name_of o) (name_of o)
        || list_any (is_looking_for (name_of o)) back))
        ≡ true
    by true = refl
    by false = rw (is_same_request-refl (name_of o)) refl

-- and the body is built for it
new_formed : (place moment word : ℕ) (front back : List Note) (o : Observer) (body : List ℕ)
    (past : List Event)
    → list_any is_observing back ≡ false
    → last_body_formed (name_of o) (noted place moment word (around front o body back) past)
    ≡ Some body
unfolding last_body_formed last_said
new_formed place moment word front back o body past quiet_back =
    ap (last_body_formed (name_of o)) (noted-append place moment word front
    (note.Watched o ∷ note.Formed o.peer o.token body None ∷ back) past)
    ∙ (last_body_formed-before (name_of o) place moment word back
    (event_at place moment word (note.Formed o.peer o.token body None)
    ∷ event_at place moment word (note.Watched o)
    ∷ noted place moment word front past)
    (not_looking (name_of o) back quiet_back)
    ∙ rw (is_same_request-refl (name_of o)) refl)

-- after a row that adds an observer, each that stands knows
pub observed_row : (rows : List Row) (r : Row)
    → is_desk_row r ≡ true
    → entries_in r.notes ≡ []
    → Adds rows r
    → AllKnown rows
    → AllKnown (r ∷ rows)
unfolding events observers
observed_row rows r desk silent adds all =
    subst (λ notes.
    AllByRecursion (KnownIn (r ∷ rows))
    (observers (noted (length rows) r.moment.0 r.step.word notes (events rows))))
    (sym adds.notes)
    (subst (λ past. AllByRecursion (KnownIn (r ∷ rows)) (observers past))
    (sym (noted-append (length rows) r.moment.0 r.step.word adds.front
    (note.Watched o ∷ formed ∷ adds.back) (events rows)))
    (observers-noted (KnownIn (r ∷ rows)) (length rows) r.moment.0 r.step.word (formed ∷ adds.back)
    (event_at (length rows) r.moment.0 r.step.word (note.Watched o) ∷ before)
    (not_watching adds.back adds.quiet_back) with_new))
  where
    o : Observer
    o = adds.observer

    formed : Note
    formed = note.Formed adds.observer.peer adds.observer.token adds.body None

    before : List Event
    before = noted (length rows) r.moment.0 r.step.word adds.front (events rows)

    apart_from : Observer → Bool
    apart_from x = not (is_same_request (name_of adds.observer) (name_of x))

    others : AllByRecursion (λ x. Apart adds.observer x → KnownIn (r ∷ rows) x) (observers before)
    others =
        observers-noted (λ x. Apart adds.observer x → KnownIn (r ∷ rows) x) (length rows) r.moment.0
        r.step.word adds.front (events rows) (not_watching adds.front adds.quiet_front)
        (each_weaker (KnownIn rows) (λ x. Apart adds.observer x → KnownIn (r ∷ rows) x)
        (λ x known apart. known_row rows r x desk
        (subst (λ notes. list_any (is_looking_for (name_of x)) notes ≡ false) (sym adds.notes)
        (others_quiet adds.front adds.back adds.observer x adds.body adds.quiet_front
        adds.quiet_back apart)) known)
        (observers (events rows)) all)

    new : KnownIn (r ∷ rows) adds.observer
    new = looked_row rows r adds.observer desk
        (subst (λ notes. list_any (is_looking_for (name_of adds.observer)) notes ≡ true)
        (sym adds.notes) (new_looked adds.front adds.back adds.observer adds.body))
        (subst (λ notes.
        last_body_formed (name_of adds.observer)
        (noted (length rows) r.moment.0 r.step.word notes (events rows))
        ≡ Some (listing adds.observer.query (entries (r ∷ rows)) r.moment.0))
        (sym adds.notes)
        (new_formed (length rows) r.moment.0 r.step.word adds.front adds.back adds.observer
        adds.body (events rows) adds.quiet_back
        ∙ ap (λ body. Some body) (adds.listed
        ∙ ap (λ history. listing adds.observer.query history r.moment.0)
        (sym (entries-none_noted rows r silent)))))

    with_new : AllByRecursion (KnownIn (r ∷ rows))
        (filter apart_from (observers before) ++ adds.observer ∷ [])
    with_new = each_push (KnownIn (r ∷ rows)) (filter apart_from (observers before)) adds.observer
        (each_both (λ x. Apart adds.observer x → KnownIn (r ∷ rows) x) (λ x. apart_from x ≡ true)
        (KnownIn (r ∷ rows))
        (λ x known passes.
        known (not_true (is_same_request (name_of adds.observer) (name_of x)) passes))
        (filter apart_from (observers before))
        (each_filter (λ x. Apart adds.observer x → KnownIn (r ∷ rows) x) apart_from
        (observers before) others)
        (each_passes apart_from (observers before)))
        new
