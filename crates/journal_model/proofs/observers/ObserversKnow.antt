-- Of each observer with no notification due: the last body built for it is the listing now (the
-- sentence ObserversKnow).
use Rattle.std.proofs.Common.{
  ◌≡◌,
  ℕ,
  ◌==◌,
  Bool,
  true,
  false,
  cond,
  not,
  List,
  [],
  ◌∷◌,
  Option,
  Some,
  None,
  refl,
  sym,
  ap,
  subst,
  ◌∙◌,
}
use Rattle.std.specs.List.{list_any}
use Rattle.std.proofs.lemmas.Bool.{false≢true}
use Rattle.std.proofs.lemmas.List.Folds.{list_any-append}
use Rattle.rd_base.specs.declared.peers.Peer.{Peer}
use Rattle.message_model.specs.Message.{Message}
use Rattle.message_model.specs.Reading.{reading}
use Rattle.message_model.specs.Request.{observe_in}
use Rattle.message_model.specs.RequestKey.{key_in}
use Rattle.history_model.specs.Listing.{listing}
use Rattle.event_model.specs.declared.notes.Note.{Note}
use Rattle.event_model.specs.declared.notes.Note.TheVariants as note
use Rattle.event_model.specs.declared.notes.Observer.{Observer}
use Rattle.event_model.specs.Same.{RequestName}
use Rattle.event_model.specs.KeptAnswers.{Answer}
use Rattle.event_model.specs.Observers.{observers, is_observer, has_room_for}
use Rattle.journal_model.specs.declared.steps.Step.{Step}
use Rattle.journal_model.specs.declared.steps.StepKind.{StepKind}
use Rattle.journal_model.specs.declared.steps.StepKind.TheVariants as step
use Rattle.journal_model.specs.declared.rows.Row.{Row}
use Rattle.journal_model.specs.Journal.{is_look, is_desk_row, events, entries}
use Rattle.journal_model.specs.Effects.{answering}
use Rattle.journal_model.specs.Bodies.{is_long}
use Rattle.journal_model.specs.Requests.{
  query_of,
  asked_block,
  is_later_block,
  register,
  deregister,
}
use Rattle.journal_model.specs.Looks.{look_effects}
use Rattle.journal_model.specs.Lookups.{
  listing_now,
  later_block,
  removal,
  without,
  observer_of,
  keeping,
  observed_if,
  observed,
  unobserved,
  observation_effects,
  first_block_effects,
  block_effects,
  lookup_effects,
  observing_by,
}
use Rattle.journal_model.specs.Rows.{effects, row_moment, row, AreRows, empty, added}
use Rattle.journal_model.specs.Machine.{IsJournal}
use Rattle.journal_model.specs.DeskJournal.{IsDeskJournal}
use Rattle.journal_model.proofs.entries.JournalLaws.{journal-AreRows, desk-AreRows}
use Rattle.journal_model.specs.ObserversKnow.{ObserversKnow}
use Rattle.journal_model.proofs.EntriesNoted.{entries_in}
use Rattle.journal_model.proofs.NoteKinds.{
  of_read,
  of_write,
  of_empty,
  of_commit,
  of_response,
  are,
  none_of,
}
use Rattle.journal_model.proofs.StepNotes.{
  look_effects-notes,
  keep_effects-notes,
  later_block-kept,
  read_effects-kept,
  write_effects-notes,
}
use Rattle.journal_model.proofs.entries.QuietSteps.{lookup_effects-entries_in}
use Rattle.journal_model.proofs.notes.SilentSteps.{looked_notes}
use Rattle.journal_model.proofs.notes.BeginNotes.{beginning-notes}
use Rattle.journal_model.proofs.notes.StepTable.{StepNoted, effects-StepNoted}
use Rattle.journal_model.proofs.notes.StepTable as noted
use Rattle.journal_model.proofs.notes.ChangeNotes.{commit_effects-notes, response_effects-notes}
use Rattle.journal_model.proofs.observers.ObserverKnowledge.{
  KnownIn,
  AllKnown,
  is_observing,
  quiet_row,
  look_row,
}
use Rattle.journal_model.proofs.observers.AddedObservers.{around, observed_row}
use Rattle.journal_model.proofs.observers.TickKnowledge.{tick_row}
use Rattle.rd_base.proofs.lemmas.Among.{all_at_index}

-- what notes do for observers after a journal at a moment: nothing; or they add one, with its first
-- listing, and have no entry
pub data ObserverNotes (rows : List Row) (moment : ℕ) (notes : List Note) : Type 0 where
  quiet : list_any is_observing notes ≡ false → ObserverNotes rows moment notes
  adds : (o : Observer) (front back : List Note) (body : List ℕ)
      → notes ≡ around front o body back
      → list_any is_observing front ≡ false
      → list_any is_observing back ≡ false
      → body ≡ listing o.query (entries rows) moment
      → entries_in notes ≡ []
      → ObserverNotes rows moment notes

-- notes of a kind that does nothing for observers
quiet_of : (kind : Note → Bool)
    → ((o : Observer) → kind (note.Watched o) ≡ false)
    → ((peer : Peer) (token body : List ℕ) (mid : Option ℕ)
    → kind (note.Formed peer token body mid) ≡ false)
    → ((peer : Peer) (token : List ℕ) → kind (note.Unchanged peer token) ≡ false)
    → (notes : List Note)
    → are kind notes ≡ true
    → list_any is_observing notes ≡ false
quiet_of kind watched formed unchanged notes h = none_of kind is_observing never notes h
  where
    never : (n : Note) → kind n ≡ true → is_observing n ≡ false
    never (note.Watched o) e = absurd (false≢true (sym (watched o) ∙ e))
    never (note.Formed peer token body mid) e =
        absurd (false≢true (sym (formed peer token body mid) ∙ e))
    never (note.Unchanged peer token) e = absurd (false≢true (sym (unchanged peer token) ∙ e))
    never _ e = refl

-- no notes
no_observer_notes : (rows : List Row) (moment : ℕ) (notes : List Note)
    → notes ≡ []
    → ObserverNotes rows moment notes
no_observer_notes rows moment notes none = quiet (ap (list_any is_observing) none)

-- an observer that is removed, and an answer that is kept
removal-quiet : (name : RequestName) (standing : List Observer)
    → list_any is_observing (removal name standing) ≡ false
removal-quiet name standing = by (is_observer name standing)
  where
    by : (b : Bool) → list_any is_observing (cond b (note.Unwatched name.0 name.1 ∷ []) []) ≡ false
    by true = refl
    by false = refl

keeping-quiet : (s : Step) (m : Message) (answer : Answer)
    → list_any is_observing (keeping s m answer) ≡ false
keeping-quiet s m answer = by (is_long (asked_block m) answer.body)
  where
    by : (b : Bool)
        → list_any is_observing
        (cond b (note.Kept s.peer (key_in m) answer.body answer.tag ∷ []) [])
        ≡ false
    by true = refl
    by false = refl

-- a lookup
lookup_observer_notes : (rows : List Row) (moment : ℕ) (s : Step) (m : Message)
    → ObserverNotes rows moment (lookup_effects rows moment s m).notes
unfolding lookup_effects observed unobserved answering
lookup_observer_notes rows moment s m = by (is_later_block m) refl
  where
    silent : entries_in (lookup_effects rows moment s m).notes ≡ []
    silent = lookup_effects-entries_in rows moment s m

    ended :
        list_any is_observing (observed_if false rows s m (listing_now rows moment m)).notes ≡ false
    ended =
        list_any-append is_observing (removal (s.peer, m.token) (observers (events rows)))
        (keeping s m (listing_now rows moment m))
        ∙ rw (
          removal-quiet (s.peer, m.token) (observers (events rows)),
          keeping-quiet s m
              (listing_now rows moment m),
        ) refl

    added : (b : Bool)
        → entries_in (observed_if b rows s m (listing_now rows moment m)).notes ≡ []
        → ObserverNotes rows moment (observed_if b rows s m (listing_now rows moment m)).notes
    added true none =
        adds (observer_of s m) (removal (s.peer, m.token) (observers (events rows)))
        (keeping s m (listing_now rows moment m)) (listing_now rows moment m).body refl
        (removal-quiet (s.peer, m.token) (observers (events rows)))
        (keeping-quiet s m (listing_now rows moment m)) refl none
    added false none = quiet ended

    valued : (b c : Bool)
        → entries_in (observation_effects (observing_by b c) rows moment s m).notes ≡ []
        → ObserverNotes rows moment (observation_effects (observing_by b c) rows moment s m).notes
    valued true c none =
        added (has_room_for (query_of m) (without (s.peer, m.token) (observers (events rows)))) none
    valued false true none = quiet ended
    valued false false none =
        no_observer_notes rows moment (look_effects (entries rows) moment s m).notes
        (look_effects-notes (entries rows) moment s m)

    observing : (o : Option ℕ)
        → entries_in (first_block_effects o rows moment s m).notes ≡ []
        → ObserverNotes rows moment (first_block_effects o rows moment s m).notes
    observing None none =
        no_observer_notes rows moment (look_effects (entries rows) moment s m).notes
        (look_effects-notes (entries rows) moment s m)
    observing (Some value) none = valued (value == register) (value == deregister) none

    by : (b : Bool)
        → is_later_block m ≡ b
        → ObserverNotes rows moment (block_effects b rows moment s m).notes
    by true e =
        quiet (quiet_of of_read (λ o. refl) (λ p t b n. refl) (λ p t. refl)
        (later_block rows moment s m).notes (later_block-kept rows moment s m))
    by false e =
        observing (observe_in m)
        (subst (λ b. entries_in (block_effects b rows moment s m).notes ≡ []) e silent)

-- the step is no tick
abbrev pub IsNoTick : StepKind → Type 0
IsNoTick step.Tick = ⊥
IsNoTick _ = Unit {0}

-- any step but a tick
pub step_observer_notes : (kind : StepKind) (starved : Bool) (rows : List Row) (moment : ℕ)
    (s : Step)
    → IsNoTick kind
    → ObserverNotes rows moment (effects kind starved rows moment s).notes
step_observer_notes kind starved rows moment s no_tick =
    by (effects kind starved rows moment s).notes (effects-StepNoted kind starved rows moment s)
  where
    quiet_kind : (of_kind : Note → Bool)
        → ((o : Observer) → of_kind (note.Watched o) ≡ false)
        → ((peer : Peer) (token body : List ℕ) (mid : Option ℕ)
        → of_kind (note.Formed peer token body mid) ≡ false)
        → ((peer : Peer) (token : List ℕ) → of_kind (note.Unchanged peer token) ≡ false)
        → (ns : List Note)
        → are of_kind ns ≡ true
        → ObserverNotes rows moment ns
    quiet_kind of_kind watched formed unchanged ns all =
        quiet (quiet_of of_kind watched formed unchanged ns all)

    by : (ns : List Note) → StepNoted kind starved rows moment s ns → ObserverNotes rows moment ns
    by ns (noted.nothing blank) = no_observer_notes rows moment ns blank
    by ns (noted.write m here read asks is) =
        quiet_kind of_write (λ o. refl) (λ p t b n. refl) (λ p t. refl) ns
        (ap (are of_write) is ∙ write_effects-notes (events rows) moment s m)
    by ns (noted.lookup m here read at is) =
        subst (ObserverNotes rows moment) (sym is) (lookup_observer_notes rows moment s m)
    by ns (noted.source m here read at is) =
        quiet_kind of_read (λ o. refl) (λ p t b n. refl) (λ p t. refl) ns
        (ap (are of_read) is ∙ read_effects-kept rows moment s m)
    by ns (noted.empty here all) =
        quiet_kind of_empty (λ o. refl) (λ p t b n. refl) (λ p t. refl) ns all
    by ns (noted.response m here read responds is) =
        quiet_kind of_response (λ o. refl) (λ p t b n. refl) (λ p t. refl) ns
        (ap (are of_response) is ∙ response_effects-notes rows moment s m)
    by ns (noted.commit m place commits read is) =
        quiet_kind of_commit (λ o. refl) (λ p t b n. refl) (λ p t. refl) ns
        (ap (are of_commit) is ∙ commit_effects-notes rows moment place s m)
    by ns (noted.failed place commits is) = quiet (ap (list_any is_observing) is)
    by ns (noted.keep m body tag keeps is) =
        quiet (ap (list_any is_observing) (is ∙ keep_effects-notes s m body tag))
    by ns (noted.tick ticks is) = absurd (subst IsNoTick ticks no_tick)
    by ns (noted.begins first begins is) =
        quiet_kind of_commit (λ o. refl) (λ p t b n. refl) (λ p t. refl) ns
        (ap (are of_commit) is
        ∙ beginning-notes of_commit (λ entry. refl) starved (entries rows) moment s first)

-- after a row with such notes, each observer that stands knows
observer_notes_row : (rows : List Row) (r : Row)
    → is_desk_row r ≡ true
    → ObserverNotes rows r.moment.0 r.notes
    → AllKnown rows
    → AllKnown (r ∷ rows)
observer_notes_row rows r desk (quiet h) all = quiet_row rows r desk h all
observer_notes_row rows r desk (adds o front back body notes before after listed none) all =
    observed_row rows r desk none (record {
      observer = o;
      front = front;
      back = back;
      body = body;
      notes = notes;
      quiet_front =
          before;
      quiet_back = after;
      listed = listed;
    }) all

-- after each row
row-AllKnown : (rows : List Row) (s : Step) (starved : Bool)
    → AllKnown rows
    → AllKnown (row rows s starved ∷ rows)
unfolding row effects row_moment
row-AllKnown rows s starved all = by s.kind refl
  where
    r : Row
    r = row rows s starved

    desk : (k : StepKind) → s.kind ≡ k → is_look k ≡ false → is_desk_row (row rows s starved) ≡ true
    desk k e none = ap (λ x. not (is_look x)) e ∙ ap not none

    notes_of : (k : StepKind)
        → s.kind ≡ k
        → (row rows s starved).notes ≡ (effects k starved rows (row_moment rows s) s).notes
    notes_of k e = ap (λ x. (effects x starved rows (row_moment rows s) s).notes) e

    no_tick : (k : StepKind)
        → s.kind ≡ k
        → is_look k ≡ false
        → IsNoTick k
        → AllKnown (row rows s starved ∷ rows)
    no_tick k e none other =
        observer_notes_row rows (row rows s starved) (desk k e none)
        (subst (ObserverNotes rows (row_moment rows s)) (sym (notes_of k e))
        (step_observer_notes k starved rows (row_moment rows s) s other)) all

    by : (k : StepKind) → s.kind ≡ k → AllKnown (row rows s starved ∷ rows)
    by step.Admit e = no_tick step.Admit e refl tt
    by step.Look e =
        look_row rows (row rows s starved) (ap (λ x. not (is_look x)) e)
        (notes_of step.Look e
        ∙ looked_notes starved (entries rows) (row_moment rows s) s (reading s.datagram)) all
    by (step.Commit place) e = no_tick (step.Commit place) e refl tt
    by (step.Keep body tag) e = no_tick (step.Keep body tag) e refl tt
    by step.Tick e =
        tick_row rows (row rows s starved) starved (desk step.Tick e refl) (notes_of step.Tick e)
        all
    by (step.Begin first) e = no_tick (step.Begin first) e refl tt

-- among rows of steps
pub rows-AllKnown : (rows : List Row) → AreRows rows → AllKnown rows
unfolding events observers
rows-AllKnown [] empty = tt
rows-AllKnown (r ∷ before) (added {rows} s starved rest) =
    row-AllKnown before s starved (rows-AllKnown before rest)

-- so it is in journals of desks
pub desk-AllKnown : (rows : List Row) → IsDeskJournal rows → AllKnown rows
desk-AllKnown rows journal = rows-AllKnown rows (desk-AreRows rows journal)

-- the last body built for an observer that is not due is the listing now
rows-ObserversKnow : (rows : List Row) → AreRows rows → ObserversKnow rows
rows-ObserversKnow rows all = record {
  last_formed =
      λ o among not_due.
      (all_at_index (KnownIn rows) (observers (events rows)) o among
      (rows-AllKnown rows all)).knows not_due;
}

-- in each journal of the machine
pub journal-ObserversKnow : (rows : List Row) → IsJournal rows → ObserversKnow rows
journal-ObserversKnow rows journal = rows-ObserversKnow rows (journal-AreRows rows journal)

-- and in each of a desk
pub desk-ObserversKnow : (rows : List Row) → IsDeskJournal rows → ObserversKnow rows
desk-ObserversKnow rows journal = rows-ObserversKnow rows (desk-AreRows rows journal)
