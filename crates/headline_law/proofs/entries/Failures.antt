-- A write that is noted to have failed ended in 5.00, which was sent.
use Rattle.std.proofs.Common.{
  ◌≡◌,
  ◌⊎◌,
  inl,
  inr,
  ℕ,
  ◌==◌,
  ◌||◌,
  Bool,
  true,
  false,
  List,
  [],
  ◌∷◌,
  length,
  Result,
  Ok,
  Err,
  refl,
  sym,
  ap,
  subst,
  ◌∙◌,
  eqb-true,
}
use Rattle.std.specs.List.{list_any}
use Rattle.std.proofs.lemmas.Bool.{false≢true}
use Rattle.message_model.specs.declared.messages.Unread.{Unread}
use Rattle.message_model.specs.Codes as codes_of
use Rattle.message_model.specs.Message.{Message}
use Rattle.message_model.specs.Reading.{reading}
use Rattle.message_model.specs.Spelling.{spelling, header_spelling}
use Rattle.event_model.specs.declared.notes.Note.{Note}
use Rattle.event_model.specs.declared.notes.Note.TheVariants as note
use Rattle.event_model.specs.Events.{Event, noted, has_event}
use Rattle.event_model.specs.Repeats.{is_failure_of}
use Rattle.event_model.proofs.NotedLaws.{event_at}
use Rattle.journal_model.proofs.notes.BeginNotes.{beginning-notes}
use Rattle.journal_model.specs.declared.steps.Step.{Step}
use Rattle.journal_model.specs.declared.steps.StepKind.{StepKind}
use Rattle.journal_model.specs.declared.steps.StepKind.TheVariants as step
use Rattle.journal_model.specs.declared.rows.Row.{Row}
use Rattle.journal_model.specs.Journal.{events, entries}
use Rattle.journal_model.specs.Effects.{Effects, answering}
use Rattle.journal_model.specs.Commits.{commit_effects}
use Rattle.journal_model.specs.Rows.{done, effects, row_moment, row, AreRows}
use Rattle.journal_model.specs.PlacedRows.{Within, Placed, code_sent}
use Rattle.journal_model.specs.AdmittedWrites.{EndedWithoutMemory}
use Rattle.journal_model.proofs.NoteKinds.{
  of_lookup,
  of_write,
  of_empty,
  of_tick,
  of_response,
  are,
  none_of,
}
use Rattle.journal_model.proofs.StepNotes.{
  keep_effects-notes,
  lookup_effects-notes,
  read_effects-notes,
  write_effects-notes,
  tick_effects-notes,
}
use Rattle.journal_model.proofs.notes.StepTable.{StepNoted, effects-StepNoted}
use Rattle.journal_model.proofs.notes.StepTable as noted
use Rattle.journal_model.proofs.notes.ChangeNotes.{
  of_done,
  commit_effects-done,
  response_effects-notes,
}
use Rattle.journal_model.proofs.entries.JournalLaws.{RowMade, each_made}
use Rattle.headline_law.specs.AnsweredAlike.{FailsWrite}

-- one of the notes says that the write of a place failed
abbrev fails : ℕ → List Note → Bool
fails place notes = list_any (is_failure_of place) notes

-- notes of a kind that no failure is of
never_of : (kind : Note → Bool)
    → ((p : ℕ) → kind (note.Failed p) ≡ false)
    → (place : ℕ) (notes : List Note)
    → are kind notes ≡ true
    → fails place notes ≡ false
never_of kind never place notes h = none_of kind (is_failure_of place) other notes h
  where
    other : (n : Note) → kind n ≡ true → is_failure_of place n ≡ false
    other (note.Failed p) fits = absurd (false≢true (sym (never p) ∙ fits))
    other _ fits = refl

-- only the commit of a place notes that its write failed
commit_of_failure : (kind : StepKind) (starved : Bool) (rows : List Row) (moment : ℕ) (s : Step)
    (place : ℕ) (ns : List Note)
    → StepNoted kind starved rows moment s ns
    → fails place ns ≡ true
    → kind ≡ step.Commit place
commit_of_failure kind starved rows moment s place ns it h = by it
  where
    no : (fails place ns ≡ false) → kind ≡ step.Commit place
    no none = absurd (false≢true (sym none ∙ h))

    one : (p : ℕ) (b : Bool) → (p == place) ≡ b → (b || false) ≡ true → p ≡ place
    one p true same e = eqb-true p place same
    one p false same e = absurd (false≢true e)

    by : StepNoted kind starved rows moment s ns → kind ≡ step.Commit place
    by (noted.nothing blank) = no (ap (fails place) blank)
    by (noted.write m here read asks is) =
        no (never_of of_write (λ p. refl) place ns
        (ap (are of_write) is ∙ write_effects-notes (events rows) moment s m))
    by (noted.lookup m here read at is) =
        no (never_of of_lookup (λ p. refl) place ns
        (ap (are of_lookup) is ∙ lookup_effects-notes rows moment s m))
    by (noted.source m here read at is) =
        no (never_of of_lookup (λ p. refl) place ns
        (ap (are of_lookup) is ∙ read_effects-notes rows moment s m))
    by (noted.empty here all) = no (never_of of_empty (λ p. refl) place ns all)
    by (noted.response m here read responds is) =
        no (never_of of_response (λ p. refl) place ns
        (ap (are of_response) is ∙ response_effects-notes rows moment s m))
    by (noted.commit m p commits read is) =
        no (never_of of_done (λ q. refl) place ns
        (ap (are of_done) is ∙ commit_effects-done rows moment p s m))
    by (noted.failed p commits is) =
        commits ∙ ap (λ q. step.Commit q) (one p (p == place) refl (sym (ap (fails place) is) ∙ h))
    by (noted.keep m body tag keeps is) =
        no (never_of of_lookup (λ p. refl) place ns
        (ap (are of_lookup) (is ∙ keep_effects-notes s m body tag)))
    by (noted.tick ticks is) =
        no (never_of of_tick (λ p. refl) place ns
        (ap (are of_tick) is ∙ tick_effects-notes starved rows moment s))
    by (noted.begins first begins is) =
        no (never_of of_done (λ q. refl) place ns
        (ap (are of_done) is
        ∙ beginning-notes of_done (λ entry. refl) starved (entries rows) moment s first))

-- and then 5.00 is sent, for memory ran out, and nothing else is noted
record FailedDone (starved : Bool) (place : ℕ) (e : Effects) : Type 0 where
  ran_out : starved ≡ true
  sent : code_sent e.sent ≡ codes_of.internal_server_error
  alone : e.notes ≡ note.Failed place ∷ []

failure_sent : (starved : Bool) (rows : List Row) (moment place : ℕ) (s : Step)
    (read : Result Message Unread)
    → fails place (done starved rows moment place s read).notes ≡ true
    → FailedDone starved place (done starved rows moment place s read)
unfolding answering spelling header_spelling
failure_sent starved rows moment place s (Err fault) h = absurd (false≢true h)
failure_sent true rows moment place s (Ok m) h =
    record { ran_out = refl; sent = refl; alone = refl }
failure_sent false rows moment place s (Ok m) h =
    absurd (false≢true
    (sym (never_of of_done (λ q. refl) place (commit_effects rows moment place s m).notes
    (commit_effects-done rows moment place s m))
    ∙ h))

-- so it is of each row
row_failed : (rows : List Row) (s : Step) (starved : Bool) (place : ℕ)
    → fails place (row rows s starved).notes ≡ true
    → FailsWrite (row rows s starved) place
unfolding row effects
row_failed rows s starved place h =
    let is : s.kind ≡ step.Commit place =
    commit_of_failure s.kind starved rows (row_moment rows s) s place _
    (effects-StepNoted s.kind starved rows (row_moment rows s) s) h in
    let it : FailedDone starved place
    (done starved rows (row_moment rows s) place s (reading s.datagram)) =
    failure_sent starved rows (row_moment rows s) place s (reading s.datagram)
    (sym (ap (λ k. fails place (effects k starved rows (row_moment rows s) s).notes) is) ∙ h) in
    record {
      commits = is;
      starved = it.ran_out;
      sent = ap (λ k. code_sent (effects k starved rows (row_moment rows s) s).sent) is
          ∙ it.sent;
      alone = ap (λ k. (effects k starved rows (row_moment rows s) s).notes) is ∙ it.alone;
    }

-- ---- rows of steps

-- what one of the events is, a note of the newest row is, or one of the events before
newest_or_before : (test : Note → Bool) (place moment word : ℕ) (notes : List Note)
    (before : List Event)
    → has_event test (noted place moment word notes before) ≡ true
    → (list_any test notes ≡ true) ⊎ (has_event test before ≡ true)
newest_or_before test place moment word [] before h = inr h
newest_or_before test place moment word (n ∷ notes) before h =
    by (newest_or_before test place moment word notes (event_at place moment word n ∷ before) h)
    (test n) refl
  where
    left : (b c : Bool) → b ≡ true → (c || b) ≡ true
    left b true e = refl
    left b false e = e

    by :
        (list_any test notes ≡ true)
        ⊎ (has_event test (event_at place moment word n ∷ before) ≡ true)
        → (b : Bool)
        → test n ≡ b
        → (list_any test (n ∷ notes) ≡ true) ⊎ (has_event test before ≡ true)
    by (inl later) b e = inl (left (list_any test notes) (test n) later)
    by (inr here) true e = inl (rw e refl)
    by (inr here) false e = inr (sym (rw e refl) ∙ here)

-- the row that notes it
record Noting (test : Note → Bool) (rows : List Row) : Type 0 where
  placed : Placed
  within : Within rows placed.before placed.row
  notes : list_any test placed.row.notes ≡ true

row_noting : (test : Note → Bool) (rows : List Row)
    → has_event test (events rows) ≡ true
    → Noting test rows
unfolding events
row_noting test [] h = absurd (false≢true h)
row_noting test (r ∷ before) h =
    by (newest_or_before test (length before) r.moment.0 r.step.word r.notes (events before) h)
    (λ e. row_noting test before e)
  where
    by : (list_any test r.notes ≡ true) ⊎ (has_event test (events before) ≡ true)
        → (has_event test (events before) ≡ true → Noting test before)
        → Noting test (r ∷ before)
    by (inl here) more = record {
      placed = record { row = r; before = before };
      within = record { later = []; whole = refl };
      notes = here;
    }
    by (inr further) more =
        let it : Noting test before = more further in
        record {
          placed = it.placed;
          within =
              record {
                later =
                    r ∷ it.within.later;
                whole =
                    ap (λ (rows : List Row). r ∷ rows) it.within.whole;
              };
          notes = it.notes;
        }

-- so it is among rows of steps
pub rows-FailsWrite : (rows before : List Row) (r : Row) (place : ℕ)
    → AreRows rows
    → Within rows before r
    → list_any (is_failure_of place) r.notes ≡ true
    → FailsWrite r place
rows-FailsWrite rows before r place all within h =
    let made : RowMade before r = each_made rows before r all within in
    subst (λ (x : Row). FailsWrite x place) (sym made.is)
    (row_failed before made.step made.starved place
    (subst (λ (x : Row). fails place x.notes ≡ true) made.is h))

pub ended_without_memory : (rows : List Row) (place : ℕ)
    → AreRows rows
    → has_event (is_failure_of place) (events rows) ≡ true
    → EndedWithoutMemory rows place
ended_without_memory rows place all h =
    let it : Noting (is_failure_of place) rows = row_noting (is_failure_of place) rows h in
    let failed : FailsWrite it.placed.row place =
    rows-FailsWrite rows it.placed.before it.placed.row place all it.within it.notes in
    record {
      before = it.placed.before;
      row = it.placed.row;
      within = it.within;
      commits = failed.commits;
      failed = it.notes;
      sent = failed.sent;
    }
