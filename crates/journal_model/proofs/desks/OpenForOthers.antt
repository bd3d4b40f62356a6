-- An admission that a worker's row opened stays open while other workers make rows, and so its
-- commit is of an open admission whatever they did meanwhile.
use Rattle.std.proofs.Common.{
  ◌≡◌,
  ℕ,
  suc,
  ◌<◌,
  ◌≤◌,
  Bool,
  true,
  false,
  cond,
  ◌==◌,
  ◌||◌,
  List,
  [],
  ◌∷◌,
  ◌++◌,
  length,
  Some,
  Ok,
  refl,
  sym,
  ap,
  subst,
  ◌∙◌,
  arith,
  eqb-true,
}
use Rattle.std.proofs.lemmas.Bool.{false≢true}
use Rattle.std.specs.List.{list_any}
use Rattle.rd_base.proofs.lemmas.Numbers.{eqb-refl}
use Rattle.rd_base.specs.declared.peers.Peer.{Peer}
use Rattle.message_model.specs.Message.{Message}
use Rattle.message_model.specs.Reading.{reading}
use Rattle.event_model.specs.declared.notes.Note.{Note}
use Rattle.event_model.specs.declared.notes.Note.TheVariants as note
use Rattle.event_model.specs.Events.{Event, has_event, noted}
use Rattle.event_model.specs.Repeats.{is_ending_of}
use Rattle.event_model.specs.AdmissionOrder.{is_aside, IsOpen}
use Rattle.event_model.proofs.NotedLaws.{event_at}
use Rattle.journal_model.specs.declared.rows.Row.{Row}
use Rattle.journal_model.specs.declared.steps.Step.{Step}
use Rattle.journal_model.specs.Journal.{events, row_at}
use Rattle.journal_model.specs.DeskJournal.{IsDeskJournal, IsOpenFor, CommitsOpen}
use Rattle.journal_model.specs.Rows.{row}
use Rattle.journal_model.specs.Seats.{rows_of}
use Rattle.journal_model.proofs.RowEquations.{events-row}
use Rattle.journal_model.proofs.NoteKinds.{none_of}
use Rattle.journal_model.proofs.desks.AdmissionsInOrder.{row_at-below}
use Rattle.journal_model.proofs.desks.CommitsOnce.{Made, newest}
use Rattle.journal_model.proofs.desks.OpenAdmissions.{OwnAdmission}
use Rattle.journal_model.proofs.entries.CommitPlaces.{AtPlace, at_place, own_of, commit-opens}
use Rattle.journal_model.proofs.entries.JournalLaws.{desk-AreRows}
use Rattle.journal_model.proofs.desks.TouchedExchanges.{
  Touches,
  aside,
  admits,
  ends,
  ends_at,
  row-Touches,
}

-- ---- the rows of a worker

-- they grow with the rows
rows_of-grows : (w : ℕ) (further seen : List Row)
    → length (rows_of w seen) ≤ length (rows_of w (further ++ seen))
unfolding rows_of
rows_of-grows w [] seen = omega arith
rows_of-grows w (x ∷ further) seen = by (x.step.worker == w) (rows_of-grows w further seen)
  where
    by : (b : Bool) → length (rows_of w seen) ≤ length (rows_of w (further ++ seen))
        → length (rows_of w seen) ≤ length (cond b (x ∷ rows_of w (further ++ seen))
        (rows_of w (further ++ seen)))
    by true h = omega (arith, h)
    by false h = h

-- where they stay the same, the rows that came are of others
pub record ByOthers (w : ℕ) (x : Row) (further seen : List Row) : Type 0 where
  pub other : (x.step.worker == w) ≡ false
  pub rest : rows_of w (further ++ seen) ≡ rows_of w seen

by_others : (w : ℕ) (x : Row) (further seen : List Row)
    → rows_of w (x ∷ (further ++ seen)) ≡ rows_of w seen → ByOthers w x further seen
unfolding rows_of
by_others w x further seen e = by (x.step.worker == w) refl e
  where
    by : (b : Bool) → (x.step.worker == w) ≡ b
        → cond b (x ∷ rows_of w (further ++ seen)) (rows_of w (further ++ seen)) ≡ rows_of w seen
        → ByOthers w x further seen
    by true is h = absurd (let g : length (rows_of w seen)
        ≤ length (rows_of w (further ++ seen)) = rows_of-grows w further seen in
        let l : suc (length (rows_of w (further ++ seen))) ≡ length (rows_of w seen) =
        ap length h in omega (arith, g, l))
    by false is h = record { other = is; rest = h }

-- ---- notes that end nothing

-- what ends nothing among the notes of a row, ends nothing with it
none_ended : (place at moment word : ℕ) (notes : List Note) (before : List Event)
    → list_any (is_ending_of place) notes ≡ false → has_event (is_ending_of place) before ≡ false
    → has_event (is_ending_of place) (noted at moment word notes before) ≡ false
none_ended place at moment word [] before none h = h
none_ended place at moment word (n ∷ notes) before none h =
    by (is_ending_of place n) refl none (λ g k. none_ended place at moment word notes
    (event_at at moment word n ∷ before) g k)
  where
    Goal : Type 0
    Goal = has_event (is_ending_of place) (noted at moment word notes
        (event_at at moment word n ∷ before)) ≡ false

    by : (b : Bool) → is_ending_of place n ≡ b → (b || list_any (is_ending_of place) notes) ≡ false
        → (list_any (is_ending_of place) notes ≡ false
        → has_event (is_ending_of place) (event_at at moment word n ∷ before) ≡ false → Goal)
        → Goal
    by true is g more = absurd (false≢true (sym g))
    by false is g more = more g (ap (λ (b : Bool). b || has_event (is_ending_of place) before) is
        ∙ h)

-- a note of another kind ends nothing
aside_ends : (place : ℕ) (n : Note) → is_aside n ≡ true → is_ending_of place n ≡ false
aside_ends place (note.Settled p reply) h = absurd (false≢true h)
aside_ends place (note.Failed p) h = absurd (false≢true h)
aside_ends place _ h = refl

-- the end of another place is not that of this one
other_ends : (place other : ℕ) → (other == place) ≡ false → (n : Note) → ends_at other n ≡ true
    → is_ending_of place n ≡ false
other_ends place other differ (note.Settled p reply) h =
    subst (λ (q : ℕ). (q == place) ≡ false) (sym (eqb-true p other h)) differ
other_ends place other differ (note.Failed p) h =
    subst (λ (q : ℕ). (q == place) ≡ false) (sym (eqb-true p other h)) differ
other_ends place other differ _ h = refl

-- ---- an admission stays open

-- with the same row
record StaysOpen (s : Step) (place : ℕ) (admission : Row) (rows : List Row) : Type 0 where
  pub opened : IsOpenFor s place rows
  pub same : opened.admission ≡ admission

-- the place of a row below stays
row_at-more : (place : ℕ) (x : Row) (rows : List Row) (r : Row) → row_at place rows ≡ Some r
    → row_at place (x ∷ rows) ≡ Some r
unfolding row_at
row_at-more place x rows r found = by (place == length rows) refl
  where
    by : (b : Bool) → (place == length rows) ≡ b → cond b (Some x) (row_at place rows) ≡ Some r
    by true is = absurd (let low : place < length rows = row_at-below place rows r found in
        let at : place ≡ length rows = eqb-true place (length rows) is in omega (arith, low, at))
    by false is = found

-- a row of another worker does not end it
other_row : (s : Step) (place : ℕ) (x : Row) (rows : List Row) → (it : IsOpenFor s place rows)
    → IsDeskJournal (x ∷ rows) → (x.step.worker == s.worker) ≡ false
    → list_any (is_ending_of place) x.notes ≡ false
unfolding row
other_row s place x rows it journal other = let m : Made rows x = newest rows x journal in
    subst (λ (y : Row). list_any (is_ending_of place) y.notes ≡ false) (sym m.is)
    (by m (row-Touches rows m.step m.starved))
  where
    by : (m : Made rows x) → Touches m.step.kind rows (row rows m.step m.starved).moment.0 m.step
        (row rows m.step m.starved).notes → list_any (is_ending_of place)
        (row rows m.step m.starved).notes ≡ false
    by m (aside h) = none_of is_aside (is_ending_of place) (aside_ends place)
        (row rows m.step m.starved).notes h
    by m (admits message kind read role notes new) = ap (list_any (is_ending_of place)) notes
    by m (ends p kind h) = at (p == place) refl
      where
        at : (b : Bool) → (p == place) ≡ b → list_any (is_ending_of place)
            (row rows m.step m.starved).notes ≡ false
        at false differ = none_of (ends_at p) (is_ending_of place) (other_ends place p differ)
            (row rows m.step m.starved).notes h
        at true is =
            let opened : IsOpenFor m.step p rows =
            subst (CommitsOpen rows m.step) kind m.may.commits in
            let found : row_at place rows ≡ Some opened.admission =
            subst (λ (q : ℕ). row_at q rows ≡ Some opened.admission)
            (eqb-true p place is) opened.found in
            let same : it.admission ≡ opened.admission =
            let h : Some it.admission ≡ Some opened.admission = sym it.found ∙ found in cc in
            let worker : x.step.worker ≡ s.worker =
            ap (λ (y : Row). y.step.worker) m.is
            ∙ (sym opened.worker ∙ (ap (λ (y : Row). y.step.worker) (sym same) ∙ it.worker)) in
            absurd (false≢true (sym other ∙ (ap (λ (n : ℕ). n == s.worker) worker
            ∙ eqb-refl s.worker)))

stays : (s : Step) (place : ℕ) (further seen : List Row) → (it : IsOpenFor s place seen)
    → IsDeskJournal (further ++ seen) → rows_of s.worker (further ++ seen) ≡ rows_of s.worker seen
    → StaysOpen s place it.admission (further ++ seen)
stays s place [] seen it journal same = record { opened = it; same = refl }
stays s place (x ∷ further) seen it journal same =
    let others : ByOthers s.worker x further seen = by_others s.worker x further seen same in
    let before : StaysOpen s place it.admission (further ++ seen) =
    stays s place further seen it (newest (further ++ seen) x journal).journal others.rest in
    record {
      opened = record {
        admission = before.opened.admission;
        found = row_at-more place x (further ++ seen) before.opened.admission before.opened.found;
        admits = before.opened.admits;
        worker = before.opened.worker;
        peer = before.opened.peer;
        datagram = before.opened.datagram;
        not_ended = subst (λ (es : List Event). has_event (is_ending_of place) es ≡ false)
            (sym (events-row (further ++ seen) x))
            (none_ended place (length (further ++ seen)) x.moment.0 x.step.word x.notes
            (events (further ++ seen)) (other_row s place x
            (further ++ seen) before.opened journal others.other) before.opened.not_ended);
      };
      same = before.same;
    }

-- while others make rows
open-stays : (s : Step) (place : ℕ) (seen found : List Row) → (it : IsOpenFor s place seen)
    → (further : List Row) → found ≡ further ++ seen → IsDeskJournal found
    → rows_of s.worker found ≡ rows_of s.worker seen
    → StaysOpen s place it.admission found
open-stays s place seen found it further whole journal same =
    subst (StaysOpen s place it.admission) (sym whole)
    (stays s place further seen it (subst IsDeskJournal whole journal)
    (subst (λ (rows : List Row). rows_of s.worker rows ≡ rows_of s.worker seen) whole same))

-- ---- what the desk asks of the job of an open admission

record Ready (s : Step) (place moment : ℕ) (datagram : List ℕ) (rows : List Row) : Type 0 where
  pub message : Message
  pub read : reading datagram ≡ Ok message
  pub is_open : IsOpen place s.peer message.mid moment (events rows)

open-Ready : (s : Step) (place moment : ℕ) (datagram : List ℕ) (rows : List Row)
    → IsDeskJournal rows → (it : IsOpenFor s place rows) → it.admission.moment.0 ≡ moment
    → s.datagram ≡ datagram → Ready s place moment datagram rows
open-Ready s place moment datagram rows journal it at same =
    let placed : AtPlace rows place it.admission = at_place place rows it.admission it.found in
    let own : OwnAdmission it.admission = own_of rows placed.before it.admission
    (desk-AreRows rows journal) placed.within it.admits in
    let read : reading s.datagram ≡ Ok own.message = ap reading (sym it.datagram) ∙ own.read in
    record {
      message = own.message;
      read = ap reading (sym same) ∙ read;
      is_open = subst (λ (m : ℕ). IsOpen place s.peer own.message.mid m (events rows)) at
          (commit-opens rows s place own.message journal it read);
    }

-- the same admission, named by another step of the same worker, peer and datagram
open-as : (s t : Step) (place : ℕ) (rows : List Row) → IsOpenFor s place rows
    → s.worker ≡ t.worker → s.peer ≡ t.peer → s.datagram ≡ t.datagram → IsOpenFor t place rows
open-as s t place rows it worker peer datagram = record {
  admission = it.admission;
  found = it.found;
  admits = it.admits;
  worker = it.worker ∙ worker;
  peer = it.peer ∙ peer;
  datagram = it.datagram ∙ datagram;
  not_ended = it.not_ended;
}

-- what a commit is of, at the turn of its worker
pub record CommitReady (t : Step) (place admitted : ℕ) (datagram : List ℕ)
    (rows : List Row) : Type 0 where
  pub opened : IsOpenFor t place rows
  pub message : Message
  pub read : reading datagram ≡ Ok message
  pub is_open : IsOpen place t.peer message.mid admitted (events rows)

-- s names the admission in what was seen before the turn, t after it
pub open-CommitReady : (s t : Step) (place admitted : ℕ) (datagram : List ℕ)
    (seen found : List Row) (it : IsOpenFor s place seen) → it.admission.moment.0 ≡ admitted
    → (further : List Row) → found ≡ further ++ seen
    → IsDeskJournal found → rows_of s.worker found ≡ rows_of s.worker seen → s.worker ≡ t.worker
    → s.peer ≡ t.peer → s.datagram ≡ t.datagram → t.datagram ≡ datagram
    → CommitReady t place admitted datagram found
open-CommitReady s t place admitted datagram seen found it at further whole journal same worker
    peer octets is =
    let stays : StaysOpen s place it.admission found =
    open-stays s place seen found it further whole journal same in
    let ready : Ready s place admitted datagram found =
    open-Ready s place admitted datagram found journal stays.opened
    (ap (λ (r : Row). r.moment.0) stays.same ∙ at) (octets ∙ is) in
    record {
      opened = open-as s t place found stays.opened worker peer octets;
      message = ready.message;
      read = ready.read;
      is_open = subst (λ (p : Peer). IsOpen place p ready.message.mid admitted (events found))
          peer ready.is_open;
    }
