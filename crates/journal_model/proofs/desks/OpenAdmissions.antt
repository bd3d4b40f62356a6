-- An admission is open from its row on until a row ends it, and so each commit of a journal of a
-- desk is of an open admission.
use Rattle.std.proofs.Common.{
  ◌≡◌,
  ℕ,
  ◌==◌,
  Bool,
  true,
  false,
  cond,
  List,
  [],
  ◌∷◌,
  length,
  Some,
  None,
  Ok,
  refl,
  sym,
  ap,
  subst,
  ◌∙◌,
  eqb-true,
}
use Rattle.std.specs.List.{list_any}
use Rattle.std.proofs.lemmas.Bool.{false≢true}
use Rattle.rd_base.specs.declared.peers.Peer.{Peer}
use Rattle.rd_base.proofs.lemmas.Numbers.{eqb-refl}
use Rattle.rd_base.proofs.lemmas.Each.{none_pass}
use Rattle.message_model.specs.declared.messages.Role.TheVariants as role
use Rattle.message_model.specs.Message.{Message, role_of}
use Rattle.message_model.specs.Reading.{reading}
use Rattle.event_model.specs.declared.notes.Note.{Note}
use Rattle.event_model.specs.declared.notes.Note.TheVariants as note
use Rattle.event_model.specs.Events.{Event, has_event, noted}
use Rattle.event_model.specs.Repeats.{is_admitting, is_failure_of, is_ending_of}
use Rattle.event_model.specs.AdmissionOrder.{IsOrderly, HasAdmission, IsOpen, is_aside}
use Rattle.event_model.proofs.SameLaws.{is_same_peer-refl}
use Rattle.event_model.proofs.EventEquations.{admissions-event}
use Rattle.event_model.proofs.NotedLaws.{event_at}
use Rattle.event_model.proofs.AsideLaws.{none_noted, HasAdmission-noted}
use Rattle.journal_model.specs.declared.steps.Step.{Step}
use Rattle.journal_model.specs.declared.steps.StepKind.{StepKind}
use Rattle.journal_model.specs.declared.rows.Row.{Row}
use Rattle.journal_model.specs.Journal.{events, row_at}
use Rattle.journal_model.specs.Rows.{row}
use Rattle.journal_model.specs.DeskJournal.{IsOpenFor, IsDeskJournal, begun, made}
use Rattle.journal_model.proofs.RowEquations.{events-row, row-step}
use Rattle.journal_model.proofs.NoteKinds.{none_of}
use Rattle.journal_model.proofs.desks.TouchedExchanges.{
  Touches,
  aside,
  admits,
  ends,
  ends_at,
  row-Touches,
}
use Rattle.journal_model.proofs.desks.AdmissionsInOrder.{journal-IsOrderly}

-- the row that admits a write opens its admission
pub admitted-IsOpen : (rows : List Row) (r : Row) (peer : Peer) (mid : ℕ)
    → IsOrderly (events (r ∷ rows))
    → r.notes ≡ note.Admitted peer mid ∷ []
    → IsOpen (length rows) peer mid r.moment.0 (events (r ∷ rows))
admitted-IsOpen rows r peer mid orderly notes =
    let e : Event = event_at (length rows) r.moment.0 r.step.word (note.Admitted peer mid) in
    let is : events (r ∷ rows) ≡ e ∷ events rows =
    events-row rows r
    ∙ ap (λ (ns : List Note). noted (length rows) r.moment.0 r.step.word ns (events rows))
    notes in
    let here : HasAdmission (length rows) peer mid r.moment.0 (e ∷ events rows) =
    rw (admissions-event e (events rows))
    (rw (eqb-refl (length rows), is_same_peer-refl peer, eqb-refl mid, eqb-refl r.moment.0)
    refl) in
    record {
      orderly = orderly;
      admission =
          subst (λ (es : List Event). HasAdmission (length rows) peer mid r.moment.0 es) (sym is)
          here;
    }

-- a row that does not fail it leaves it open
pub row-IsOpen : (rows : List Row) (r : Row) (place : ℕ) (peer : Peer) (mid moment : ℕ)
    → IsOrderly (events (r ∷ rows))
    → list_any (is_failure_of place) r.notes ≡ false
    → IsOpen place peer mid moment (events rows) → IsOpen place peer mid moment (events (r ∷ rows))
row-IsOpen rows r place peer mid moment orderly none h = record {
  orderly = orderly;
  admission =
      subst (λ (es : List Event). HasAdmission place peer mid moment es) (sym (events-row rows r))
      (HasAdmission-noted (length rows) place peer mid moment r.moment.0 r.step.word r.notes
      (events rows) none h.admission);
}

-- what does not end it does not fail it
no_failure : (place : ℕ) (notes : List Note)
    → list_any (is_ending_of place) notes ≡ false
    → list_any (is_failure_of place) notes ≡ false
no_failure place notes none = none_pass (is_ending_of place) (is_failure_of place) one notes none
  where
    one : (n : Note) → is_ending_of place n ≡ false → is_failure_of place n ≡ false
    one (note.Failed p) h = h
    one _ h = refl

-- the notes of a row that admits a write
pub admission_notes : (kind : StepKind) (rows : List Row) (moment : ℕ) (s : Step)
    (notes : List Note)
    → Touches kind rows moment s notes
    → list_any is_admitting notes ≡ true
    → (mid : ℕ) × (notes ≡ note.Admitted s.peer mid ∷ [])
admission_notes kind rows moment s notes (aside all) some =
    absurd (false≢true (sym (none_of is_aside is_admitting never notes all) ∙ some))
  where
    never : (n : Note) → is_aside n ≡ true → is_admitting n ≡ false
    never (note.Admitted peer mid) h = absurd (false≢true h)
    never _ h = refl
admission_notes kind rows moment s notes (admits m here read asks is none) some = (m.mid, is)
admission_notes kind rows moment s notes (ends place here all) some =
    absurd (false≢true (sym (none_of (ends_at place) is_admitting never notes all) ∙ some))
  where
    never : (n : Note) → ends_at place n ≡ true → is_admitting n ≡ false
    never (note.Admitted peer mid) h = absurd (false≢true h)
    never _ h = refl

-- the admission that a commit is of: its Message ID, what its row noted, and that it is open
pub record OpenAdmission (place : ℕ) (peer : Peer) (admission : Row) (rows : List Row) : Type 0
  where
    pub mid : ℕ
    pub noted : admission.notes ≡ note.Admitted peer mid ∷ []
    pub stands : IsOpen place peer mid admission.moment.0 (events rows)

-- the row of a place that admitted a write, where nothing ended that since
open_at : (rows : List Row) (place : ℕ) (admission : Row)
    → IsDeskJournal rows
    → row_at place rows ≡ Some admission
    → list_any is_admitting admission.notes ≡ true
    → has_event (is_ending_of place) (events rows) ≡ false
    → OpenAdmission place admission.step.peer admission rows
unfolding row_at
open_at [] place admission begun found some alive =
    absurd (let h : None ≡ Some admission = found in cc)
open_at (r ∷ before) place admission (made {rows} s starved journal may) found some alive =
    by (place == length before) refl found
    (λ there still. open_at before place admission journal there some still)
  where
    x : Row
    x = row before s starved

    orderly : IsOrderly (events (row before s starved ∷ before))
    orderly = journal-IsOrderly (row before s starved ∷ before) (made s starved journal may)

    left :
        (list_any (is_ending_of place) (row before s starved).notes ≡ false)
        × (has_event (is_ending_of place) (events before) ≡ false)
    left =
        none_noted (is_ending_of place) (length before) (row before s starved).moment.0
        (row before s starved).step.word (row before s starved).notes (events before)
        (ap (has_event (is_ending_of place)) (sym (events-row before (row before s starved)))
        ∙ alive)

    here : place ≡ length before
        → row before s starved ≡ admission
        → OpenAdmission place admission.step.peer admission (row before s starved ∷ before)
    here at same =
        let some_here : list_any is_admitting (row before s starved).notes ≡ true =
        subst (λ (y : Row). list_any is_admitting y.notes ≡ true) (sym same) some in
        let its =
        admission_notes s.kind before (row before s starved).moment.0 s
        (row before s starved).notes (row-Touches before s starved) some_here in
        let peer : s.peer ≡ (row before s starved).step.peer =
        ap (λ (t : Step). t.peer) (sym (row-step before s starved)) in
        let notes :
        (row before s starved).notes
        ≡ note.Admitted (row before s starved).step.peer its.0 ∷ [] =
        its.1 ∙ ap (λ (p : Peer). note.Admitted p its.0 ∷ []) peer in
        subst (λ n. OpenAdmission n admission.step.peer admission (row before s starved ∷ before))
        (sym at)
        (subst (λ (y : Row).
        OpenAdmission (length before) y.step.peer y (row before s starved ∷ before)) same
        (record {
          mid = its.0;
          noted = notes;
          stands = admitted-IsOpen before (row before s starved)
              (row before s starved).step.peer its.0 orderly notes;
        }))

    further : OpenAdmission place admission.step.peer admission before
        → OpenAdmission place admission.step.peer admission (row before s starved ∷ before)
    further it = record {
      mid = it.mid;
      noted = it.noted;
      stands =
          row-IsOpen before (row before s starved) place admission.step.peer it.mid
          admission.moment.0 orderly (no_failure place (row before s starved).notes left.0)
          it.stands;
    }

    by : (b : Bool)
        → (place == length before) ≡ b
        → cond b (Some (row before s starved)) (row_at place before) ≡ Some admission
        → (row_at place before ≡ Some admission
        → has_event (is_ending_of place) (events before) ≡ false
        → OpenAdmission place admission.step.peer admission before)
        → OpenAdmission place admission.step.peer admission (row before s starved ∷ before)
    by true at is more =
        here (eqb-true place (length before) at)
        (let same : row before s starved ≡ admission = cc in same)
    by false at is more = further (more is left.1)

-- so a commit that may be made is of an open admission, of its own peer
pub commit-IsOpen : (rows : List Row) (s : Step) (place : ℕ)
    → IsDeskJournal rows
    → (it : IsOpenFor s place rows)
    → OpenAdmission place s.peer it.admission rows
commit-IsOpen rows s place journal it =
    subst (λ (p : Peer). OpenAdmission place p it.admission rows) it.peer
    (open_at rows place it.admission journal it.found it.admits it.not_ended)

-- ---- what a row admits is its own

-- the row of a step that admits something notes this alone: the write of its peer, with the Message
-- ID of the request in its datagram
pub record OwnAdmission (r : Row) : Type 0 where
  pub message : Message
  pub read : reading r.step.datagram ≡ Ok message
  pub asks : role_of message.kind message.code ≡ role.Request
  pub noted : r.notes ≡ note.Admitted r.step.peer message.mid ∷ []

-- so does each row of a step
pub row-OwnAdmission : (rows : List Row) (s : Step) (starved : Bool)
    → list_any is_admitting (row rows s starved).notes ≡ true
    → OwnAdmission (row rows s starved)
unfolding row
row-OwnAdmission rows s starved some = by (row-Touches rows s starved)
  where
    never_aside : (n : Note) → is_aside n ≡ true → is_admitting n ≡ false
    never_aside (note.Admitted peer mid) h = absurd (false≢true h)
    never_aside _ h = refl

    never_ends : (place : ℕ) (n : Note) → ends_at place n ≡ true → is_admitting n ≡ false
    never_ends place (note.Admitted peer mid) h = absurd (false≢true h)
    never_ends place _ h = refl

    by : Touches s.kind rows (row rows s starved).moment.0 s (row rows s starved).notes
        → OwnAdmission (row rows s starved)
    by (aside all) =
        absurd (false≢true
        (sym (none_of is_aside is_admitting never_aside (row rows s starved).notes all)
        ∙ some))
    by (admits m here read asks is none) = record {
      message = m;
      read = read;
      asks = asks;
      noted = is;
    }
    by (ends place here all) =
        absurd (false≢true (sym (none_of (ends_at place) is_admitting (never_ends place)
        (row rows s starved).notes all)
        ∙ some))
