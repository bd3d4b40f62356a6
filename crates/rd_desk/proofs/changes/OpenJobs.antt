-- The job of a write is of an open admission, as a desk knows it that may make the step. For the
-- desk above: nothing here cites this.
use Rattle.std.proofs.Common.{
  ◌≡◌,
  ℕ,
  ◌==◌,
  Bool,
  true,
  false,
  cond,
  List,
  [],
  ◌∷◌,
  length,
  Some,
  None,
  Result,
  Ok,
  sym,
  ap,
  subst,
  ◌∙◌,
}
use Rattle.std.specs.List.{list_any}
use Rattle.rd_base.specs.declared.peers.Peer.{Peer}
use Rattle.message_model.specs.declared.messages.Unread.{Unread}
use Rattle.message_model.specs.Message.{Message}
use Rattle.message_model.specs.Reading.{reading}
use Rattle.event_model.specs.declared.notes.Note.{Note}
use Rattle.event_model.specs.declared.notes.Note.TheVariants as note
use Rattle.event_model.specs.AdmissionOrder.{IsOpen}
use Rattle.event_model.specs.Repeats.{is_admitting}
use Rattle.journal_model.specs.declared.steps.Step.{Step}
use Rattle.journal_model.specs.declared.rows.Row.{Row}
use Rattle.journal_model.specs.DeskJournal.{IsOpenFor, IsDeskJournal, begun, made}
use Rattle.journal_model.specs.Journal.{events, row_at}
use Rattle.journal_model.specs.Rows.{row}
use Rattle.journal_model.proofs.desks.OpenAdmissions.{
  OpenAdmission,
  OwnAdmission,
  commit-IsOpen,
  row-OwnAdmission,
}

-- a row of a journal of a desk that admitted something admitted the write of its own datagram
own_at : (rows : List Row) (place : ℕ) (admission : Row)
    → IsDeskJournal rows
    → row_at place rows ≡ Some admission
    → list_any is_admitting admission.notes ≡ true
    → OwnAdmission admission
unfolding row_at
own_at [] place admission begun found some = absurd (let h : None ≡ Some admission = found in cc)
own_at (r ∷ before) place admission (made {rows} s starved journal may) found some =
    by (place == length before) found (λ there. own_at before place admission journal there some)
  where
    here : row before s starved ≡ admission → OwnAdmission admission
    here same =
        subst OwnAdmission same (row-OwnAdmission before s starved
        (subst (λ (y : Row). list_any is_admitting y.notes ≡ true) (sym same) some))

    by : (b : Bool)
        → cond b (Some (row before s starved)) (row_at place before) ≡ Some admission
        → (row_at place before ≡ Some admission → OwnAdmission admission)
        → OwnAdmission admission
    by true is more = here (let same : row before s starved ≡ admission = cc in same)
    by false is more = more is

-- two admissions that are one note have one Message ID, and what is read of a datagram is one
-- message
one_mid : (one other : Peer) (n k : ℕ) (notes : List Note)
    → notes ≡ note.Admitted one n ∷ []
    → notes ≡ note.Admitted other k ∷ []
    → n ≡ k
one_mid one other n k notes is was =
    let both : ◌≡◌ {A = List Note} (note.Admitted one n ∷ []) (note.Admitted other k ∷ []) =
    sym is ∙ was in
    cc

one_message : (r : Result Message Unread) (one other : Message)
    → r ≡ Ok one
    → r ≡ Ok other
    → one ≡ other
one_message r one other is was =
    let both : ◌≡◌ {A = Result Message Unread} (Ok one) (Ok other) = sym is ∙ was in cc

-- a commit that a desk may make is of a write that is open, under the Message ID of its datagram,
-- since the moment of the row that admitted it
pub job-IsOpen : (rows : List Row) (s : Step) (place : ℕ) (m : Message) (admitted : ℕ)
    → IsDeskJournal rows
    → (it : IsOpenFor s place rows)
    → it.admission.moment.0 ≡ admitted
    → reading s.datagram ≡ Ok m
    → IsOpen place s.peer m.mid admitted (events rows)
job-IsOpen rows s place m admitted journal it since read =
    let opened : OpenAdmission place s.peer it.admission rows =
    commit-IsOpen rows s place journal it in
    let own : OwnAdmission it.admission =
    own_at rows place it.admission journal it.found it.admits in
    let one : own.message ≡ m =
    one_message (reading s.datagram) own.message m (ap reading (sym it.datagram) ∙ own.read)
    read in
    let mid : opened.mid ≡ own.message.mid =
    one_mid s.peer it.admission.step.peer opened.mid own.message.mid it.admission.notes
    opened.noted own.noted in
    subst (λ (at : ℕ). IsOpen place s.peer m.mid at (events rows)) since
    (subst (λ (n : ℕ). IsOpen place s.peer n it.admission.moment.0 (events rows))
    (mid ∙ ap (λ (x : Message). x.mid) one) opened.stands)
