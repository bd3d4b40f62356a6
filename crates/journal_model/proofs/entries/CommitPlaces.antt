-- A commit is of a row that admitted its own write, by the same worker and with the same datagram
-- of the same peer: in journals of the machine, and in those of desks.
use Rattle.std.proofs.Common.{
  ◌≡◌,
  ℕ,
  ◌==◌,
  Bool,
  true,
  false,
  cond,
  List,
  [],
  ◌∷◌,
  length,
  Option,
  Some,
  None,
  Ok,
  refl,
  sym,
  ap,
  subst,
  ◌∙◌,
  eqb-true,
}
use Rattle.std.specs.List.{list_any}
use Rattle.rd_base.proofs.lemmas.Numbers.{eqb-refl}
use Rattle.message_model.specs.Message.{Message}
use Rattle.message_model.specs.Reading.{reading}
use Rattle.event_model.specs.declared.notes.Note.{Note}
use Rattle.event_model.specs.declared.notes.Note.TheVariants as note
use Rattle.event_model.specs.Repeats.{is_admitting, is_admission_of}
use Rattle.event_model.proofs.SameLaws.{is_same_peer-refl}
use Rattle.journal_model.specs.declared.steps.Step.{Step}
use Rattle.journal_model.specs.declared.steps.StepKind.{StepKind}
use Rattle.journal_model.specs.declared.steps.StepKind.TheVariants as step
use Rattle.journal_model.specs.declared.rows.Row.{Row}
use Rattle.journal_model.specs.Rows.{row, AreRows}
use Rattle.journal_model.specs.DeskJournal.{IsOpenFor, CommitsOpen, IsDeskJournal}
use Rattle.journal_model.specs.Machine.{
  is_look_datagram,
  Job,
  write_job,
  keep_job,
  job_after,
  job_of,
  MayBegin,
  hears,
  goes,
  ticks,
  IsJournal,
  begins,
}
use Rattle.journal_model.specs.PlacedRows.{Within, Commits, admits}
use Rattle.journal_model.specs.AdmittedWrites.{AdmittedAt}
use Rattle.journal_model.proofs.EventRows.{within_more}
use Rattle.journal_model.proofs.entries.JournalLaws.{
  Made,
  each_row,
  RowMade,
  each_made,
  journal-AreRows,
  desk-AreRows,
}
use Rattle.journal_model.proofs.desks.OpenAdmissions.{
  OwnAdmission,
  row-OwnAdmission,
  OpenAdmission,
  commit-IsOpen,
}
use Rattle.event_model.specs.AdmissionOrder.{IsOpen}
use Rattle.message_model.proofs.MessageLaws.{ok_is}
use Rattle.journal_model.proofs.desks.CommitsOnce as desks
use Rattle.journal_model.specs.Looks.{held_after}
use Rattle.event_model.specs.KeptAnswers.{Answer}
use Rattle.journal_model.specs.Journal.{events, entries, row_at}

-- the row at a place admitted the write of a job of a worker
record JobFrom (rows : List Row) (worker place : ℕ) (job : Job) : Type 0 where
  before : List Row
  row : Row
  within : Within rows before row
  place_is : length before ≡ place
  admitted : list_any is_admitting row.notes ≡ true
  worker_is : row.step.worker ≡ worker
  from_peer : row.step.peer ≡ job.peer
  datagram : row.step.datagram ≡ job.datagram

-- with one row more
from_more : (r : Row) (rows : List Row) (worker place : ℕ) (job : Job)
    → JobFrom rows worker place job
    → JobFrom (r ∷ rows) worker place job
from_more r rows worker place job it = record {
  before = it.before;
  row = it.row;
  within = within_more r rows it.before it.row it.within;
  place_is = it.place_is;
  admitted = it.admitted;
  worker_is = it.worker_is;
  from_peer = it.from_peer;
  datagram = it.datagram;
}

-- the kind of a job, where there is one
abbrev kind_of : Option Job → StepKind
kind_of None = step.Tick
kind_of (Some j) = j.kind

-- an admission leaves the job of its own place
from_admission : (before : List Row) (r : Row) (place : ℕ) (notes : List Note) (job : Job)
    → r.notes ≡ notes
    → write_job notes r before ≡ Some job
    → job.kind ≡ step.Commit place
    → JobFrom (r ∷ before) r.step.worker place job
from_admission before r place (note.Admitted peer mid ∷ notes) job noted e commits =
    let kinds : step.Commit (length before) ≡ step.Commit place = ap kind_of e ∙ commits in
    let same :
    record
    { kind = step.Commit (length before); peer = r.step.peer; datagram = r.step.datagram }
    ≡ job =
    cc in
    record {
      before = before;
      row = r;
      within = record { later = []; whole = refl };
      place_is = cc;
      admitted = ap (list_any is_admitting) noted;
      worker_is = refl;
      from_peer = ap (λ (j : Job). j.peer) same;
      datagram = ap (λ (j : Job). j.datagram) same;
    }
from_admission before r place _ job noted e commits = absurd (let h : None ≡ Some job = e in cc)

-- a look leaves none
no_write : (held : Option Answer) (r : Row) (place : ℕ) (job : Job)
    → keep_job held r ≡ Some job
    → job.kind ≡ step.Commit place
    → ⊥
no_write None r place job e commits = absurd (let h : None ≡ Some job = e in cc)
no_write (Some found) r place job e commits =
    absurd
    (let h : step.Keep found.body found.tag ≡ step.Commit place = ap kind_of e ∙ commits in cc)

-- each job to commit a write is of a row that admitted it
job_from : (worker : ℕ) (rows : List Row) (place : ℕ) (job : Job)
    → job_of worker rows ≡ Some job
    → job.kind ≡ step.Commit place
    → JobFrom rows worker place job
unfolding job_of
job_from worker [] place job e commits = absurd (let h : None ≡ Some job = e in cc)
job_from worker (r ∷ before) place job e commits =
    by (r.step.worker == worker) refl e (λ h. job_from worker before place job h commits)
  where
    own : (kind : StepKind)
        → r.step.worker ≡ worker
        → job_after kind r before (job_of worker before) ≡ Some job
        → (job_of worker before ≡ Some job → JobFrom before worker place job)
        → JobFrom (r ∷ before) worker place job
    own step.Admit same h more =
        subst (λ w. JobFrom (r ∷ before) w place job) same
        (from_admission before r place r.notes job refl h commits)
    own step.Look same h more =
        absurd
        (no_write (held_after r.starved (entries before) r.moment.0 (reading r.step.datagram)) r
        place job h commits)
    own (step.Commit q) same h more = absurd (let no : None ≡ Some job = h in cc)
    own (step.Keep body tag) same h more = absurd (let no : None ≡ Some job = h in cc)
    own step.Tick same h more = from_more r before worker place job (more h)
    own (step.Begin first) same h more = from_more r before worker place job (more h)

    by : (b : Bool)
        → (r.step.worker == worker) ≡ b
        → cond b (job_after r.step.kind r before (job_of worker before)) (job_of worker before)
        ≡ Some job
        → (job_of worker before ≡ Some job → JobFrom before worker place job)
        → JobFrom (r ∷ before) worker place job
    by true same h more = own r.step.kind (eqb-true r.step.worker worker same) h more
    by false other h more = from_more r before worker place job (more h)

-- what a row of a step admits is its own
pub own_of : (rows before : List Row) (r : Row)
    → AreRows rows
    → Within rows before r
    → list_any is_admitting r.notes ≡ true
    → OwnAdmission r
own_of rows before r all within some =
    let it : RowMade before r = each_made rows before r all within in
    subst OwnAdmission (sym it.is) (row-OwnAdmission before it.step it.starved
    (subst (λ (x : Row). list_any is_admitting x.notes ≡ true) it.is some))

-- it has the peer of the row and the Message ID of its message
own_admits : (r : Row) (own : OwnAdmission r) → admits r.step.peer own.message.mid r ≡ true
own_admits r own =
    ap (list_any (is_admission_of r.step.peer own.message.mid)) own.noted
    ∙ rw (is_same_peer-refl r.step.peer, eqb-refl own.message.mid) refl

-- so is each commit that may be made
begun_admitted : (rows : List Row) (s : Step) (place : ℕ)
    → AreRows rows
    → MayBegin rows s
    → s.kind ≡ step.Commit place
    → AdmittedAt rows place s
begun_admitted rows s place all (hears none heard) e =
    absurd (by (is_look_datagram s.datagram) (sym heard ∙ e))
  where
    by : (b : Bool) → cond b step.Look step.Admit ≡ step.Commit place → ⊥
    by true h = let no : step.Look ≡ step.Commit place = h in absurd cc
    by false h = let no : step.Admit ≡ step.Commit place = h in absurd cc
begun_admitted rows s place all (goes holds) e =
    let it : JobFrom rows s.worker place
    (record { kind = s.kind; peer = s.peer; datagram = s.datagram }) =
    job_from s.worker rows place
    (record { kind = s.kind; peer = s.peer; datagram = s.datagram }) holds e in
    let own : OwnAdmission it.row = own_of rows it.before it.row all it.within it.admitted in
    record {
      before = it.before;
      row = it.row;
      within = it.within;
      place_is = it.place_is;
      message = own.message;
      read = own.read;
      asks = own.asks;
      admitted = own_admits it.row own;
      worker = it.worker_is;
      from_peer = it.from_peer;
      datagram = it.datagram;
    }
begun_admitted rows s place all (ticks tick) e =
    absurd (let h : step.Tick ≡ step.Commit place = sym tick ∙ e in cc)
begun_admitted rows s place all (begins {first = first} begin) e =
    absurd (let h : step.Begin first ≡ step.Commit place = sym begin ∙ e in cc)

-- in each journal of the machine
pub journal-place : (rows before : List Row) (r : Row) (place : ℕ)
    → IsJournal rows
    → Within rows before r
    → Commits r place
    → AdmittedAt before place r.step
unfolding row
journal-place rows before r place journal within commits =
    let it : Made before r = each_row rows before r journal within in
    subst (λ (x : Row). AdmittedAt before place x.step) (sym it.is)
    (begun_admitted before it.step place (journal-AreRows before it.journal) it.may.begin
    (ap (λ (x : Row). x.step.kind) (sym it.is) ∙ commits))

-- ---- journals of desks

-- the row at a place stands among the rows, after so many
pub record AtPlace (rows : List Row) (place : ℕ) (r : Row) : Type 0 where
  pub before : List Row
  pub within : Within rows before r
  pub place_is : length before ≡ place

pub at_place : (place : ℕ) (rows : List Row) (r : Row)
    → row_at place rows ≡ Some r
    → AtPlace rows place r
unfolding row_at
at_place place [] r found = absurd (let h : None ≡ Some r = found in cc)
at_place place (x ∷ rest) r found =
    by (place == length rest) refl found (λ h. at_place place rest r h)
  where
    by : (b : Bool)
        → (place == length rest) ≡ b
        → cond b (Some x) (row_at place rest) ≡ Some r
        → (row_at place rest ≡ Some r → AtPlace rest place r)
        → AtPlace (x ∷ rest) place r
    by true at is more =
        let same : x ≡ r = cc in
        record {
          before = rest;
          within = record { later = []; whole = ap (λ (y : Row). y ∷ rest) same };
          place_is = sym (eqb-true place (length rest) at);
        }
    by false at is more =
        let it : AtPlace rest place r = more is in
        record {
          before = it.before;
          within = within_more x rest it.before r it.within;
          place_is = it.place_is;
        }

-- a commit of an open admission is of a row that admitted its own write
open_admitted : (rows : List Row) (s : Step) (place : ℕ)
    → AreRows rows
    → IsOpenFor s place rows
    → AdmittedAt rows place s
open_admitted rows s place all it =
    let at : AtPlace rows place it.admission = at_place place rows it.admission it.found in
    let own : OwnAdmission it.admission =
    own_of rows at.before it.admission all at.within it.admits in
    record {
      before = at.before;
      row = it.admission;
      within = at.within;
      place_is = at.place_is;
      message = own.message;
      read = own.read;
      asks = own.asks;
      admitted = own_admits it.admission own;
      worker = it.worker;
      from_peer = it.peer;
      datagram = it.datagram;
    }

-- in each journal of a desk
pub desk-place : (rows before : List Row) (r : Row) (place : ℕ)
    → IsDeskJournal rows
    → Within rows before r
    → Commits r place
    → AdmittedAt before place r.step
unfolding row
desk-place rows before r place journal within commits =
    let it : desks.Made before r = desks.each_row rows before r journal within in
    let kind : it.step.kind ≡ step.Commit place =
    ap (λ (x : Row). x.step.kind) (sym it.is) ∙ commits in
    subst (λ (x : Row). AdmittedAt before place x.step) (sym it.is)
    (open_admitted before it.step place (desk-AreRows before it.journal)
    (subst (CommitsOpen before it.step) kind it.may.commits))

-- what a commit is of, as a table of exchanges asks: its admission stands, with the peer of the
-- step and the Message ID of the message in its datagram An end theorem: nothing here cites it.
pub commit-opens : (rows : List Row) (s : Step) (place : ℕ) (m : Message)
    → IsDeskJournal rows
    → (it : IsOpenFor s place rows)
    → reading s.datagram ≡ Ok m
    → IsOpen place s.peer m.mid it.admission.moment.0 (events rows)
commit-opens rows s place m journal it read =
    let opened : OpenAdmission place s.peer it.admission rows =
    commit-IsOpen rows s place journal it in
    let at : AtPlace rows place it.admission = at_place place rows it.admission it.found in
    let own : OwnAdmission it.admission =
    own_of rows at.before it.admission (desk-AreRows rows journal) at.within it.admits in
    let mids : opened.mid ≡ own.message.mid = ap first_mid (sym opened.noted ∙ own.noted) in
    let same : own.message ≡ m =
    ok_is own.message m (sym own.read ∙ (ap reading it.datagram ∙ read)) in
    subst (λ mid. IsOpen place s.peer mid it.admission.moment.0 (events rows))
    (mids ∙ ap (λ (x : Message). x.mid) same) opened.stands
  where
    first_mid : List Note → ℕ
    first_mid (note.Admitted peer mid ∷ notes) = mid
    first_mid _ = 0
