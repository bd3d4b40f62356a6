-- Rows of which each datagram is known: it can be read and fits; and what is noted as built is
-- sent. So it is in journals of desks.
use Rattle.std.proofs.Common.{◌≡◌, inl, inr, ℕ, suc, true, List, [], ◌∷◌, Option, sym, subst, arith}
use Rattle.std.specs.List.{IsAmong}
use Rattle.rd_base.specs.declared.peers.Peer.{Peer}
use Rattle.rd_base.proofs.lemmas.Among.{Among, all_at_index}
use Rattle.event_model.specs.declared.notes.Note.TheVariants as note
use Rattle.journal_model.specs.declared.steps.Step.{Step}
use Rattle.journal_model.specs.declared.steps.StepKind.{StepKind}
use Rattle.journal_model.specs.declared.steps.StepKind.TheVariants as step
use Rattle.journal_model.specs.declared.rows.Row.{Row}
use Rattle.journal_model.specs.DeskJournal.{IsDeskJournal}
use Rattle.journal_model.specs.PlacedRows.{Within}
use Rattle.journal_model.specs.SentDatagrams.{
  Datagram,
  IsFitting,
  is_response,
  IsAnswer,
  SendsFirst,
  AreForRequests,
}
use Rattle.journal_model.specs.CarriedBlocks.{is_content, Sent}
use Rattle.journal_model.proofs.EventRows.{row_within}
use Rattle.journal_model.proofs.entries.JournalLaws.{desk-AreRows}
use Rattle.journal_model.proofs.entries.CommitPlaces.{desk-place}
use Rattle.journal_model.proofs.observers.ObserversKnow.{IsNoTick}
use Rattle.journal_model.proofs.datagrams.OwnSends.{IsOwn}
use Rattle.journal_model.proofs.datagrams.NotedSends.{FirstSent, NoteFact}
use Rattle.journal_model.proofs.datagrams.TickedSends.{IsTicked}
use Rattle.journal_model.proofs.datagrams.SentRows.{IsSentBy, RowSent, AllSent, rows_sent}

-- ---- rows of which each datagram is known

-- what is one of a list has an index there
among_index : {X : Type 0} (x : X) (xs : List X) → Among x xs → IsAmong xs x
among_index x [] none = absurd none
among_index x (y ∷ ys) (inl same) = (0, (omega arith, sym same))
among_index x (y ∷ ys) (inr further) =
    let it = among_index x ys further in
    (suc it.0, (let low = it.1.0 in omega (arith, low), it.1.1))

-- a datagram of a row
pub sent_by : (rows before : List Row) (r : Row) (d : Peer × List ℕ)
    → AllSent rows
    → Within rows before r
    → IsAmong r.sent d
    → IsSentBy r.step.kind before r.step d
sent_by rows before r d all within among =
    all_at_index (IsSentBy r.step.kind before r.step) r.sent d among
    (row_within RowSent rows before r all.each within).sent

-- it can be read, and fits
fits_by : (kind : StepKind) (before : List Row) (s : Step) (d : Peer × List ℕ)
    → IsSentBy kind before s d
    → IsFitting d.1
fits_by step.Admit before s d h = h.fits
fits_by step.Look before s d h = h.fits
fits_by (step.Commit place) before s d h = h.fits
fits_by (step.Keep body current) before s d h = h.fits
fits_by step.Tick before s d h = h.fits
fits_by (step.Begin first) before s d h = absurd h

pub sent-fitting : (rows : List Row)
    → AllSent rows
    → (datagram : Datagram rows)
    → IsFitting datagram.octets
sent-fitting rows all it =
    fits_by it.here.row.step.kind it.here.before it.here.row.step (it.peer, it.octets)
    (sent_by rows it.here.before it.here.row (it.peer, it.octets) all it.within it.among)

-- a body that is noted as built is sent
pub sent-formed : (rows : List Row)
    → AllSent rows
    → (before : List Row) (r : Row) (peer : Peer) (token body : List ℕ) (mid : Option ℕ)
    → Within rows before r
    → IsAmong r.notes (note.Formed peer token body mid)
    → SendsFirst r peer token body
sent-formed rows all before r peer token body mid within among =
    let it : FirstSent r.sent peer token body =
    all_at_index (NoteFact r.step.kind r.step r.sent) r.notes (note.Formed peer token body mid)
    among (row_within RowSent rows before r all.each within).facts in
    record {
      octets = it.octets;
      among = among_index (peer, it.octets) r.sent it.among;
      message = it.message;
      read = it.read;
      token_is = it.token_is;
      carries = it.carries;
    }

-- a response of a row that is no tick answers the request of its step, or the write that it repeats
pub sent-answer : (rows : List Row)
    → AllSent rows
    → (it : Sent rows)
    → IsNoTick it.here.row.step.kind
    → is_response it.message ≡ true
    → IsAnswer it.here it.peer it.message
sent-answer rows all it no_tick responds =
    by it.here.row.step.kind no_tick
    (sent_by rows it.here.before it.here.row (it.peer, it.octets) all it.within it.among)
  where
    own : IsOwn it.here.before it.here.row.step (it.peer, it.octets)
        → IsAnswer it.here it.peer it.message
    own h = record { to = h.to; answers = h.answers it.message it.read responds }

    by : (k : StepKind)
        → IsNoTick k
        → IsSentBy k it.here.before it.here.row.step (it.peer, it.octets)
        → IsAnswer it.here it.peer it.message
    by step.Admit none h = own h
    by step.Look none h = own h
    by (step.Commit place) none h = own h
    by (step.Keep body current) none h = own h
    by step.Tick none h = absurd none
    by (step.Begin first) none h = absurd h

-- and one of a tick is a 2.05
pub sent-content : (rows : List Row)
    → AllSent rows
    → (it : Sent rows)
    → it.here.row.step.kind ≡ step.Tick
    → is_response it.message ≡ true
    → is_content it.message ≡ true
sent-content rows all it tick responds =
    let ticked : IsTicked (it.peer, it.octets) =
    subst (λ (k : StepKind). IsSentBy k it.here.before it.here.row.step (it.peer, it.octets)) tick
    (sent_by rows it.here.before it.here.row (it.peer, it.octets) all it.within it.among) in
    ticked.content it.message it.read responds

-- ---- journals of desks

-- what each row of a journal of a desk sends, where each look, commit and keep is made for a
-- request, and each keep has a tag of eight octets: so it can be read and fits, and what is noted
-- as built is sent
pub desk_sent : (rows : List Row) → IsDeskJournal rows → AreForRequests rows → AllSent rows
desk_sent rows journal requests =
    rows_sent rows (desk-AreRows rows journal)
    (λ before r place within commits. desk-place rows before r place journal within commits)
    requests
