-- Nothing is invented: fetches start for simple registrations that answered their challenge, and
-- blocks came in datagrams of their peer.
use Rattle.std.proofs.Common.{
  ◌≡◌,
  ◌⊎◌,
  inl,
  inr,
  ℕ,
  ◌<◌,
  Bool,
  true,
  false,
  List,
  length,
  Option,
  Some,
  None,
  Ok,
  refl,
  sym,
  ap,
  subst,
  ◌∙◌,
  arith,
}
use Rattle.std.specs.List.{list_any}
use Rattle.std.proofs.lemmas.Bool.{false≢true, leb-false}
use Rattle.rd_base.specs.declared.peers.Peer.{Peer}
use Rattle.rd_base.specs.declared.parameters.RegParams.{RegParams}
use Rattle.rd_base.proofs.lemmas.Each.{none_pass}
use Rattle.message_model.specs.declared.requests.Path.TheVariants as path
use Rattle.message_model.specs.Message.{Message}
use Rattle.message_model.specs.Reading.{reading}
use Rattle.message_model.specs.Request.{path_in, queries_in, echo_in}
use Rattle.message_model.specs.RequestKey.{key_in}
use Rattle.record_model.specs.Parameters.{registration_values}
use Rattle.event_model.specs.declared.notes.Note.{Note}
use Rattle.event_model.specs.declared.notes.Note.TheVariants as note
use Rattle.event_model.specs.Repeats.{is_admission_of, is_admitting}
use Rattle.event_model.specs.Challenges.{is_good}
use Rattle.event_model.specs.Fetches.{max_fetches, fetches, is_fetching}
use Rattle.journal_model.specs.declared.steps.Step.{Step}
use Rattle.journal_model.specs.declared.steps.StepKind.TheVariants as step
use Rattle.journal_model.specs.declared.rows.Row.{Row}
use Rattle.journal_model.specs.Journal.{events}
use Rattle.journal_model.specs.Rows.{AreRows}
use Rattle.journal_model.specs.Requests.{sent_block}
use Rattle.journal_model.specs.Machine.{IsJournal}
use Rattle.journal_model.specs.DeskJournal.{IsDeskJournal}
use Rattle.journal_model.specs.Writes.{shows_address}
use Rattle.journal_model.specs.PlacedRows.{Within}
use Rattle.journal_model.specs.AdmittedWrites.{AdmittedAt}
use Rattle.journal_model.specs.AskedChanges.{IsCollected}
use Rattle.journal_model.proofs.entries.JournalLaws.{journal-AreRows, desk-AreRows, rows_up_to}
use Rattle.journal_model.proofs.entries.JournalLaws as made
use Rattle.journal_model.proofs.entries.CommitPlaces.{own_of, journal-place, desk-place}
use Rattle.journal_model.proofs.desks.OpenAdmissions.{OwnAdmission}
use Rattle.journal_model.proofs.datagrams.SentRows.{CommitsPlaced}
use Rattle.journal_model.proofs.sends.BodyAnswers.{same_message}
use Rattle.headline_law.specs.AnsweredChallenges.{ShowsAddress}
use Rattle.headline_law.specs.NothingInvented.{
  StartsFor,
  GoesOnWith,
  CameInWrite,
  NothingInvented,
}
use Rattle.headline_law.proofs.origins.AskedRequests.{request_of_row}
use Rattle.headline_law.proofs.origins.NoteOrigins.{
  AdmitsOwn,
  PieceOf,
  StartsHere,
  NoteOrigins,
  row_origins,
  origin_of,
}

-- ---- rows that admit a simple registration

-- a row that admits a write of a peer and a Message ID admits one
admits_one : (peer : Peer) (mid : ℕ) (notes : List Note)
    → list_any (is_admission_of peer mid) notes ≡ true
    → list_any is_admitting notes ≡ true
admits_one peer mid notes h = by (list_any is_admitting notes) refl
  where
    never : (n : Note) → is_admitting n ≡ false → is_admission_of peer mid n ≡ false
    never (note.Admitted p m) e = absurd (false≢true (sym e))
    never _ e = refl

    by : (b : Bool) → list_any is_admitting notes ≡ b → list_any is_admitting notes ≡ true
    by true e = e
    by false e =
        absurd (false≢true
        (sym (none_pass is_admitting (is_admission_of peer mid) never notes e) ∙ h))

-- the value of Echo by which an address is shown
record ShownBy (rows : List Row) (moment : ℕ) (peer : Peer) (m : Message) : Type 0 where
  value : List ℕ
  echo : echo_in m ≡ Some value
  good : is_good moment peer value (events rows) ≡ true

shown_value : (rows : List Row) (moment : ℕ) (peer : Peer) (m : Message)
    → shows_address (echo_in m) moment peer (events rows) ≡ true
    → ShownBy rows moment peer m
shown_value rows moment peer m h = by (echo_in m) refl h
  where
    by : (o : Option (List ℕ))
        → echo_in m ≡ o
        → shows_address o moment peer (events rows) ≡ true
        → ShownBy rows moment peer m
    by None e shows = absurd (false≢true shows)
    by (Some value) e shows = record { value = value; echo = e; good = shows }

-- the write that a commit is of shows the address of its peer, where it is a simple registration
pub admitted_shows : (rows : List Row) (place : ℕ) (s : Step)
    → AreRows rows
    → (it : AdmittedAt rows place s)
    → path_in it.message ≡ path.SimpleRd
    → ShowsAddress (record { row = it.row; before = it.before })
admitted_shows rows place s all it simple = record {
  heard = mine.heard;
  message = it.message;
  read = it.read;
  asks = it.asks;
  simple = simple;
  admitted = it.admitted;
  value = shown.value;
  echo = shown.echo;
  good = shown.good;
}
  where
    own : OwnAdmission it.row
    own =
        own_of rows it.before it.row all it.within
        (admits_one it.row.step.peer it.message.mid it.row.notes it.admitted)

    origins : NoteOrigins it.before it.row.moment.0 it.row.step it.row.notes
    origins = row_origins rows it.before it.row all it.within

    mine : AdmitsOwn it.before it.row.moment.0 it.row.step it.row.step.peer own.message.mid
    mine = (subst (NoteOrigins it.before it.row.moment.0 it.row.step) own.noted origins).0

    same : mine.message ≡ it.message
    same = same_message mine.message it.message it.row.step.datagram mine.read it.read

    shown : ShownBy it.before it.row.moment.0 it.row.step.peer it.message
    shown =
        shown_value it.before it.row.moment.0 it.row.step.peer it.message
        (subst (λ (m : Message).
        shows_address (echo_in m) it.row.moment.0 it.row.step.peer (events it.before) ≡ true) same
        (mine.shows (ap (λ (m : Message). path_in m) same ∙ simple)))

-- ---- what is noted

-- the rows before one of rows of steps
rows_before : (rows before : List Row) (r : Row)
    → AreRows rows
    → Within rows before r
    → AreRows before
rows_before rows before r all within =
    let it : made.RowMade before r = made.each_made rows before r all within in it.rows

-- the message of the datagram that a commit goes on with is that of its admission
same_as_admitted : (rows : List Row) (place : ℕ) (s : Step) (m : Message)
    → (it : AdmittedAt rows place s)
    → reading s.datagram ≡ Ok m
    → m ≡ it.message
same_as_admitted rows place s m it read =
    same_message m it.message it.row.step.datagram (ap reading it.datagram ∙ read) it.read

-- a fetch that starts
starts_for : (rows before : List Row) (r : Row) (peer : Peer) (token : List ℕ) (params : RegParams)
    (number : ℕ)
    → AreRows rows
    → CommitsPlaced rows
    → Within rows before r
    → StartsHere before r.step peer token params number
    → StartsFor before r peer token params
unfolding admitted_shows
starts_for rows before r peer token params number all placed within it =
    let adm : AdmittedAt before it.place r.step = placed before r it.place within it.commits in
    let same : it.message ≡ adm.message =
    same_as_admitted before it.place r.step it.message adm it.read in
    record {
      admission = record { row = adm.row; before = adm.before };
      within = adm.within;
      commits = it.commits ∙ ap (λ n. step.Commit n) (sym adm.place_is);
      shows =
          admitted_shows before it.place r.step (rows_before rows before r all within) adm
          (ap (λ (m : Message). path_in m) (sym same) ∙ it.simple);
      peer_is = it.peer_is ∙ sym adm.from_peer;
      params_are =
          it.params_are ∙ ap (λ (m : Message). registration_values (queries_in m)) same;
      token_is = it.token_is;
      none_runs =
          ap (λ (p : Peer). is_fetching p (events before)) it.peer_is ∙ it.none_runs;
      room = leb-false max_fetches (length (fetches (events before))) it.room;
    }

-- a block of an upload
came_in_write : (rows before : List Row) (r : Row) (peer : Peer) (key : List ℕ) (number : ℕ)
    (octets : List ℕ)
    → CommitsPlaced rows
    → Within rows before r
    → PieceOf before r.moment.0 r.step peer key number octets
    → CameInWrite before r peer key number octets
came_in_write rows before r peer key number octets placed within it =
    let adm : AdmittedAt before it.place r.step = placed before r it.place within it.commits in
    let same : it.message ≡ adm.message =
    same_as_admitted before it.place r.step it.message adm it.read in
    record {
      place = it.place;
      commits = it.commits;
      admitted = adm;
      peer_is = it.peer_is;
      key_is = it.key_is ∙ ap (λ (m : Message). key_in m) same;
      block = it.block;
      block_is = ap (λ (m : Message). sent_block m) (sym same) ∙ it.block_is;
      number_is = it.number_is;
      more = it.more;
      collected = it.collected;
      joins =
          subst (λ (m : Message).
          IsCollected (Some it.block) before r.moment.0 r.step m it.collected) same it.joins;
      octets_are = it.octets_are ∙ ap (λ (m : Message). m.payload) same;
    }

-- so it is in rows of steps, where each commit is of a row that admitted
pub rows-NothingInvented : (rows : List Row)
    → AreRows rows
    → CommitsPlaced rows
    → NothingInvented rows
rows-NothingInvented rows all placed = record {
  starts = λ before r peer token mid params within among.
      first before r peer token params within
      (origin_of rows before r (note.Asked peer token mid params 0) all within among);
  goes_on = λ before r peer token mid params number within among later.
      further before r peer token params number later
      (origin_of rows before r (note.Asked peer token mid params number) all within among);
  gathers = λ before r peer token mid params number within among later.
      (request_of_row rows before r peer token mid params number all within among).beside later;
  sends = λ before r peer token mid params number within among.
      (request_of_row rows before r peer token mid params number all within among).sends;
  uploaded = λ before r peer key number octets within among.
      came_in_write rows before r peer key number octets placed within
      (origin_of rows before r (note.Piece peer key number octets) all within among);
  gathered = λ before r peer octets tag within among.
      origin_of rows before r (note.Gathered peer octets tag) all within among;
}
  where
    first : (before : List Row) (r : Row) (peer : Peer) (token : List ℕ) (params : RegParams)
        → Within rows before r
        → StartsHere before r.step peer token params 0
        ⊎ GoesOnWith before r.step peer token params 0
        → StartsFor before r peer token params
    first before r peer token params within (inl it) =
        starts_for rows before r peer token params 0 all placed within it
    first before r peer token params within (inr it) =
        let next = it.next in absurd (omega (arith, next))

    further : (before : List Row) (r : Row) (peer : Peer) (token : List ℕ) (params : RegParams)
        (number : ℕ)
        → 0 < number
        → StartsHere before r.step peer token params number
        ⊎ GoesOnWith before r.step peer token params number
        → GoesOnWith before r.step peer token params number
    further before r peer token params number later (inl it) =
        let none = it.first in absurd (omega (arith, none, later))
    further before r peer token params number later (inr it) = it

-- in each journal of the machine
pub journal-NothingInvented : (rows : List Row) → IsJournal rows → NothingInvented rows
journal-NothingInvented rows journal =
    rows-NothingInvented rows (journal-AreRows rows journal)
    (λ before r place within commits. journal-place rows before r place journal within commits)

-- and in each journal of a desk
pub desk-NothingInvented : (rows : List Row) → IsDeskJournal rows → NothingInvented rows
desk-NothingInvented rows journal =
    rows-NothingInvented rows (desk-AreRows rows journal)
    (λ before r place within commits. desk-place rows before r place journal within commits)
