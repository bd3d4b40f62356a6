-- 2.03 is sent exactly where a look names the tag at its own row.
use Rattle.std.proofs.Common.{
  ◌≡◌,
  ℕ,
  ◌==◌,
  ◌&&◌,
  Bool,
  true,
  false,
  cond,
  List,
  [],
  ◌∷◌,
  length,
  Some,
  None,
  Result,
  Ok,
  Err,
  refl,
  sym,
  ap,
  subst,
  ◌∙◌,
}
use Rattle.std.specs.Prelude.{is_some}
use Rattle.std.specs.List.{AllByRecursion}
use Rattle.std.proofs.lemmas.Bool.{false≢true}
use Rattle.std.proofs.lemmas.Option.{same_Some}
use Rattle.rd_base.specs.declared.peers.Peer.{Peer}
use Rattle.message_model.specs.declared.messages.Role.{Role}
use Rattle.message_model.specs.declared.messages.Role.TheVariants as role
use Rattle.message_model.specs.declared.messages.Unread.{Unread}
use Rattle.message_model.specs.Codes as codes_of
use Rattle.message_model.specs.Message.{Message, role_of}
use Rattle.message_model.specs.Reading.{reading}
use Rattle.event_model.specs.declared.notes.Note.{Note}
use Rattle.event_model.specs.declared.notes.Note.TheVariants as note
use Rattle.event_model.specs.Events.{Event}
use Rattle.event_model.specs.Repeats.{answer_noted, settled}
use Rattle.event_model.specs.Fetches.{is_request_to, request_noted}
use Rattle.journal_model.specs.declared.steps.Step.{Step}
use Rattle.journal_model.specs.declared.steps.StepKind.{StepKind}
use Rattle.journal_model.specs.declared.steps.StepKind.TheVariants as step
use Rattle.journal_model.specs.declared.rows.Row.{Row}
use Rattle.journal_model.specs.Journal.{is_look, events, entries, row_at}
use Rattle.journal_model.specs.Requests.{is_look_request}
use Rattle.journal_model.specs.Looks.{looked}
use Rattle.journal_model.specs.Rows.{effects, row_moment, row, AreRows, empty, added}
use Rattle.journal_model.specs.Machine.{
  is_look_message,
  is_look_reading,
  is_look_datagram,
  MayMake,
  IsJournal,
  begun,
  made,
}
use Rattle.journal_model.specs.PlacedRows.{Within, code_sent}
use Rattle.journal_model.specs.CarriedBlocks.{looks_with_tag}
use Rattle.journal_model.proofs.entries.JournalLaws.{Made, each_row, journal-AreRows}
use Rattle.journal_model.proofs.Jobs.{heard_as_hearing, heard_no_look, heard_a_look}
use Rattle.journal_model.proofs.sends.PlainSteps.{IsPlain, ArePlain, SettledPlain}
use Rattle.journal_model.proofs.sends.ValidSends.{NoneValid, NoConfirmableValid, look_valid}
use Rattle.journal_model.proofs.EventRows.{AllRows, RowOf, row_of, row_within, said_by}
use Rattle.journal_model.proofs.sends.TickSends.{AskedPlain}
use Rattle.headline_law.proofs.sends.RowSends.{NoteFact, Before, StepSends, effects_send}
use Rattle.headline_law.proofs.sends.RowSends.{step_facts}
use Rattle.rd_base.proofs.lemmas.Among.{all_among}

-- ---- all rows of a journal

-- what each row sends
abbrev pub RowSends : List Row → Row → Type 0
RowSends before r = StepSends r.step.kind r.sent r.notes

-- no row at a place sends a confirmable 2.03
no_confirmable_valid_in : (rows : List Row) (place : ℕ) (r : Row)
    → AllRows RowSends rows
    → row_at place rows ≡ Some r
    → NoConfirmableValid r.sent
unfolding row_at
no_confirmable_valid_in [] place r all at = absurd (let no : None ≡ Some r = at in cc)
no_confirmable_valid_in (x ∷ before) place r all at =
    by (place == length before) at (λ h. no_confirmable_valid_in before place r all.1 h)
  where
    by : (b : Bool)
        → cond b (Some x) (row_at place before) ≡ Some r
        → (row_at place before ≡ Some r → NoConfirmableValid r.sent)
        → NoConfirmableValid r.sent
    by true h more =
        subst (λ (y : Row). NoConfirmableValid y.sent) (same_Some x r h) all.0.confirmables
    by false h more = more h

-- what the notes of each row say of what it sends
abbrev pub RowFacts : List Row → Row → Type 0
RowFacts before r = AllByRecursion (NoteFact r.sent) r.notes

-- so it is of all rows of steps
pub rows_facts : (rows : List Row) → AreRows rows → AllRows RowFacts rows
unfolding row
rows_facts [] empty = tt
rows_facts (r ∷ before) (added {rows} s starved rest) =
    (step_facts s.kind starved before (row_moment before s) s, rows_facts before rest)

-- what a note says where it stands among the notes of the last row of its kind
noted_fact : (rows : List Row) → AllRows RowFacts rows → (test : Note → Bool) (e : Event)
    → (it : RowOf test rows e) → NoteFact it.placed.row.sent e.note
noted_fact rows all test e it =
    all_among (NoteFact it.placed.row.sent) e.note it.placed.row.notes
    (row_within RowFacts rows it.placed.before it.placed.row all it.within) it.note

-- what is settled is plain
pub settled_plain : (rows : List Row) → AllRows RowFacts rows → SettledPlain (events rows)
unfolding settled
settled_plain rows all place octets said =
    let found = said_by (answer_noted place) (events rows) octets said in
    let it = row_of (λ n. is_some (answer_noted place n)) rows found.0 found.1 in
    settles it.placed.row.sent found.0.note
    (noted_fact rows all (λ n. is_some (answer_noted place n)) found.0 it) found.2
  where
    settles : (sent : List (Peer × List ℕ)) (n : Note) → NoteFact sent n
        → answer_noted place n ≡ Some octets → IsPlain octets
    settles sent (note.Settled p reply) h answers = by (p == place) answers
      where
        by : (b : Bool) → cond b (Some reply) None ≡ Some octets → IsPlain octets
        by true e = subst IsPlain (same_Some reply octets e) h
        by false e = absurd (let no : None ≡ Some octets = e in cc)
    settles sent _ h answers = absurd (let no : None ≡ Some octets = answers in cc)

-- and so is what a fetch asks
pub asked_plain : (rows : List Row) → AllRows RowFacts rows → AskedPlain rows
asked_plain rows all peer e request r last noted at =
    let it = row_of (is_request_to peer) rows e last in
    let same : it.placed.row ≡ r = same_Some it.placed.row r (sym it.at_place ∙ at) in
    subst (λ (x : Row). ArePlain x.sent) same
    (asks it.placed.row.sent e.note (noted_fact rows all (is_request_to peer) e it) noted)
  where
    asks : (sent : List (Peer × List ℕ)) (n : Note) → NoteFact sent n
        → request_noted n ≡ Some request → ArePlain sent
    asks sent (note.Asked to token mid params number) h is_request = h
    asks sent _ h is_request = absurd (let no : None ≡ Some request = is_request in cc)

-- what is known of all rows of a journal is known of those that are looked back at
before_all : (rows : List Row) → IsJournal rows → AllRows RowSends rows → Before rows
before_all rows journal all =
    let facts : AllRows RowFacts rows = rows_facts rows (journal-AreRows rows journal) in
    record {
      settled = settled_plain rows facts;
      asked = asked_plain rows facts;
      confirmables = λ place r at. no_confirmable_valid_in rows place r all at;
    }

-- a datagram that is admitted is no look
admitted_no_look : (rows : List Row) (s : Step)
    → MayMake rows s
    → s.kind ≡ step.Admit
    → is_look_reading (reading s.datagram) ≡ false
unfolding is_look_datagram
admitted_no_look rows s may admits =
    heard_no_look s.datagram (sym admits ∙ heard_as_hearing rows s may.begin (rw admits refl))

-- and one that is looked at is one
pub looked_a_look : (rows : List Row) (s : Step)
    → MayMake rows s
    → s.kind ≡ step.Look
    → is_look_reading (reading s.datagram) ≡ true
unfolding is_look_datagram
looked_a_look rows s may looks =
    heard_a_look s.datagram (sym looks ∙ heard_as_hearing rows s may.begin (rw looks refl))

-- so it is of all rows of a journal
pub journal_sends : (rows : List Row) → IsJournal rows → AllRows RowSends rows
unfolding row
journal_sends [] begun = tt
journal_sends (r ∷ before) (made {rows} {s} starved journal may) =
    let all : AllRows RowSends before = journal_sends before journal in (
      effects_send s.kind starved before (row_moment before s) s (before_all before journal all)
          (admitted_no_look before s may),
      all,
    )

-- ---- the law

-- the request of a look
pub record LooksAt (read : Result Message Unread) : Type 0 where
  pub message : Message
  pub read_is : read ≡ Ok message
  pub looks : is_look_request message ≡ true
  pub asks : role_of message.kind message.code ≡ role.Request

-- there is one where the datagram is that of a look
pub a_look_reads : (read : Result Message Unread) → is_look_reading read ≡ true → LooksAt read
a_look_reads (Err fault) h = absurd (false≢true h)
a_look_reads (Ok m) h = by (role_of m.kind m.code) refl h
  where
    by : (r : Role) → role_of m.kind m.code ≡ r → is_look_message r m ≡ true → LooksAt (Ok m)
    by role.Request is e = record { message = m; read_is = refl; looks = e; asks = is }
    by role.Ping is e = absurd (false≢true e)
    by role.Acknowledgement is e = absurd (false≢true e)
    by role.Reset is e = absurd (false≢true e)
    by role.Response is e = absurd (false≢true e)
    by role.Ignored is e = absurd (false≢true e)

-- what a look sends first is 2.03 exactly where it names the tag
look_is_valid : (rows : List Row) (moment : ℕ) (s : Step)
    → is_look_reading (reading s.datagram) ≡ true
    → (code_sent (looked false (entries rows) moment s (reading s.datagram)).sent == codes_of.valid)
    ≡ looks_with_tag (entries rows) moment (reading s.datagram)
look_is_valid rows moment s h =
    let it = a_look_reads (reading s.datagram) h in
    rw it.read_is (look_valid (entries rows) moment s it.message ∙ rw it.looks refl)

-- no message is sent that is 2.03, so the first is not
first_not_valid : (sent : List (Peer × List ℕ))
    → NoneValid sent
    → (code_sent sent == codes_of.valid) ≡ false
first_not_valid [] h = refl
first_not_valid (d ∷ sent) h = h.0

-- in each row of a journal
row_is_valid : (rows : List Row) (s : Step) → MayMake rows s → RowSends rows (row rows s false)
    → (code_sent (row rows s false).sent == codes_of.valid)
    ≡ (is_look s.kind
    && looks_with_tag (entries rows) (row rows s false).moment.0 (reading s.datagram))
unfolding row effects
row_is_valid rows s may sends = by s.kind refl sends.others
  where
    by : (kind : StepKind)
        → s.kind ≡ kind
        → (is_look kind ≡ false → NoneValid (effects kind false rows (row_moment rows s) s).sent)
        → (code_sent (effects kind false rows (row_moment rows s) s).sent == codes_of.valid)
        ≡ (is_look kind
        && looks_with_tag (entries rows) (row_moment rows s) (reading s.datagram))
    by step.Admit is others = first_not_valid _ (others refl)
    by step.Look is others = look_is_valid rows (row_moment rows s) s (looked_a_look rows s may is)
    by (step.Commit place) is others = first_not_valid _ (others refl)
    by (step.Keep body current) is others = first_not_valid _ (others refl)
    by step.Tick is others = first_not_valid _ (others refl)
    by (step.Begin first) is others = first_not_valid _ (others refl)

-- 2.03 is sent exactly where a look names the tag at its own row
pub looks_are_validated : (rows before : List Row) (r : Row)
    → IsJournal rows
    → Within rows before r
    → r.starved ≡ false
    → (code_sent r.sent == codes_of.valid)
    ≡ (is_look r.step.kind
    && looks_with_tag (entries before) r.moment.0 (reading r.step.datagram))
unfolding row
looks_are_validated rows before r journal within fed =
    let it : Made before r = each_row rows before r journal within in
    let sends : RowSends before r =
    row_within RowSends rows before r (journal_sends rows journal) within in
    let enough : it.starved ≡ false = sym (ap (λ (x : Row). x.starved) it.is) ∙ fed in
    let is : r ≡ row before it.step false = it.is ∙ ap (row before it.step) enough in
    subst (λ (x : Row).
    (code_sent x.sent == codes_of.valid)
    ≡ (is_look x.step.kind
    && looks_with_tag (entries before) x.moment.0 (reading x.step.datagram)))
    (sym is)
    (row_is_valid before it.step it.may (subst (RowSends before) is sends))
