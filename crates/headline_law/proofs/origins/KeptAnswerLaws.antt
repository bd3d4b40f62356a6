-- A further block is read only of a kept answer that is young, and among those that were used last.
use Rattle.std.proofs.Common.{
  ◌≡◌,
  ℕ,
  ◌+◌,
  ◌<◌,
  ◌&&◌,
  ◌||◌,
  Bool,
  true,
  false,
  cond,
  List,
  [],
  ◌∷◌,
  length,
  take,
  nat_lt,
  Option,
  Some,
  None,
  Result,
  Ok,
  refl,
  sym,
  ap,
  subst,
  ◌∙◌,
}
use Rattle.std.specs.Prelude.{option_and_then, is_some}
use Rattle.std.specs.List.{list_any, IsAmong}
use Rattle.std.proofs.lemmas.Bool.{and_parts, false≢true, ltb-true}
use Rattle.rd_base.specs.declared.peers.Peer.{Peer}
use Rattle.rd_base.proofs.lemmas.Among.{all_at_index}
use Rattle.rd_base.proofs.lemmas.Each.{each_failing}
use Rattle.message_model.specs.declared.messages.Role.{Role}
use Rattle.message_model.specs.declared.messages.Role.TheVariants as role
use Rattle.message_model.specs.declared.messages.Unread.{Unread}
use Rattle.message_model.specs.Message.{Message, role_of}
use Rattle.message_model.specs.Reading.{reading}
use Rattle.event_model.specs.declared.notes.Note.{Note}
use Rattle.event_model.specs.declared.notes.Note.TheVariants as note
use Rattle.event_model.specs.Same.{RequestName}
use Rattle.event_model.specs.Events.{Event, last_event, last_said, noted, is_young}
use Rattle.event_model.specs.KeptAnswers.{
  Answer,
  max_answers,
  answer_kept,
  is_use_of,
  is_named_among,
  names_used,
  is_live_answer,
  kept_answer,
}
use Rattle.event_model.proofs.NotedLaws.{event_at, last_event-before}
use Rattle.journal_model.specs.declared.steps.Step.{Step}
use Rattle.journal_model.specs.declared.steps.StepKind.{StepKind}
use Rattle.journal_model.specs.declared.steps.StepKind.TheVariants as step
use Rattle.journal_model.specs.declared.rows.Row.{Row}
use Rattle.journal_model.specs.Journal.{events}
use Rattle.journal_model.specs.Effects.{answering}
use Rattle.journal_model.specs.EmptyMessages.{acknowledged, reset}
use Rattle.journal_model.specs.Responses.{response_effects}
use Rattle.journal_model.specs.Rows.{
  message_effects,
  heard,
  effects,
  row_moment,
  row,
  AreRows,
}
use Rattle.journal_model.specs.Machine.{IsJournal}
use Rattle.journal_model.specs.DeskJournal.{IsDeskJournal}
use Rattle.journal_model.specs.PlacedRows.{Within, Placed, last_row}
use Rattle.journal_model.proofs.EventRows.{said_by}
use Rattle.journal_model.proofs.RowEquations.{row-step}
use Rattle.journal_model.proofs.NoteKinds.{of_empty, of_response, none_of}
use Rattle.journal_model.proofs.StepNotes.{acknowledged-notes, reset-notes}
use Rattle.journal_model.proofs.notes.ChangeNotes.{response_effects-notes}
use Rattle.journal_model.proofs.entries.JournalLaws.{
  RowMade,
  each_made,
  journal-AreRows,
  desk-AreRows,
}
use Rattle.headline_law.specs.KeptAnswers.{CanBeRead, KeptAnswers}
use Rattle.headline_law.proofs.origins.NoteOrigins.{ReadsKept, origin_of}

-- ---- the moment of the last event of a kind is that of its row

-- where a row notes something of a kind, the last event of the kind has its moment
noted_moment : (test : Note → Bool) (place moment word : ℕ) (notes : List Note)
    (before : List Event) (e : Event)
    → list_any test notes ≡ true
    → last_event test (noted place moment word notes before) ≡ Some e
    → e.moment ≡ moment
noted_moment test place moment word [] before e some found = absurd (false≢true some)
noted_moment test place moment word (n ∷ notes) before e some found =
    by (list_any test notes) refl (λ more.
    noted_moment test place moment word notes (event_at place moment word n ∷ before) e more found)
  where
    here : (b : Bool)
        → test n ≡ b
        → list_any test notes ≡ false
        → (b || false) ≡ true
        → e.moment ≡ moment
    here true good none h =
        let first : Some (event_at place moment word n) ≡ Some e =
        sym (rw good refl)
        ∙ sym (last_event-before test place moment word notes
        (event_at place moment word n ∷ before) none)
        ∙ found in
        let same : event_at place moment word n ≡ e = cc in
        ap (λ (x : Event). x.moment) (sym same)
    here false bad none h = absurd (false≢true h)

    by : (b : Bool)
        → list_any test notes ≡ b
        → (list_any test notes ≡ true → e.moment ≡ moment)
        → e.moment ≡ moment
    by true more later = later more
    by false none later =
        here (test n) refl none (subst (λ b. (test n || b) ≡ true) none some)

-- the last row that notes something of a kind, with the moment of the last event of the kind
record LastRow (test : Note → Bool) (rows : List Row) (e : Event) : Type 0 where
  placed : Placed
  last : last_row (λ r. list_any test r.notes) rows ≡ Some placed
  moment : e.moment ≡ placed.row.moment.0

last_of : (test : Note → Bool) (rows : List Row) (e : Event)
    → last_event test (events rows) ≡ Some e
    → LastRow test rows e
unfolding events last_row
last_of test [] e found = absurd (let no : None ≡ Some e = found in cc)
last_of test (r ∷ before) e found = by (list_any test r.notes) refl (λ h. last_of test before e h)
  where
    by : (b : Bool)
        → list_any test r.notes ≡ b
        → (last_event test (events before) ≡ Some e → LastRow test before e)
        → LastRow test (r ∷ before) e
    by true some more = record {
      placed = record { row = r; before = before };
      last = rw some refl;
      moment =
          noted_moment test (length before) r.moment.0 r.step.word r.notes (events before) e some
          found;
    }
    by false none more =
        let it : LastRow test before e =
        more (sym (last_event-before test (length before) r.moment.0 r.step.word r.notes
        (events before) none)
        ∙ found) in
        record { placed = it.placed; last = rw none it.last; moment = it.moment }

-- ---- kept answers

-- an answer that is found was kept, and lives
record FoundLive (moment : ℕ) (name : RequestName) (past : List Event) : Type 0 where
  answer : Answer
  kept : last_said (answer_kept name) past ≡ Some answer
  lives : is_live_answer moment name past ≡ true

found_live : (moment : ℕ) (name : RequestName) (past : List Event) (found : Answer)
    → kept_answer moment name past ≡ Some found
    → FoundLive moment name past
unfolding kept_answer
found_live moment name past found e = by (last_said (answer_kept name) past) refl e
  where
    living : (b : Bool) (a : Answer)
        → is_live_answer moment name past ≡ b
        → last_said (answer_kept name) past ≡ Some a
        → cond b (Some a) None ≡ Some found
        → FoundLive moment name past
    living true a lives kept h = record { answer = a; kept = kept; lives = lives }
    living false a lives kept h = absurd (let no : None ≡ Some found = h in cc)

    by : (o : Option Answer)
        → last_said (answer_kept name) past ≡ o
        → option_and_then (λ a. cond (is_live_answer moment name past) (Some a) None) o
        ≡ Some found
        → FoundLive moment name past
    by None kept h = absurd (let no : None ≡ Some found = h in cc)
    by (Some a) kept h = living (is_live_answer moment name past) a refl kept h

-- its last use, where that is young
record UsedLately (moment : ℕ) (name : RequestName) (past : List Event) : Type 0 where
  used : Event
  last : last_event (is_use_of name) past ≡ Some used
  young : moment < used.moment + 247_000
  among_last : is_named_among (take max_answers (names_used past)) name ≡ true

-- a use that is young
abbrev young_use : ℕ → Option Event → Bool
young_use moment None = false
young_use moment (Some e) = is_young moment e.moment

live_is : (moment : ℕ) (name : RequestName) (past : List Event) (o : Option Event)
    → last_event (is_use_of name) past ≡ o
    → is_live_answer moment name past
    ≡ (is_named_among (take max_answers (names_used past)) name && young_use moment o)
live_is moment name past None e = rw e refl
live_is moment name past (Some used) e = rw e refl

used_lately : (moment : ℕ) (name : RequestName) (past : List Event)
    → is_live_answer moment name past ≡ true
    → UsedLately moment name past
used_lately moment name past lives = by (last_event (is_use_of name) past) refl
  where
    by : (o : Option Event)
        → last_event (is_use_of name) past ≡ o
        → UsedLately moment name past
    by None e =
        absurd (false≢true (and_parts (is_named_among (take max_answers (names_used past)) name)
        false (sym (live_is moment name past None e) ∙ lives)).1)
    by (Some used) e =
        let both =
        and_parts (is_named_among (take max_answers (names_used past)) name)
        (nat_lt moment (used.moment + 247_000))
        (sym (live_is moment name past (Some used) e) ∙ lives) in
        record {
          used = used;
          last = e;
          young = ltb-true moment (used.moment + 247_000) both.1;
          among_last = both.0;
        }

-- so it can be read
can_be_read : (before : List Row) (moment : ℕ) (name : RequestName) (found : Answer)
    → kept_answer moment name (events before) ≡ Some found
    → CanBeRead before moment name
can_be_read before moment name found e =
    let live : FoundLive moment name (events before) =
    found_live moment name (events before) found e in
    let lately : UsedLately moment name (events before) =
    used_lately moment name (events before) live.lives in
    let used : LastRow (is_use_of name) before lately.used =
    last_of (is_use_of name) before lately.used lately.last in
    let f = said_by (answer_kept name) (events before) live.answer live.kept in
    let keep : LastRow (λ n. is_some (answer_kept name n)) before f.0 =
    last_of (λ n. is_some (answer_kept name n)) before f.0 f.1 in
    record {
      kept = keep.placed;
      kept_is = keep.last;
      used = used.placed;
      used_is = used.last;
      young = subst (λ n. moment < n + 247_000) used.moment lately.young;
      among_last = lately.among_last;
    }

-- ---- what is read was asked for

-- the note reads a kept answer
abbrev is_reading : Note → Bool
is_reading (note.Used peer key) = true
is_reading _ = false

-- only a request reads one
role_asks : (r : Role) (starved : Bool) (rows : List Row) (moment : ℕ) (s : Step) (m : Message)
    → list_any is_reading (message_effects r starved rows moment s m).notes ≡ true
    → r ≡ role.Request
unfolding answering
role_asks role.Ping starved rows moment s m h = absurd (false≢true h)
role_asks role.Acknowledgement starved rows moment s m h =
    absurd (false≢true
    (sym (none_of of_empty is_reading never (acknowledged s.peer m.mid (events rows)).notes
    (acknowledged-notes s.peer m.mid (events rows)))
    ∙ h))
  where
    never : (n : Note) → of_empty n ≡ true → is_reading n ≡ false
    never (note.Used peer key) e = absurd (false≢true e)
    never _ e = refl
role_asks role.Reset starved rows moment s m h =
    absurd (false≢true
    (sym (none_of of_empty is_reading never (reset s.peer m.mid (events rows)).notes
    (reset-notes s.peer m.mid (events rows)))
    ∙ h))
  where
    never : (n : Note) → of_empty n ≡ true → is_reading n ≡ false
    never (note.Used peer key) e = absurd (false≢true e)
    never _ e = refl
role_asks role.Request starved rows moment s m h = refl
role_asks role.Response true rows moment s m h = absurd (false≢true h)
role_asks role.Response false rows moment s m h =
    absurd (false≢true
    (sym (none_of of_response is_reading never (response_effects rows moment s m).notes
    (response_effects-notes rows moment s m))
    ∙ h))
  where
    never : (n : Note) → of_response n ≡ true → is_reading n ≡ false
    never (note.Used peer key) e = absurd (false≢true e)
    never _ e = refl
role_asks role.Ignored starved rows moment s m h = absurd (false≢true h)

-- so it is of the row of a step
row_asks : (rows : List Row) (s : Step) (starved : Bool) (m : Message)
    → s.kind ≡ step.Admit
    → reading s.datagram ≡ Ok m
    → list_any is_reading (row rows s starved).notes ≡ true
    → role_of m.kind m.code ≡ role.Request
unfolding row effects
row_asks rows s starved m here read h =
    role_asks (role_of m.kind m.code) starved rows (row_moment rows s) s m
    (subst (λ (o : Result Message Unread).
    list_any is_reading (heard starved rows (row_moment rows s) s o).notes ≡ true) read
    (subst (λ (k : StepKind).
    list_any is_reading (effects k starved rows (row_moment rows s) s).notes ≡ true) here h))

-- and of each row among rows of steps
asks_of : (rows before : List Row) (r : Row) (m : Message) (n : Note)
    → AreRows rows
    → Within rows before r
    → IsAmong r.notes n
    → is_reading n ≡ true
    → r.step.kind ≡ step.Admit
    → reading r.step.datagram ≡ Ok m
    → role_of m.kind m.code ≡ role.Request
asks_of rows before r m n all within among reads here read =
    let it : RowMade before r = each_made rows before r all within in
    let own : r.step ≡ it.step =
    ap (λ (x : Row). x.step) it.is ∙ row-step before it.step it.starved in
    row_asks before it.step it.starved m
    (ap (λ (t : Step). t.kind) (sym own) ∙ here)
    (ap (λ (t : Step). reading t.datagram) (sym own) ∙ read)
    (subst (λ (x : Row). list_any is_reading x.notes ≡ true) it.is
    (any_at (list_any is_reading r.notes) refl))
  where
    any_at : (b : Bool)
        → list_any is_reading r.notes ≡ b
        → list_any is_reading r.notes ≡ true
    any_at true e = e
    any_at false e =
        absurd (false≢true
        (sym (all_at_index (λ x. is_reading x ≡ false) r.notes n among
        (each_failing is_reading (λ x. is_reading x ≡ false) (λ x not_it. not_it) r.notes e))
        ∙ reads))

-- ---- the sentence

reads : (rows before : List Row) (r : Row) (peer : Peer) (key : List ℕ)
    → AreRows rows
    → Within rows before r
    → IsAmong r.notes (note.Used peer key)
    → ReadsKept before r.moment.0 r.step peer key
reads rows before r peer key all within among =
    origin_of rows before r (note.Used peer key) all within among

-- so it is in rows of steps
pub rows-KeptAnswers : (rows : List Row) → AreRows rows → KeptAnswers rows
rows-KeptAnswers rows all = record {
  asked = λ before r peer key within among.
      let it : ReadsKept before r.moment.0 r.step peer key =
      reads rows before r peer key all within among in
      record {
        heard = it.heard;
        message = it.message;
        read = it.read;
        asks =
            asks_of rows before r it.message (note.Used peer key) all within among refl it.heard
            it.read;
        further = it.further;
        peer_is = it.peer_is;
        key_is = it.key_is;
      };
  lives = λ before r peer key within among.
      let it : ReadsKept before r.moment.0 r.step peer key =
      reads rows before r peer key all within among in
      subst (λ (p : Peer). CanBeRead before r.moment.0 (p, key)) it.peer_is
      (subst (λ (k : List ℕ). CanBeRead before r.moment.0 (r.step.peer, k)) it.key_is
      (can_be_read before r.moment.0 (r.step.peer, _) it.answer it.found));
}

-- in each journal of the machine
pub journal-KeptAnswers : (rows : List Row) → IsJournal rows → KeptAnswers rows
journal-KeptAnswers rows journal = rows-KeptAnswers rows (journal-AreRows rows journal)

-- and in each journal of a desk
pub desk-KeptAnswers : (rows : List Row) → IsDeskJournal rows → KeptAnswers rows
desk-KeptAnswers rows journal = rows-KeptAnswers rows (desk-AreRows rows journal)
