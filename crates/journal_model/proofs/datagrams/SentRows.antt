-- What each row sends and notes of that, in rows of steps whose commits are of rows that admitted,
-- and whose looks, commits and keeps are made for requests, under tags of eight octets.
use Rattle.std.proofs.Common.{
  ◌≡◌,
  inl,
  inr,
  ℕ,
  ◌==◌,
  Bool,
  true,
  false,
  cond,
  List,
  [],
  ◌∷◌,
  ◌++◌,
  length,
  Option,
  Some,
  None,
  option_and_then,
  Ok,
  refl,
  sym,
  ap,
  subst,
  ◌∙◌,
  eqb-true,
  arith,
  append_assoc,
  ◌<◌,
}
use Rattle.std.specs.Prelude.{is_some}
use Rattle.std.specs.List.{list_any, AllByRecursion}
use Rattle.std.proofs.lemmas.Bool.{and_parts, false≢true, ne_eqb}
use Rattle.std.proofs.lemmas.Option.{same_Some}
use Rattle.rd_base.specs.declared.peers.Peer.{Peer}
use Rattle.rd_base.proofs.lemmas.Numbers.{eqb-refl}
use Rattle.rd_base.proofs.lemmas.Among.{Among, all_among, any_among}
use Rattle.rd_base.proofs.lemmas.Each.{each_weaker}
use Rattle.message_model.specs.declared.messages.Role.TheVariants as role
use Rattle.message_model.specs.Message.{Message, role_of}
use Rattle.message_model.specs.Reading.{reading}
use Rattle.event_model.specs.declared.notes.Note.{Note}
use Rattle.event_model.specs.declared.notes.Note.TheVariants as note
use Rattle.event_model.specs.Same.{RequestName, is_same_peer, is_same_request}
use Rattle.event_model.specs.Events.{Event, last_event, last_said}
use Rattle.event_model.specs.Repeats.{
  is_admission_of,
  is_admitting,
  is_kept,
  repeated,
  answer_noted,
  settled,
}
use Rattle.event_model.specs.KeptAnswers.{Answer, answer_kept, is_live_answer, kept_answer}
use Rattle.event_model.specs.Observers.{observers}
use Rattle.event_model.proofs.SameLaws.{is_same_peer-Decides, is_same_peer-refl}
use Rattle.journal_model.specs.declared.steps.Step.{Step}
use Rattle.journal_model.specs.declared.steps.StepKind.{StepKind}
use Rattle.journal_model.specs.declared.steps.StepKind.TheVariants as step
use Rattle.journal_model.specs.declared.rows.Row.{Row}
use Rattle.journal_model.specs.Journal.{events, row_at}
use Rattle.journal_model.specs.Rows.{effects, row_moment, row, AreRows, empty, added}
use Rattle.journal_model.specs.Ticks.{tick_effects}
use Rattle.journal_model.specs.PlacedRows.{Within, Placed, Commits}
use Rattle.journal_model.specs.SentDatagrams.{
  AnswersRequest,
  AnswersRepeat,
  IsForRequest,
  AreForRequests,
}
use Rattle.journal_model.specs.AdmittedWrites.{AdmittedAt}
use Rattle.journal_model.proofs.EventRows.{AllRows, RowOf, row_of, row_within, within_more, said_by}
use Rattle.journal_model.proofs.RowEquations.{effects-Tick, row-step}
use Rattle.journal_model.proofs.entries.CommitPlaces.{AtPlace, at_place, own_of}
use Rattle.journal_model.proofs.desks.OpenAdmissions.{OwnAdmission}
use Rattle.journal_model.proofs.notes.LookupNotes.{IsAsking, OfWatched, observers_all}
use Rattle.journal_model.proofs.flights.NotificationsAgain.{events_after_again, stood}
use Rattle.journal_model.proofs.sends.BodyAnswers.{same_message}
use Rattle.journal_model.proofs.datagrams.OwnSends.{
  IsOwn,
  KnownBefore,
  effects_begin-sent,
  effects_own,
}
use Rattle.journal_model.proofs.datagrams.NotedSends.{SettledBy, NoteFact, NoteFacts, effects_facts}
use Rattle.journal_model.proofs.datagrams.TickedSends.{
  IsTicked,
  IsResendable,
  Resendable,
  TickSends,
  tick_sends,
}

-- a datagram of a row, by its step
abbrev pub IsSentBy : StepKind → List Row → Step → Peer × List ℕ → Type 0
IsSentBy step.Admit before s d = IsOwn before s d
IsSentBy step.Look before s d = IsOwn before s d
IsSentBy (step.Commit place) before s d = IsOwn before s d
IsSentBy (step.Keep body current) before s d = IsOwn before s d
IsSentBy step.Tick before s d = IsTicked d
IsSentBy (step.Begin first) before s d = ⊥

-- what a row sends, and what it notes of that
pub record RowSent (before : List Row) (r : Row) : Type 0 where
  pub sent : AllByRecursion (IsSentBy r.step.kind before r.step) r.sent
  pub facts : NoteFacts r.step.kind r.step r.sent r.notes

-- so it is of all rows; and who observes asks for it
pub record AllSent (rows : List Row) : Type 0 where
  pub each : AllRows RowSent rows
  pub asking : AllByRecursion IsAsking (observers (events rows))

-- each commit is of a row that admitted
abbrev pub CommitsPlaced : List Row → Type 0
CommitsPlaced rows =
    (before : List Row) (r : Row) (place : ℕ)
    → Within rows before r
    → Commits r place
    → AdmittedAt before place r.step

-- ---- rows at places

-- the row after so many rows is at that place
at_length : (later before : List Row) (r : Row)
    → row_at (length before) (later ++ r ∷ before) ≡ Some r
unfolding row_at
at_length [] before r = rw (eqb-refl (length before)) refl
at_length (x ∷ later) before r =
    rw (ne_eqb (length before) (length (later ++ r ∷ before))
    (λ same. absurd (let longer = below later in omega (arith, same, longer))))
    (at_length later before r)
  where
    below : (more : List Row) → length before < length (more ++ r ∷ before)
    below [] = omega arith
    below (y ∷ more) = let h = below more in omega (arith, h)

within_at : (rows before : List Row) (r : Row)
    → Within rows before r
    → row_at (length before) rows ≡ Some r
within_at rows before r within =
    subst (λ (all : List Row). row_at (length before) all ≡ Some r) (sym within.whole)
    (at_length within.later before r)

-- a row within rows before a row of them is within them
within_through : (rows before deeper : List Row) (r other : Row)
    → Within rows before r
    → Within before deeper other
    → Within rows deeper other
within_through rows before deeper r other outer inner =
    record {
      later = outer.later ++ r ∷ inner.later;
      whole =
          outer.whole
          ∙ (ap (λ (rest : List Row). outer.later ++ r ∷ rest) inner.whole
          ∙ sym (append_assoc outer.later (r ∷ inner.later) (other ∷ deeper)));
    }

-- ---- what is known of the rows before

-- what earlier rows sent can be retransmitted
resendable : (rows : List Row) → AllRows RowSent rows → Resendable rows
resendable rows all place r at =
    let it : AtPlace rows place r = at_place place rows r at in
    let sent : RowSent it.before r = row_within RowSent rows it.before r all it.within in
    by r.step.kind it.before sent.sent
  where
    own : (before : List Row) (s : Step) (ds : List (Peer × List ℕ))
        → AllByRecursion (IsOwn before s) ds
        → AllByRecursion IsResendable ds
    own before s ds h =
        each_weaker (IsOwn before s) IsResendable (λ d o con.
        record {
          fits = o.fits;
          content = λ m e responds.
              absurd (false≢true (sym (o.confirmable m e con) ∙ responds));
        }) ds h

    by : (kind : StepKind) (before : List Row)
        → AllByRecursion (IsSentBy kind before r.step) r.sent
        → AllByRecursion IsResendable r.sent
    by step.Admit before h = own before r.step r.sent h
    by step.Look before h = own before r.step r.sent h
    by (step.Commit n) before h = own before r.step r.sent h
    by (step.Keep body current) before h = own before r.step r.sent h
    by step.Tick before h = each_weaker IsTicked IsResendable (λ d t con. t) r.sent h
    by (step.Begin first) before h = each_weaker (λ d. ⊥) IsResendable (λ d no. absurd no) r.sent h

-- the fact of a note of a row
fact_of : (rows before : List Row) (r : Row) (n : Note)
    → AllRows RowSent rows
    → Within rows before r
    → Among n r.notes
    → NoteFact r.step.kind r.step r.sent n
fact_of rows before r n all within among =
    all_among (NoteFact r.step.kind r.step r.sent) n r.notes
    (row_within RowSent rows before r all within).facts among

-- a kept answer has a tag of eight octets
kept_tag : (rows : List Row)
    → AllRows RowSent rows
    → (moment : ℕ) (name : RequestName) (found : Answer)
    → kept_answer moment name (events rows) ≡ Some found
    → length found.tag ≡ 8
unfolding kept_answer
kept_tag rows all moment name found e = last (last_said (answer_kept name) (events rows)) refl e
  where
    said : (n : Note)
        → answer_kept name n ≡ Some found
        → (sent : List (Peer × List ℕ)) (kind : StepKind) (s : Step)
        → NoteFact kind s sent n
        → length found.tag ≡ 8
    said (note.Kept peer key body current) h sent kind s fact =
        by (is_same_request (peer, key) name) h
      where
        by : (b : Bool)
            → cond b (Some (record { body = body; tag = current })) None ≡ Some found
            → length found.tag ≡ 8
        by true g =
            subst (λ (a : Answer). length a.tag ≡ 8)
            (same_Some (record { body = body; tag = current }) found g) fact
        by false g = absurd (let no : None ≡ Some found = g in cc)
    said _ h sent kind s fact = absurd (let no : None ≡ Some found = h in cc)

    from_event : last_said (answer_kept name) (events rows) ≡ Some found → length found.tag ≡ 8
    from_event h =
        let f = said_by (answer_kept name) (events rows) found h in
        let it : RowOf (λ n. is_some (answer_kept name n)) rows f.0 =
        row_of (λ n. is_some (answer_kept name n)) rows f.0 f.1 in
        said f.0.note f.2 it.placed.row.sent it.placed.row.step.kind it.placed.row.step
        (fact_of rows it.placed.before it.placed.row f.0.note all it.within it.note)

    living : (b : Bool) (a : Answer)
        → last_said (answer_kept name) (events rows) ≡ Some a
        → cond b (Some a) None ≡ Some found
        → length found.tag ≡ 8
    living true a h g = from_event (h ∙ g)
    living false a h g = absurd (let no : None ≡ Some found = g in cc)

    last : (o : Option Answer)
        → last_said (answer_kept name) (events rows) ≡ o
        → option_and_then (λ a. cond (is_live_answer moment name (events rows)) (Some a) None) o
        ≡ Some found
        → length found.tag ≡ 8
    last None h g = absurd (let no : None ≡ Some found = g in cc)
    last (Some a) h g = living (is_live_answer moment name (events rows)) a h g

-- the row that settled a place, with the octets
record SettledIn (rows : List Row) (place : ℕ) (octets : List ℕ) : Type 0 where
  placed : Placed
  within : Within rows placed.before placed.row
  by_it : SettledBy placed.row.step.kind placed.row.step place octets

settled_in : (rows : List Row)
    → AllRows RowSent rows
    → (place : ℕ) (octets : List ℕ)
    → settled place (events rows) ≡ Some octets
    → SettledIn rows place octets
unfolding settled
settled_in rows all place octets e =
    let f = said_by (answer_noted place) (events rows) octets e in
    let it : RowOf (λ n. is_some (answer_noted place n)) rows f.0 =
    row_of (λ n. is_some (answer_noted place n)) rows f.0 f.1 in
    record {
      placed = it.placed;
      within = it.within;
      by_it =
          said f.0.note f.2 it.placed.row.sent it.placed.row.step.kind it.placed.row.step
          (fact_of rows it.placed.before it.placed.row f.0.note all it.within it.note);
    }
  where
    said : (n : Note)
        → answer_noted place n ≡ Some octets
        → (sent : List (Peer × List ℕ)) (kind : StepKind) (s : Step)
        → NoteFact kind s sent n
        → SettledBy kind s place octets
    said (note.Settled p reply) h sent kind s fact = by (p == place) refl h
      where
        by : (b : Bool)
            → (p == place) ≡ b
            → cond b (Some reply) None ≡ Some octets
            → SettledBy kind s place octets
        by true same g =
            subst (λ (os : List ℕ). SettledBy kind s place os) (same_Some reply octets g)
            (subst (λ n. SettledBy kind s n reply) (eqb-true p place same) fact)
        by false same g = absurd (let no : None ≡ Some octets = g in cc)
    said _ h sent kind s fact = absurd (let no : None ≡ Some octets = h in cc)

-- the admission that a write repeats is the last one of its peer and Message ID
last_admission : (moment : ℕ) (peer : Peer) (mid : ℕ) (rows : List Row) (first : Event)
    → repeated moment peer mid (events rows) ≡ Some first
    → last_event (is_admission_of peer mid) (events rows) ≡ Some first
unfolding repeated
last_admission moment peer mid rows first e =
    by (last_event (is_admission_of peer mid) (events rows)) refl e
  where
    one : (b : Bool) (a : Event)
        → last_event (is_admission_of peer mid) (events rows) ≡ Some a
        → cond b (Some a) None ≡ Some first
        → last_event (is_admission_of peer mid) (events rows) ≡ Some first
    one true a h g = h ∙ g
    one false a h g = absurd (let no : None ≡ Some first = g in cc)

    by : (o : Option Event)
        → last_event (is_admission_of peer mid) (events rows) ≡ o
        → option_and_then (λ a. cond (is_kept moment (events rows) a) (Some a) None) o ≡ Some first
        → last_event (is_admission_of peer mid) (events rows) ≡ Some first
    by None h g = absurd (let no : None ≡ Some first = g in cc)
    by (Some a) h g = one (is_kept moment (events rows) a) a h g

-- an admission of a peer and a Message ID is one
admits_some : (peer : Peer) (mid : ℕ) (n : Note)
    → is_admission_of peer mid n ≡ true
    → is_admitting n ≡ true
admits_some peer mid (note.Admitted p m) h = refl
admits_some peer mid (note.Settled place reply) h = absurd (false≢true h)
admits_some peer mid (note.Failed place) h = absurd (false≢true h)
admits_some peer mid (note.Entered entry) h = absurd (false≢true h)
admits_some peer mid (note.Piece p key number octets) h = absurd (false≢true h)
admits_some peer mid (note.Finished p key) h = absurd (false≢true h)
admits_some peer mid (note.Kept p key body current) h = absurd (false≢true h)
admits_some peer mid (note.Used p key) h = absurd (false≢true h)
admits_some peer mid (note.Watched o) h = absurd (false≢true h)
admits_some peer mid (note.Unwatched p token) h = absurd (false≢true h)
admits_some peer mid (note.Formed p token body m) h = absurd (false≢true h)
admits_some peer mid (note.Unchanged p token) h = absurd (false≢true h)
admits_some peer mid (note.Again p m) h = absurd (false≢true h)
admits_some peer mid (note.Landed p m) h = absurd (false≢true h)
admits_some peer mid (note.Asked p token m params number) h = absurd (false≢true h)
admits_some peer mid (note.Gathered p octets tag) h = absurd (false≢true h)
admits_some peer mid (note.Resent p) h = absurd (false≢true h)
admits_some peer mid (note.Waiting p) h = absurd (false≢true h)
admits_some peer mid (note.Ceased p) h = absurd (false≢true h)
admits_some peer mid (note.Challenged p value) h = absurd (false≢true h)

-- the one admission of a row that is of a peer and a Message ID has them
its_own : (r : Row) (own : OwnAdmission r) (n : Note) (peer : Peer) (mid : ℕ)
    → Among n r.notes
    → is_admission_of peer mid n ≡ true
    → (r.step.peer ≡ peer) × (own.message.mid ≡ mid)
its_own r own n peer mid among h = by (subst (Among n) own.noted among)
  where
    by : Among n (note.Admitted r.step.peer own.message.mid ∷ [])
        → (r.step.peer ≡ peer) × (own.message.mid ≡ mid)
    by (inl same) =
        let both =
        and_parts (is_same_peer r.step.peer peer) (own.message.mid == mid)
        (ap (is_admission_of peer mid) same ∙ h) in
        ((is_same_peer-Decides r.step.peer peer).0 both.0, eqb-true own.message.mid mid both.1)
    by (inr none) = absurd none

-- so a repeat gets the answer of the write that it repeats
repeats_own : (rows : List Row)
    → AreRows rows
    → CommitsPlaced rows
    → AllRows RowSent rows
    → (s : Step) (m : Message) (moment : ℕ) (first : Event) (octets : List ℕ)
    → reading s.datagram ≡ Ok m
    → role_of m.kind m.code ≡ role.Request
    → repeated moment s.peer m.mid (events rows) ≡ Some first
    → settled first.place (events rows) ≡ Some octets
    → IsOwn rows s (s.peer, octets)
repeats_own rows made placed all s m moment first octets read asks rep stl = record {
  fits = done_by.by_it.fits;
  to = refl;
  answers = λ n e responds. inr (answered n (done_by.by_it.answers n e responds));
  confirmable = λ n e con. absurd (false≢true (sym done_by.by_it.unconfirmable ∙ con));
}
  where
    done_by : SettledIn rows first.place octets
    done_by = settled_in rows all first.place octets stl

    adm : AdmittedAt done_by.placed.before first.place done_by.placed.row.step
    adm =
        placed done_by.placed.before done_by.placed.row first.place done_by.within
        done_by.by_it.commits

    it : RowOf (is_admission_of s.peer m.mid) rows first
    it =
        row_of (is_admission_of s.peer m.mid) rows first
        (last_admission moment s.peer m.mid rows first rep)

    own : OwnAdmission it.placed.row
    own =
        own_of rows it.placed.before it.placed.row made it.within
        (any_among is_admitting first.note it.placed.row.notes it.note
        (admits_some s.peer m.mid first.note it.kind))

    mine : (it.placed.row.step.peer ≡ s.peer) × (own.message.mid ≡ m.mid)
    mine = its_own it.placed.row own first.note s.peer m.mid it.note it.kind

    same_row : adm.row ≡ it.placed.row
    same_row =
        let there : row_at (length adm.before) rows ≡ Some adm.row =
        within_at rows adm.before adm.row
        (within_through rows done_by.placed.before adm.before done_by.placed.row adm.row
        done_by.within adm.within) in
        same_Some adm.row it.placed.row
        (sym (ap (λ n. row_at n rows) (sym adm.place_is) ∙ there) ∙ it.at_place)

    same_datagram : done_by.placed.row.step.datagram ≡ it.placed.row.step.datagram
    same_datagram = sym adm.datagram ∙ ap (λ (r : Row). r.step.datagram) same_row

    answered : (n : Message) → AnswersRequest done_by.placed.row.step n → AnswersRepeat rows s n
    answered n a =
        let same : own.message ≡ a.request =
        same_message own.message a.request it.placed.row.step.datagram own.read
        (ap reading (sym same_datagram) ∙ a.read) in
        record {
          again = m;
          read = read;
          asks = asks;
          first = it.placed;
          within = it.within;
          request = own.message;
          first_read = own.read;
          peer = mine.0;
          mid = mine.1;
          admitted =
              ap (list_any (is_admission_of it.placed.row.step.peer own.message.mid)) own.noted
              ∙ rw (is_same_peer-refl it.placed.row.step.peer) (rw (eqb-refl own.message.mid) refl);
          token = a.token ∙ ap (λ (x : Message). x.token) (sym same);
        }

known_before : (rows : List Row)
    → AreRows rows
    → CommitsPlaced rows
    → AllRows RowSent rows
    → KnownBefore rows
known_before rows made placed all = record {
  repeats = repeats_own rows made placed all;
  kept = kept_tag rows all;
}

-- ---- one row more

-- the row of a step
row_sent : (rows : List Row) (s : Step) (starved : Bool)
    → AreRows rows
    → CommitsPlaced rows
    → ((m : Message) → reading s.datagram ≡ Ok m → IsForRequest s.kind m)
    → AllSent rows
    → RowSent rows (row rows s starved)
unfolding row
row_sent rows s starved made placed fair all = by s.kind refl
  where
    moment : ℕ
    moment = row_moment rows s

    asking : AllByRecursion IsAsking
        (observers (events_after_again rows (row_moment rows s) s.word))
    asking = stood rows (row_moment rows s) s.word IsAsking all.asking

    -- all parts, by the kind of the step
    Sends : StepKind → Type 0
    Sends k =
        AllByRecursion (IsSentBy k rows s) (effects k starved rows (row_moment rows s) s).sent
        × NoteFacts k s (effects k starved rows (row_moment rows s) s).sent
        (effects k starved rows (row_moment rows s) s).notes

    whole : (k : StepKind) → s.kind ≡ k → Sends k → RowSent rows (row rows s starved)
    whole k is h = let back : Sends s.kind = subst Sends (sym is) h in record {
      sent = back.0;
      facts = back.1;
    }

    requests : (k : StepKind)
        → s.kind ≡ k
        → (m : Message)
        → reading s.datagram ≡ Ok m
        → IsForRequest k m
    requests k is m read = subst (λ (x : StepKind). IsForRequest x m) is (fair m read)

    ticks : TickSends s (tick_effects starved rows (row_moment rows s) s)
    ticks = tick_sends starved rows (row_moment rows s) s (resendable rows all.each) asking

    past : KnownBefore rows
    past = known_before rows made placed all.each

    by : (k : StepKind) → s.kind ≡ k → RowSent rows (row rows s starved)
    by step.Admit is =
        whole step.Admit is (
          effects_own step.Admit starved rows (row_moment rows s) s tt (requests step.Admit is)
              past,
          effects_facts step.Admit starved rows (row_moment rows s) s tt
              (requests step.Admit is),
        )
    by step.Look is =
        whole step.Look is (
          effects_own step.Look starved rows (row_moment rows s) s tt (requests step.Look is)
              past,
          effects_facts step.Look starved rows (row_moment rows s) s tt
              (requests step.Look is),
        )
    by (step.Commit place) is = whole (step.Commit place) is (
      effects_own (step.Commit place) starved rows (row_moment rows s) s tt
          (requests (step.Commit place) is) past,
      effects_facts (step.Commit place) starved rows
          (row_moment rows s) s tt (requests (step.Commit place) is),
    )
    by (step.Keep body current) is = whole (step.Keep body current) is (
      effects_own (step.Keep body current) starved rows (row_moment rows s) s tt
          (requests (step.Keep body current) is) past,
      effects_facts (step.Keep body current)
          starved rows (row_moment rows s) s tt (requests (step.Keep body current) is),
    )
    by step.Tick is =
        whole step.Tick is (
          rw (effects-Tick starved rows (row_moment rows s) s) ticks.sent,
          rw
              (effects-Tick starved rows (row_moment rows s) s) ticks.facts,
        )
    by (step.Begin first) is = whole (step.Begin first) is (
      subst (AllByRecursion (λ d. ⊥))
          (sym (effects_begin-sent first starved rows (row_moment rows s) s)) tt,
      effects_facts (step.Begin first) starved rows (row_moment rows s) s tt
          (requests (step.Begin first) is),
    )

-- the observers that a row adds ask for their queries
asking_row : (rows : List Row) (r : Row)
    → RowSent rows r
    → AllByRecursion IsAsking (observers (events rows))
    → AllByRecursion IsAsking (observers (events (r ∷ rows)))
unfolding events
asking_row rows r sends all =
    observers_all IsAsking (length rows) r.moment.0 r.step.word r.notes (events rows)
    (each_weaker (NoteFact r.step.kind r.step r.sent) (OfWatched IsAsking) by r.notes
    sends.facts) all
  where
    by : (n : Note) → NoteFact r.step.kind r.step r.sent n → OfWatched IsAsking n
    by (note.Watched o) h = h
    by _ h = tt

-- all rows
pub rows_sent : (rows : List Row)
    → AreRows rows
    → CommitsPlaced rows
    → AreForRequests rows
    → AllSent rows
unfolding events observers
rows_sent [] empty placed requests = record { each = tt; asking = tt }
rows_sent (r ∷ before) (added {rows} s starved made) placed requests =
    let rest : AllSent before =
    rows_sent before made
    (λ deeper x place within. placed deeper x place (within_more r before deeper x within))
    (λ deeper x m within. requests deeper x m (within_more r before deeper x within)) in
    let here : RowSent before (row before s starved) =
    row_sent before s starved made
    (λ deeper x place within. placed deeper x place (within_more r before deeper x within))
    (λ m read. own_tags m read) rest in
    record {
      each = (here, rest.each);
      asking = asking_row before (row before s starved) here rest.asking;
    }
  where
    own_tags : (m : Message) → reading s.datagram ≡ Ok m → IsForRequest s.kind m
    own_tags m read =
        subst (λ (t : Step). IsForRequest t.kind m) (row-step before s starved)
        (requests before (row before s starved) m (record { later = []; whole = refl })
        (ap (λ (t : Step). reading t.datagram) (row-step before s starved) ∙ read))
