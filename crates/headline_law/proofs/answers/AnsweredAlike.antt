-- Answers to writes: once, as the request wants it, and alike where it comes again (the sentence
-- AnsweredAlike).
use Rattle.std.proofs.Common.{
  ◌≡◌,
  ◌⊎◌,
  inl,
  inr,
  ℕ,
  ◌≤◌,
  Bool,
  true,
  false,
  List,
  [],
  ◌∷◌,
  ◌++◌,
  length,
  codes,
  decimal,
  Some,
  Ok,
  refl,
  sym,
  ap,
  subst,
  ◌∙◌,
  arith,
}
use Rattle.std.specs.List.{list_any, IsAmong, AllByRecursion}
use Rattle.std.proofs.lemmas.Bool.{false≢true}
use Rattle.rd_base.specs.declared.peers.Peer.{Peer}
use Rattle.rd_base.proofs.lemmas.Among.{all_at_index}
use Rattle.rd_base.proofs.lemmas.Each.{none_pass}
use Rattle.rd_base.proofs.lemmas.Numbers.{eqb-refl}
use Rattle.message_model.specs.declared.messages.Kind4.TheVariants.{Rst, Ack}
use Rattle.message_model.specs.Codes as codes_of
use Rattle.message_model.specs.declared.messages.Role.TheVariants as role
use Rattle.message_model.specs.Message.{Message, role_of}
use Rattle.message_model.specs.Reading.{reading}
use Rattle.message_model.specs.Request.{path_in}
use Rattle.message_model.specs.Spelling.{spelling}
use Rattle.message_model.specs.FetchRequests.{fetch_request}
use Rattle.history_model.specs.declared.entries.Entry.{Entry}
use Rattle.event_model.specs.declared.notes.Note.{Note}
use Rattle.event_model.specs.declared.notes.Note.TheVariants as note
use Rattle.event_model.specs.Events.{Event}
use Rattle.event_model.specs.Repeats.{
  is_admission_of,
  is_admitting,
  is_failure_of,
  repeated,
  settled,
}
use Rattle.journal_model.specs.declared.steps.Step.{Step}
use Rattle.journal_model.specs.declared.steps.StepKind.{StepKind}
use Rattle.journal_model.specs.declared.steps.StepKind.TheVariants as step
use Rattle.journal_model.specs.declared.rows.Row.{Row}
use Rattle.journal_model.specs.Journal.{events, entries, entries_of}
use Rattle.journal_model.specs.Effects.{Effects, answer, empty_message}
use Rattle.journal_model.specs.Changes.{number_after}
use Rattle.journal_model.specs.Requests.{is_write, method_of}
use Rattle.journal_model.specs.Writes.{write_effects}
use Rattle.journal_model.specs.Machine.{IsJournal}
use Rattle.journal_model.specs.DeskJournal.{IsDeskJournal}
use Rattle.journal_model.specs.PlacedRows.{Within, Commits}
use Rattle.journal_model.specs.AdmittedWrites.{AdmittedAt}
use Rattle.journal_model.specs.Rows.{effects, row, AreRows}
use Rattle.journal_model.specs.SentDatagrams.{is_response, AreForRequests}
use Rattle.journal_model.specs.CarriedBlocks.{Sent}
use Rattle.journal_model.proofs.EventRows.{AllRows, row_within}
use Rattle.journal_model.proofs.RowEquations.{row-step}
use Rattle.journal_model.proofs.entries.JournalLaws.{
  RowMade,
  each_made,
  journal-AreRows,
  desk-AreRows,
}
use Rattle.journal_model.proofs.entries.CommitPlaces.{journal-place, desk-place}
use Rattle.journal_model.proofs.datagrams.SentRows.{CommitsPlaced}
use Rattle.journal_model.proofs.sends.BodyAnswers.{same_message}
use Rattle.headline_law.specs.AnsweredAlike.{
  responses_in,
  IsAnswerLike,
  AnswersOnce,
  RepeatsReply,
  sent_to,
  is_code_of_write,
  HearsWrite,
  location_named,
  NamesEntry,
  IsNotOfTick,
  AnsweredAlike,
}
use Rattle.headline_law.proofs.entries.Failures.{rows-FailsWrite}
use Rattle.headline_law.proofs.answers.AdmittedRows.{any_at_index, rows-AdmitsWrite}
use Rattle.headline_law.proofs.answers.StarvedRows.{row_runs_out}
use Rattle.headline_law.proofs.answers.ReportedOutcomes.{LocatesEntry}
use Rattle.headline_law.proofs.answers.SettledNotes.{SettlesAnswer, SettleFact}
use Rattle.headline_law.proofs.answers.SingleAnswers.{
  AtMostOne,
  IsOther,
  one_response,
  effects_one,
}
use Rattle.headline_law.proofs.answers.CommitAnswers.{
  answer_like,
  SendsOnce,
  effects_once,
  row_writes,
  effects_write,
  AnsweredAgain,
  write_again,
}
use Rattle.headline_law.proofs.whom.RunningFetches.{empty_read, request_read}
use Rattle.headline_law.proofs.whom.Dispatches.{
  IsDispatch,
  answers,
  repeats,
  rejects,
  acknowledges,
  fetches_block,
}
use Rattle.headline_law.proofs.whom.GoesRows.{GoesBy, RowGoes, answer_read}
use Rattle.headline_law.proofs.whom.WhomLaws.{among_index, journal_goes, desk_goes}

-- ---- one datagram

-- what is no response is left out
not_responding : {A : Type 0} (m n : Message)
    → m ≡ n
    → is_response m ≡ false
    → is_response n ≡ true
    → A
not_responding m n same none responds =
    absurd (false≢true (sym none ∙ (ap is_response same ∙ responds)))

-- a kept answer goes to whom it repeats
repeated_reply : (before : List Row) (r : Row) (kind : StepKind) (peer : Peer) (octets : List ℕ)
    (n : Message) (first : Event) (kept : List ℕ)
    → r.step.kind ≡ kind
    → kind ≡ step.Admit
    → reading r.step.datagram ≡ Ok n
    → repeated r.moment.0 r.step.peer n.mid (events before) ≡ Some first
    → settled first.place (events before) ≡ Some kept
    → ◌≡◌ {A = Peer × List ℕ} (peer, octets) (r.step.peer, kept)
    → RepeatsReply (record { row = r; before = before }) peer octets
repeated_reply before r kind peer octets n first kept of_kind here read rep stl is = record {
  heard = of_kind ∙ here;
  to = ap (λ (x : Peer × List ℕ). x.0) is;
  request = n;
  read = read;
  first = first;
  repeats = rep;
  reply = stl ∙ ap (λ (x : Peer × List ℕ). Some x.1) (sym is);
}

-- an answer is as its request wants it, or is a kept one
dispatch_alike : (before : List Row) (r : Row) (kind : StepKind) (peer : Peer) (octets : List ℕ)
    (request m : Message)
    → r.step.kind ≡ kind
    → reading octets ≡ Ok m
    → is_response m ≡ true
    → reading r.step.datagram ≡ Ok request
    → IsDispatch before r.moment.0 kind r.step r.notes (peer, octets)
    → IsAnswerLike request m ⊎ RepeatsReply (record { row = r; before = before }) peer octets
dispatch_alike before r kind peer octets request m of_kind e responds heard
    (answers n reply read asks h is) =
    let same : answer r.step n reply ≡ m =
    answer_read r.step n reply m read h.good
    (ap (λ (x : Peer × List ℕ). reading x.1) (sym is) ∙ e) in
    inl (subst (λ (x : Message). IsAnswerLike request x) same
    (subst (λ (x : Message). IsAnswerLike x (answer r.step n reply))
    (same_message n request r.step.datagram read heard) (answer_like r.step n reply)))
dispatch_alike before r kind peer octets request m of_kind e responds heard
    (repeats n first kept here read asks rep stl is) =
    inr (repeated_reply before r kind peer octets n first kept of_kind here read rep stl is)
dispatch_alike before r kind peer octets request m of_kind e responds heard
    (rejects mid here so is) =
    not_responding (empty_message Rst mid) m
    (same_message (empty_message Rst mid) m (spelling (empty_message Rst mid))
    (empty_read Rst mid) (ap (λ (x : Peer × List ℕ). reading x.1) (sym is) ∙ e)) refl responds
dispatch_alike before r kind peer octets request m of_kind e responds heard
    (acknowledges mid here so is) =
    not_responding (empty_message Ack mid) m
    (same_message (empty_message Ack mid) m (spelling (empty_message Ack mid))
    (empty_read Ack mid) (ap (λ (x : Peer × List ℕ). reading x.1) (sym is) ∙ e)) refl responds
dispatch_alike before r kind peer octets request m of_kind e responds heard
    (fetches_block mid token b small asked runs is) =
    not_responding (fetch_request mid token b) m
    (same_message (fetch_request mid token b) m (spelling (fetch_request mid token b))
    (request_read mid token b small)
    (ap (λ (x : Peer × List ℕ). reading x.1) (sym is) ∙ e)) refl responds

-- one row more
entries-row : (before : List Row) (r : Row) → entries (r ∷ before) ≡ entries before ++ entries_of r
unfolding entries
entries-row before r = refl

-- a 2.01 names what its row entered, or is a kept one
dispatch_located : (before : List Row) (r : Row) (kind : StepKind) (peer : Peer) (octets : List ℕ)
    (m : Message)
    → r.step.kind ≡ kind
    → reading octets ≡ Ok m
    → m.code ≡ codes_of.created
    → IsDispatch before r.moment.0 kind r.step r.notes (peer, octets)
    → NamesEntry (record { row = r; before = before }) m
    ⊎ RepeatsReply (record { row = r; before = before }) peer octets
dispatch_located before r kind peer octets m of_kind e created (answers n reply read asks h is) =
    let same : answer r.step n reply ≡ m =
    answer_read r.step n reply m read h.good
    (ap (λ (x : Peer × List ℕ). reading x.1) (sym is) ∙ e) in
    let it : LocatesEntry (entries before) r.moment.0 reply.options r.notes =
    h.located (ap (λ (x : Message). x.code) same ∙ created) in
    inl (record {
      entry = it.entry;
      params = it.params;
      links = it.links;
      entered = it.entered;
      registers = it.registers;
      located =
          ap (λ (x : Message). location_named x.options) (sym same)
          ∙ (it.located
          ∙ ap (λ (history : List Entry).
          codes "rd" ∷ decimal (number_after it.params.name r.moment.0 history) ∷ [])
          (sym (entries-row before r ∙ ap (λ more. entries before ++ more) it.entered)));
    })
dispatch_located before r kind peer octets m of_kind e created
    (repeats n first kept here read asks rep stl is) =
    inr (repeated_reply before r kind peer octets n first kept of_kind here read rep stl is)
dispatch_located before r kind peer octets m of_kind e created (rejects mid here so is) =
    let no : ◌≡◌ {A = ℕ} 0 65 =
    ap (λ (x : Message). x.code)
    (same_message (empty_message Rst mid) m (spelling (empty_message Rst mid))
    (empty_read Rst mid) (ap (λ (x : Peer × List ℕ). reading x.1) (sym is) ∙ e)) ∙ created in
    absurd (omega (arith, no))
dispatch_located before r kind peer octets m of_kind e created (acknowledges mid here so is) =
    let no : ◌≡◌ {A = ℕ} 0 65 =
    ap (λ (x : Message). x.code)
    (same_message (empty_message Ack mid) m (spelling (empty_message Ack mid))
    (empty_read Ack mid) (ap (λ (x : Peer × List ℕ). reading x.1) (sym is) ∙ e)) ∙ created in
    absurd (omega (arith, no))
dispatch_located before r kind peer octets m of_kind e created
    (fetches_block mid token b small asked runs is) =
    let no : ◌≡◌ {A = ℕ} 1 65 =
    ap (λ (x : Message). x.code)
    (same_message (fetch_request mid token b) m (spelling (fetch_request mid token b))
    (request_read mid token b small)
    (ap (λ (x : Peer × List ℕ). reading x.1) (sym is) ∙ e)) ∙ created in
    absurd (omega (arith, no))

-- a code that says nothing of writes
not_of_write : {A : Type 0} (m n : Message)
    → m ≡ n
    → is_code_of_write m.code ≡ false
    → is_code_of_write n.code ≡ true
    → A
not_of_write m n same none some =
    absurd (false≢true (sym none ∙ (ap (λ (x : Message). is_code_of_write x.code) same ∙ some)))

-- what says that a write was done is the answer of its commit, or a kept one
dispatch_commits : (before : List Row) (r : Row) (kind : StepKind) (peer : Peer) (octets : List ℕ)
    (m : Message)
    → r.step.kind ≡ kind
    → reading octets ≡ Ok m
    → is_code_of_write m.code ≡ true
    → IsDispatch before r.moment.0 kind r.step r.notes (peer, octets)
    → ((place : ℕ) × Commits r place)
    ⊎ RepeatsReply (record { row = r; before = before }) peer octets
dispatch_commits before r kind peer octets m of_kind e says (answers n reply read asks h is) =
    let same : answer r.step n reply ≡ m =
    answer_read r.step n reply m read h.good
    (ap (λ (x : Peer × List ℕ). reading x.1) (sym is) ∙ e) in
    let it : (place : ℕ) × (kind ≡ step.Commit place) =
    h.commits (ap (λ (x : Message). is_code_of_write x.code) same ∙ says) in
    inl (it.0, of_kind ∙ it.1)
dispatch_commits before r kind peer octets m of_kind e says
    (repeats n first kept here read asks rep stl is) =
    inr (repeated_reply before r kind peer octets n first kept of_kind here read rep stl is)
dispatch_commits before r kind peer octets m of_kind e says (rejects mid here so is) =
    not_of_write (empty_message Rst mid) m
    (same_message (empty_message Rst mid) m (spelling (empty_message Rst mid))
    (empty_read Rst mid) (ap (λ (x : Peer × List ℕ). reading x.1) (sym is) ∙ e)) refl says
dispatch_commits before r kind peer octets m of_kind e says (acknowledges mid here so is) =
    not_of_write (empty_message Ack mid) m
    (same_message (empty_message Ack mid) m (spelling (empty_message Ack mid))
    (empty_read Ack mid) (ap (λ (x : Peer × List ℕ). reading x.1) (sym is) ∙ e)) refl says
dispatch_commits before r kind peer octets m of_kind e says
    (fetches_block mid token b small asked runs is) =
    not_of_write (fetch_request mid token b) m
    (same_message (fetch_request mid token b) m (spelling (fetch_request mid token b))
    (request_read mid token b small)
    (ap (λ (x : Peer × List ℕ). reading x.1) (sym is) ∙ e)) refl says

-- ---- rows

-- what a row of a step sends and notes
abbrev pub Does : List Row → Row → Type 0
Does before r =
    (r.sent ≡ (effects r.step.kind r.starved before r.moment.0 r.step).sent)
    × (r.notes ≡ (effects r.step.kind r.starved before r.moment.0 r.step).notes)

row_does : (before : List Row) (s : Step) (starved : Bool) → Does before (row before s starved)
unfolding row
row_does before s starved = (refl, refl)

pub does : (rows before : List Row) (r : Row) → AreRows rows → Within rows before r → Does before r
does rows before r made within =
    let it : RowMade before r = each_made rows before r made within in
    subst (Does before) (sym it.is) (row_does before it.step it.starved)

-- what was admitted is a write
admitted_writes : (rows before : List Row) (r : Row) (place : ℕ) (m : Message)
    → AreRows rows
    → Within rows before r
    → AdmittedAt before place r.step
    → reading r.step.datagram ≡ Ok m
    → is_write (path_in m) (method_of m.code) ≡ true
admitted_writes rows before r place m made within at read =
    let outer : RowMade before r = each_made rows before r made within in
    let it : RowMade at.before at.row = each_made before at.before at.row outer.rows at.within in
    row_writes at.before it.step it.starved m
    (subst (λ (x : Row). list_any is_admitting x.notes ≡ true) it.is
    (some (list_any is_admitting at.row.notes) refl at.admitted))
    (ap reading (sym (ap (λ (x : Row). x.step.datagram) it.is
    ∙ ap (λ (t : Step). t.datagram) (row-step at.before it.step it.starved)) ∙ at.datagram)
    ∙ read)
  where
    never : (peer : Peer) (mid : ℕ) (n : Note)
        → is_admitting n ≡ false
        → is_admission_of peer mid n ≡ false
    never peer mid (note.Admitted p x) h = absurd (false≢true (sym h))
    never peer mid _ h = refl

    some : (b : Bool)
        → list_any is_admitting at.row.notes ≡ b
        → list_any (is_admission_of at.row.step.peer at.message.mid) at.row.notes ≡ true
        → list_any is_admitting at.row.notes ≡ true
    some true is h = is
    some false is h =
        absurd (false≢true
        (sym (none_pass is_admitting (is_admission_of at.row.step.peer at.message.mid)
        (never at.row.step.peer at.message.mid) at.row.notes is) ∙ h))

-- the row of a commit
answers_once : (rows before : List Row) (r : Row) (place : ℕ) (m : Message)
    → AreRows rows
    → Within rows before r
    → AdmittedAt before place r.step
    → Commits r place
    → reading r.step.datagram ≡ Ok m
    → AnswersOnce r place m
answers_once rows before r place m made within at commits read =
    let facts : Does before r = does rows before r made within in
    let sent_is : r.sent ≡ (effects (step.Commit place) r.starved before r.moment.0 r.step).sent =
    facts.0 ∙ ap (λ k. (effects k r.starved before r.moment.0 r.step).sent) commits in
    let notes_are : r.notes ≡ (effects (step.Commit place) r.starved before r.moment.0 r.step).notes
    = facts.1 ∙ ap (λ k. (effects k r.starved before r.moment.0 r.step).notes) commits in
    let it : SendsOnce r.step place m r.starved
    (effects (step.Commit place) r.starved before r.moment.0 r.step) =
    effects_once r.starved before r.moment.0 place r.step m read
    (admitted_writes rows before r place m made within at read) in
    record {
      answer = answer r.step m it.reply;
      one = ap responses_in sent_is ∙ it.one;
      like = answer_like r.step m it.reply;
      octets = spelling (answer r.step m it.reply);
      read = it.read;
      sent =
          subst (λ ds. IsAmong ds (r.step.peer, spelling (answer r.step m it.reply)))
          (sym sent_is)
          (among_index (r.step.peer, spelling (answer r.step m it.reply)) _ it.sent);
      keeps = λ ample.
          subst (λ ns. IsAmong ns (note.Settled place (spelling (answer r.step m it.reply))))
          (sym notes_are)
          (among_index (note.Settled place (spelling (answer r.step m it.reply))) _
          (it.keeps ample));
    }

-- a write that comes again
answers_again : (rows before : List Row) (r : Row) (m : Message) (first : Event)
    → AreRows rows
    → Within rows before r
    → HearsWrite r m
    → repeated r.moment.0 r.step.peer m.mid (events before) ≡ Some first
    → (r.sent ≡ sent_to r.step.peer (settled first.place (events before))) × (r.notes ≡ [])
answers_again rows before r m first made within hears found =
    let facts : Does before r = does rows before r made within in
    let is : effects r.step.kind r.starved before r.moment.0 r.step
    ≡ write_effects (events before) r.moment.0 r.step m =
    ap (λ k. effects k r.starved before r.moment.0 r.step) hears.heard
    ∙ (ap (λ b. effects step.Admit b before r.moment.0 r.step) hears.ample
    ∙ effects_write before r.moment.0 r.step m hears.read hears.asks hears.unrefused
    hears.writes) in
    let it : AnsweredAgain r.step (settled first.place (events before))
    (write_effects (events before) r.moment.0 r.step m) =
    write_again before r.moment.0 r.step m first found in (
      facts.0 ∙ (ap (λ (e : Effects). e.sent) is ∙ it.sent),
      facts.1 ∙ (ap (λ (e : Effects). e.notes) is ∙ it.notes),
    )

-- ---- the sentence

rows-AnsweredAlike : (rows : List Row)
    → AreRows rows
    → CommitsPlaced rows
    → AllRows RowGoes rows
    → AnsweredAlike rows
rows-AnsweredAlike rows made placed all = record {
  once = λ before r place m within commits read.
      answers_once rows before r place m made within (placed before r place within commits) commits
      read;
  single = λ before r m within no_tick read asks.
      singly before r m within no_tick read asks;
  alike = λ sent request responds no_tick heard.
      likes sent request sent.here.row.step.kind refl no_tick responds heard;
  again = λ before r m first within hears found.
      answers_again rows before r m first made within hears found;
  kept = λ before r place octets within there. keeps before r place octets within there;
  admitted = λ before r peer mid within there.
      rows-AdmitsWrite rows before r peer mid made within there;
  failed = λ before r place within there.
      rows-FailsWrite rows before r place made within
      (any_at_index (is_failure_of place) r.notes (note.Failed place) there (eqb-refl place));
  starved = λ before r m within fits read asks out.
      row_runs_out before r m (does rows before r made within) fits read asks out;
  commits = λ sent no_tick says. does_it sent sent.here.row.step.kind refl no_tick says;
  located = λ sent no_tick created. names sent sent.here.row.step.kind refl no_tick created;
}
  where
    singly : (before : List Row) (r : Row) (m : Message)
        → Within rows before r
        → IsNotOfTick r.step.kind
        → reading r.step.datagram ≡ Ok m
        → role_of m.kind m.code ≡ role.Request
        → length (responses_in r.sent) ≤ 1
    singly before r m within no_tick read asks = by r.step.kind refl
      where
        other : (k : StepKind)
            → r.step.kind ≡ k
            → IsOther k
            → length (responses_in r.sent) ≤ 1
        other k is fits =
            one_response r.sent
            (subst AtMostOne (sym ((does rows before r made within).0
            ∙ ap (λ x. (effects x r.starved before r.moment.0 r.step).sent) is))
            (effects_one k r.starved before r.moment.0 r.step m fits read asks))

        by : (k : StepKind) → r.step.kind ≡ k → length (responses_in r.sent) ≤ 1
        by step.Admit is = other step.Admit is tt
        by step.Look is = other step.Look is tt
        by (step.Commit place) is =
            let it : AnswersOnce r place m =
            answers_once rows before r place m made within (placed before r place within is) is
            read in
            let one : ◌≡◌ {A = ℕ} (length (responses_in r.sent)) 1 =
            ap (λ (ms : List Message). length ms) it.one in
            omega (arith, one)
        by (step.Keep body current) is = other (step.Keep body current) is tt
        by step.Tick is = absurd (subst IsNotOfTick is no_tick)
        by (step.Begin first) is = other (step.Begin first) is tt

    row_is : (sent : Sent rows) → RowGoes sent.here.before sent.here.row
    row_is sent = row_within RowGoes rows sent.here.before sent.here.row all sent.within

    one : (sent : Sent rows) (kind : StepKind)
        → AllByRecursion
        (IsDispatch sent.here.before sent.here.row.moment.0 kind sent.here.row.step
        sent.here.row.notes) sent.here.row.sent
        → IsDispatch sent.here.before sent.here.row.moment.0 kind sent.here.row.step
        sent.here.row.notes (sent.peer, sent.octets)
    one sent kind h =
        all_at_index
        (IsDispatch sent.here.before sent.here.row.moment.0 kind sent.here.row.step
        sent.here.row.notes) sent.here.row.sent (sent.peer, sent.octets) sent.among h

    dispatch : (sent : Sent rows) (kind : StepKind)
        → IsNotOfTick kind
        → GoesBy kind sent.here.before sent.here.row
        → IsDispatch sent.here.before sent.here.row.moment.0 kind sent.here.row.step
        sent.here.row.notes (sent.peer, sent.octets)
    dispatch sent step.Admit no_tick h = one sent step.Admit h
    dispatch sent step.Look no_tick h = one sent step.Look h
    dispatch sent (step.Commit place) no_tick h = one sent (step.Commit place) h
    dispatch sent (step.Keep body current) no_tick h = one sent (step.Keep body current) h
    dispatch sent step.Tick no_tick h = absurd no_tick
    dispatch sent (step.Begin first) no_tick h = one sent (step.Begin first) h

    its : (sent : Sent rows) (kind : StepKind)
        → sent.here.row.step.kind ≡ kind
        → IsNotOfTick sent.here.row.step.kind
        → IsDispatch sent.here.before sent.here.row.moment.0 kind sent.here.row.step
        sent.here.row.notes (sent.peer, sent.octets)
    its sent kind is no_tick =
        dispatch sent kind (subst IsNotOfTick is no_tick)
        (subst (λ k. GoesBy k sent.here.before sent.here.row) is (row_is sent).goes)

    likes : (sent : Sent rows) (request : Message) (kind : StepKind)
        → sent.here.row.step.kind ≡ kind
        → IsNotOfTick sent.here.row.step.kind
        → is_response sent.message ≡ true
        → reading sent.here.row.step.datagram ≡ Ok request
        → IsAnswerLike request sent.message ⊎ RepeatsReply sent.here sent.peer sent.octets
    likes sent request kind is no_tick responds heard =
        dispatch_alike sent.here.before sent.here.row kind sent.peer sent.octets request
        sent.message is sent.read responds heard (its sent kind is no_tick)

    names : (sent : Sent rows) (kind : StepKind)
        → sent.here.row.step.kind ≡ kind
        → IsNotOfTick sent.here.row.step.kind
        → sent.message.code ≡ codes_of.created
        → NamesEntry sent.here sent.message ⊎ RepeatsReply sent.here sent.peer sent.octets
    names sent kind is no_tick created =
        dispatch_located sent.here.before sent.here.row kind sent.peer sent.octets sent.message is
        sent.read created (its sent kind is no_tick)

    does_it : (sent : Sent rows) (kind : StepKind)
        → sent.here.row.step.kind ≡ kind
        → IsNotOfTick sent.here.row.step.kind
        → is_code_of_write sent.message.code ≡ true
        → ((place : ℕ) × Commits sent.here.row place)
        ⊎ RepeatsReply sent.here sent.peer sent.octets
    does_it sent kind is no_tick says =
        dispatch_commits sent.here.before sent.here.row kind sent.peer sent.octets sent.message is
        sent.read says (its sent kind is no_tick)

    keeps : (before : List Row) (r : Row) (place : ℕ) (octets : List ℕ)
        → Within rows before r
        → IsAmong r.notes (note.Settled place octets)
        → Commits r place × IsAmong r.sent (r.step.peer, octets)
    keeps before r place octets within there =
        let it : SettlesAnswer r.step.kind r.step r.sent place octets =
        all_at_index (SettleFact r.step.kind r.step r.sent) r.notes (note.Settled place octets)
        there (row_within RowGoes rows before r all within).settles in
        (it.commits, among_index (r.step.peer, octets) r.sent it.among)

-- in each journal of the machine
pub journal-AnsweredAlike : (rows : List Row) → IsJournal rows → AnsweredAlike rows
journal-AnsweredAlike rows journal =
    rows-AnsweredAlike rows (journal-AreRows rows journal)
    (λ before r place within commits. journal-place rows before r place journal within commits)
    (journal_goes rows journal)

-- and in each of a desk, where each look, commit and keep is made for a request, and each keep has
-- a tag of eight octets
pub desk-AnsweredAlike : (rows : List Row) → IsDeskJournal rows → AreForRequests rows
    → AnsweredAlike rows
desk-AnsweredAlike rows journal requests =
    rows-AnsweredAlike rows (desk-AreRows rows journal)
    (λ before r place within commits. desk-place rows before r place journal within commits)
    (desk_goes rows journal requests)
