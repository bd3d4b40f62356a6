-- Who is sent to (the sentence SentToWhom).
use Rattle.std.proofs.Common.{
  ◌≡◌,
  ◌⊎◌,
  inl,
  inr,
  ℕ,
  suc,
  ◌≤◌,
  ◌==◌,
  Bool,
  true,
  false,
  cond,
  List,
  [],
  ◌∷◌,
  ◌++◌,
  length,
  find,
  Option,
  Some,
  None,
  Ok,
  refl,
  sym,
  ap,
  subst,
  ◌∙◌,
  eqb-true,
  arith,
}
use Rattle.std.specs.Prelude.{is_some}
use Rattle.std.specs.List.{list_any, IsAmong, AllByRecursion}
use Rattle.std.proofs.lemmas.Bool.{and_parts, false≢true}
use Rattle.std.proofs.lemmas.Option.{same_Some}
use Rattle.rd_base.specs.declared.peers.Peer.{Peer}
use Rattle.rd_base.proofs.lemmas.Among.{Among, all_among, among_all, all_at_index, find_passes}
use Rattle.rd_base.proofs.lemmas.Each.{each_both, each_weaker}
use Rattle.message_model.specs.declared.blocks.Block.{Block}
use Rattle.message_model.specs.declared.messages.Kind4.TheVariants.{Rst, Ack}
use Rattle.message_model.specs.declared.messages.Role.TheVariants as role
use Rattle.message_model.specs.Message.{Message, role_of}
use Rattle.message_model.specs.Reading.{reading}
use Rattle.message_model.specs.Spelling.{header_spelling, spelling}
use Rattle.message_model.specs.FetchRequests.{fetch_request}
use Rattle.event_model.specs.declared.notes.Note.{Note}
use Rattle.event_model.specs.declared.notes.Note.TheVariants as note
use Rattle.event_model.specs.Same.{is_same_peer}
use Rattle.event_model.specs.Repeats.{answer_noted, settled}
use Rattle.event_model.specs.Fetches.{is_fetching, is_request_to}
use Rattle.event_model.proofs.SameLaws.{is_same_peer-Decides}
use Rattle.journal_model.specs.declared.steps.Step.{Step}
use Rattle.journal_model.specs.declared.steps.StepKind.{StepKind}
use Rattle.journal_model.specs.declared.steps.StepKind.TheVariants as step
use Rattle.journal_model.specs.declared.rows.Row.{Row}
use Rattle.journal_model.specs.Journal.{events}
use Rattle.journal_model.specs.Effects.{empty_message}
use Rattle.journal_model.specs.Machine.{IsJournal}
use Rattle.journal_model.specs.DeskJournal.{IsDeskJournal}
use Rattle.journal_model.specs.PlacedRows.{Within, Placed, last_row}
use Rattle.journal_model.specs.SentDatagrams.{AreForRequests}
use Rattle.journal_model.specs.CarriedBlocks.{Sent}
use Rattle.journal_model.specs.Ticks.{is_confirmable_with, confirmable_sent}
use Rattle.journal_model.proofs.EventRows.{AllRows, RowOf, row_of, row_within, said_by}
use Rattle.journal_model.proofs.RowEquations.{events-row}
use Rattle.journal_model.proofs.entries.JournalLaws.{journal-AreRows, desk-AreRows}
use Rattle.journal_model.proofs.entries.CommitPlaces.{journal-place, desk-place}
use Rattle.journal_model.proofs.sends.BodyAnswers.{same_message}
use Rattle.journal_model.proofs.sends.ValidSends.{is_confirmable}
use Rattle.journal_model.proofs.sends.TickSends.{confirmable_of}
use Rattle.headline_law.specs.SentToWhom.{AsksOfFetch, AsksAgain, GoesToWhom, SentToWhom}
use Rattle.headline_law.proofs.datagrams.DatagramLaws.{journal_requests}
use Rattle.headline_law.proofs.answers.SettledNotes.{SettlesAnswer, SettleFact}
use Rattle.headline_law.proofs.whom.RunningFetches.{empty_read, request_read}
use Rattle.headline_law.proofs.whom.Dispatches.{
  IsDispatch,
  answers,
  repeats,
  rejects,
  acknowledges,
  fetches_block,
}
use Rattle.headline_law.proofs.whom.TickDispatches.{Responds, is_one, AgainAsked}
use Rattle.headline_law.proofs.whom.GoesRows.{
  GoesBy,
  RowGoes,
  answer_responds,
  rows_go,
}

-- ---- elements of lists

-- what is one of a list has an index there
pub among_index : {X : Type 0} (x : X) (xs : List X) → Among x xs → IsAmong xs x
among_index x [] none = absurd none
among_index x (y ∷ ys) (inl same) = (0, (omega arith, sym same))
among_index x (y ∷ ys) (inr further) =
    let it = among_index x ys further in
    (suc it.0, (let low = it.1.0 in omega (arith, low), it.1.1))

-- each is one of its list
pub each_among : {X : Type 0} (xs : List X) → AllByRecursion (IsAmong xs) xs
each_among xs = among_all (IsAmong xs) xs (λ x there. among_index x xs there)

-- ---- what is settled

-- the row that settled a place, with the octets
pub record SettledIn (rows : List Row) (place : ℕ) (octets : List ℕ) : Type 0 where
  pub placed : Placed
  pub within : Within rows placed.before placed.row
  pub by_it : SettlesAnswer placed.row.step.kind placed.row.step placed.row.sent place octets

pub settled_in : (rows : List Row)
    → AllRows RowGoes rows
    → (place : ℕ) (octets : List ℕ)
    → settled place (events rows) ≡ Some octets
    → SettledIn rows place octets
unfolding settled
settled_in rows all place octets e =
    let f = said_by (answer_noted place) (events rows) octets e in
    let it : RowOf (λ n. is_some (answer_noted place n)) rows f.0 =
    row_of (λ n. is_some (answer_noted place n)) rows f.0 f.1 in
    record {
      placed = it.placed;
      within = it.within;
      by_it =
          said f.0.note f.2 it.placed.row.sent it.placed.row.step.kind it.placed.row.step
          (all_among
          (SettleFact it.placed.row.step.kind it.placed.row.step it.placed.row.sent) f.0.note
          it.placed.row.notes
          (row_within RowGoes rows it.placed.before it.placed.row all it.within).settles
          it.note);
    }
  where
    said : (n : Note)
        → answer_noted place n ≡ Some octets
        → (sent : List (Peer × List ℕ)) (kind : StepKind) (s : Step)
        → SettleFact kind s sent n
        → SettlesAnswer kind s sent place octets
    said (note.Settled p reply) h sent kind s fact = by (p == place) refl h
      where
        by : (b : Bool)
            → (p == place) ≡ b
            → cond b (Some reply) None ≡ Some octets
            → SettlesAnswer kind s sent place octets
        by true same g =
            subst (λ (os : List ℕ). SettlesAnswer kind s sent place os)
            (same_Some reply octets g)
            (subst (λ n. SettlesAnswer kind s sent n reply) (eqb-true p place same) fact)
        by false same g = absurd (let no : None ≡ Some octets = g in cc)
    said _ h sent kind s fact = absurd (let no : None ≡ Some octets = h in cc)

-- it is a response
pub kept_responds : (rows : List Row)
    → AllRows RowGoes rows
    → (place : ℕ) (octets : List ℕ)
    → settled place (events rows) ≡ Some octets
    → Responds octets
kept_responds rows all place octets e =
    let it : SettlesAnswer _ _ _ place octets = (settled_in rows all place octets e).by_it in
    subst Responds (sym it.octets_are)
    (answer_responds (settled_in rows all place octets e).placed.row.step it.message it.reply
    it.read it.good it.responds)

-- ---- what is confirmable

-- octets that are read as a request, where they are read
abbrev Asks : List ℕ → Type 0
Asks octets = (m : Message) → reading octets ≡ Ok m → role_of m.kind m.code ≡ role.Request

-- a request of a fetch is one
request_asks : (mid : ℕ) (token : List ℕ) (b : Option Block)
    → length token ≤ 8
    → Asks (spelling (fetch_request mid token b))
request_asks mid token b small m e =
    subst (λ (x : Message). role_of x.kind x.code ≡ role.Request)
    (same_message (fetch_request mid token b) m (spelling (fetch_request mid token b))
    (request_read mid token b small) e) refl

-- what is confirmable is a response or a request
abbrev Fate : Peer × List ℕ → Type 0
Fate d = is_confirmable d.1 ≡ true → Responds d.1 ⊎ Asks d.1

-- a datagram of a step that is no tick
dispatch_fate : (rows : List Row) (moment : ℕ) (kind : StepKind) (s : Step) (notes : List Note)
    (d : Peer × List ℕ)
    → AllRows RowGoes rows
    → IsDispatch rows moment kind s notes d
    → Fate d
unfolding spelling header_spelling
dispatch_fate rows moment kind s notes d all (answers m reply read asks h is) con =
    inl (subst (λ (x : Peer × List ℕ). Responds x.1) (sym is)
    (answer_responds s m reply read h.good h.responds))
dispatch_fate rows moment kind s notes d all (repeats m first octets here read asks rep stl is)
    con =
    inl (subst (λ (x : Peer × List ℕ). Responds x.1) (sym is)
    (kept_responds rows all first.place octets stl))
dispatch_fate rows moment kind s notes d all (rejects mid here so is) con =
    absurd (false≢true (ap (λ (x : Peer × List ℕ). is_confirmable x.1) (sym is) ∙ con))
dispatch_fate rows moment kind s notes d all (acknowledges mid here so is) con =
    absurd (false≢true (ap (λ (x : Peer × List ℕ). is_confirmable x.1) (sym is) ∙ con))
dispatch_fate rows moment kind s notes d all (fetches_block mid token b small asked runs is) con =
    inr (subst (λ (x : Peer × List ℕ). Asks x.1) (sym is) (request_asks mid token b small))

-- all that a row sends
abbrev AreFates : List Row → Row → Type 0
AreFates before r = AllByRecursion Fate r.sent

-- what a tick retransmits was sent by an earlier row
record AskedBefore (rows : List Row) (d : Peer × List ℕ) : Type 0 where
  runs : is_fetching d.0 (events rows) ≡ true
  first : Placed
  last : last_row (λ r. list_any (is_request_to d.0) r.notes) rows ≡ Some first
  same : IsAmong first.row.sent d
  confirmable : is_confirmable d.1 ≡ true
  fate : Fate d

asked_before : (rows : List Row) (d : Peer × List ℕ)
    → AllRows AreFates rows
    → AgainAsked rows d
    → AskedBefore rows d
asked_before rows d all a =
    let it : RowOf (is_request_to a.peer) rows a.event =
    row_of (is_request_to a.peer) rows a.event a.last in
    let found : find (is_one a.peer a.request.mid) it.placed.row.sent ≡ Some d =
    subst (λ at. confirmable_sent at a.peer a.request.mid ≡ Some d) it.at_place a.found in
    let there =
    find_passes (λ (x : Peer × List ℕ). IsAmong it.placed.row.sent x × Fate x)
    (is_one a.peer a.request.mid) it.placed.row.sent d
    (each_both (IsAmong it.placed.row.sent) Fate
    (λ (x : Peer × List ℕ). IsAmong it.placed.row.sent x × Fate x) (λ x h k. (h, k))
    it.placed.row.sent (each_among it.placed.row.sent)
    (row_within AreFates rows it.placed.before it.placed.row all it.within)) found in
    let both =
    and_parts (is_same_peer d.0 a.peer) (is_confirmable_with a.request.mid d.1) there.1 in
    let to : a.peer ≡ d.0 = sym ((is_same_peer-Decides d.0 a.peer).0 both.0) in
    record {
      runs = subst (λ p. is_fetching p (events rows) ≡ true) to a.runs;
      first = it.placed;
      last =
          subst (λ p. last_row (λ r. list_any (is_request_to p) r.notes) rows ≡ Some it.placed) to
          it.last;
      same = there.0.0;
      confirmable = confirmable_of a.request.mid d.1 both.1;
      fate = there.0.1;
    }

-- so it is of all rows
fates : (rows : List Row) → AllRows RowGoes rows → AllRows AreFates rows
fates [] all = tt
fates (r ∷ before) all = let rest = fates before all.1 in (by r.step.kind all.0.goes rest, rest)
  where
    own : (kind : StepKind)
        → AllByRecursion (IsDispatch before r.moment.0 kind r.step r.notes) r.sent
        → AreFates before r
    own kind h =
        each_weaker (IsDispatch before r.moment.0 kind r.step r.notes) Fate
        (λ d x. dispatch_fate before r.moment.0 kind r.step r.notes d all.1 x) r.sent h

    by : (kind : StepKind) → GoesBy kind before r → AllRows AreFates before → AreFates before r
    by step.Admit h rest = own step.Admit h
    by step.Look h rest = own step.Look h
    by (step.Commit place) h rest = own (step.Commit place) h
    by (step.Keep body current) h rest = own (step.Keep body current) h
    by step.Tick h rest =
        each_weaker (λ (d : Peer × List ℕ). Responds d.1 ⊎ AgainAsked before d) Fate
        (λ d x con. elim x [
          | inl responds ↦ inl responds
          | inr again ↦ (asked_before before d rest again).fate con
        ]) r.sent h
    by (step.Begin first) h rest = own (step.Begin first) h

-- ---- the sentence

-- one datagram of a row
abbrev Goes : Placed → Peer → List ℕ → Message → Type 0
Goes here peer octets m = GoesToWhom (role_of m.kind m.code) here peer octets m

-- a response
responds_goes : (here : Placed) (peer : Peer) (octets : List ℕ) (m : Message)
    → role_of m.kind m.code ≡ role.Response
    → Goes here peer octets m
responds_goes here peer octets m is =
    subst (λ r. GoesToWhom r here peer octets m) (sym is) tt

-- a datagram of a step that is no tick
dispatch_goes : (before : List Row) (r : Row) (kind : StepKind) (peer : Peer) (octets : List ℕ)
    (m : Message)
    → r.step.kind ≡ kind
    → AllRows RowGoes before
    → reading octets ≡ Ok m
    → IsDispatch before r.moment.0 kind r.step r.notes (peer, octets)
    → Goes (record { row = r; before = before }) peer octets m
dispatch_goes before r kind peer octets m of_kind all e (answers n reply read asks h is) =
    responds_goes (record { row = r; before = before }) peer octets m
    (answer_responds r.step n reply read h.good h.responds m
    (ap (λ (x : Peer × List ℕ). reading x.1) (sym is) ∙ e))
dispatch_goes before r kind peer octets m of_kind all e
    (repeats n first kept here read asks rep stl is) =
    responds_goes (record { row = r; before = before }) peer octets m
    (kept_responds before all first.place kept stl m
    (ap (λ (x : Peer × List ℕ). reading x.1) (sym is) ∙ e))
dispatch_goes before r kind peer octets m of_kind all e (rejects mid here so is) =
    subst (λ (x : Message). Goes (record { row = r; before = before }) peer octets x)
    (same_message (empty_message Rst mid) m (spelling (empty_message Rst mid))
    (empty_read Rst mid) (ap (λ (x : Peer × List ℕ). reading x.1) (sym is) ∙ e))
    (record {
      heard = of_kind ∙ here;
      to = ap (λ (x : Peer × List ℕ). x.0) is;
      rejected = so;
    })
dispatch_goes before r kind peer octets m of_kind all e (acknowledges mid here so is) =
    subst (λ (x : Message). Goes (record { row = r; before = before }) peer octets x)
    (same_message (empty_message Ack mid) m (spelling (empty_message Ack mid))
    (empty_read Ack mid) (ap (λ (x : Peer × List ℕ). reading x.1) (sym is) ∙ e))
    (record {
      heard = of_kind ∙ here;
      to = ap (λ (x : Peer × List ℕ). x.0) is;
      acknowledged = so;
    })
dispatch_goes before r kind peer octets m of_kind all e
    (fetches_block mid token b small asked runs is) =
    subst (λ (x : Message). Goes (record { row = r; before = before }) peer octets x)
    (same_message (fetch_request mid token b) m (spelling (fetch_request mid token b))
    (request_read mid token b small)
    (ap (λ (x : Peer × List ℕ). reading x.1) (sym is) ∙ e))
    (subst (λ (p : Peer).
    AsksOfFetch (record { row = r; before = before }) p (fetch_request mid token b)
    ⊎ AsksAgain (record { row = r; before = before }) p octets)
    (ap (λ (x : Peer × List ℕ). x.0) (sym is))
    (inl (record {
      block = b;
      request = refl;
      noted = asked;
      runs = ap (is_fetching r.step.peer) (events-row before r) ∙ runs;
    })))

-- a datagram of a tick
tick_goes_to : (before : List Row) (r : Row) (peer : Peer) (octets : List ℕ) (m : Message)
    → r.step.kind ≡ step.Tick
    → AllRows AreFates before
    → reading octets ≡ Ok m
    → Responds octets ⊎ AgainAsked before (peer, octets)
    → Goes (record { row = r; before = before }) peer octets m
tick_goes_to before r peer octets m ticks all e (inl responds) =
    responds_goes (record { row = r; before = before }) peer octets m (responds m e)
tick_goes_to before r peer octets m ticks all e (inr again) =
    let it : AskedBefore before (peer, octets) = asked_before before (peer, octets) all again in
    elim (it.fate it.confirmable) [
      | inl responds ↦ responds_goes (record { row = r; before = before }) peer octets m
          (responds m e)
      | inr asks ↦ subst (λ x. GoesToWhom x (record { row = r; before = before }) peer octets m)
          (sym (asks m e))
          (inr (record {
            ticks = ticks;
            runs = it.runs;
            first = it.first;
            last = it.last;
            same = it.same;
          }))
    ]

-- so it is of rows of which it is known what each sends
pub rows-SentToWhom : (rows : List Row) → AllRows RowGoes rows → SentToWhom rows
rows-SentToWhom rows all = record { goes = λ sent. by sent sent.here.row.step.kind refl }
  where
    goes_on : (before : List Row) (r : Row) → Within rows before r → AllRows RowGoes before
    goes_on before r within = after within.later (subst (AllRows RowGoes) within.whole all)
      where
        after : (later : List Row)
            → AllRows RowGoes (later ++ r ∷ before)
            → AllRows RowGoes before
        after [] h = h.1
        after (x ∷ later) h = after later h.1

    row_is : (sent : Sent rows) → RowGoes sent.here.before sent.here.row
    row_is sent = row_within RowGoes rows sent.here.before sent.here.row all sent.within

    own : (sent : Sent rows) (kind : StepKind)
        → sent.here.row.step.kind ≡ kind
        → AllByRecursion
        (IsDispatch sent.here.before sent.here.row.moment.0 kind sent.here.row.step
        sent.here.row.notes) sent.here.row.sent
        → Goes sent.here sent.peer sent.octets sent.message
    own sent kind is h =
        dispatch_goes sent.here.before sent.here.row kind sent.peer sent.octets sent.message is
        (goes_on sent.here.before sent.here.row sent.within) sent.read
        (all_at_index
        (IsDispatch sent.here.before sent.here.row.moment.0 kind sent.here.row.step
        sent.here.row.notes) sent.here.row.sent (sent.peer, sent.octets) sent.among h)

    kinds : (sent : Sent rows) (kind : StepKind)
        → sent.here.row.step.kind ≡ kind
        → GoesBy kind sent.here.before sent.here.row
        → Goes sent.here sent.peer sent.octets sent.message
    kinds sent step.Admit is h = own sent step.Admit is h
    kinds sent step.Look is h = own sent step.Look is h
    kinds sent (step.Commit place) is h = own sent (step.Commit place) is h
    kinds sent (step.Keep body current) is h = own sent (step.Keep body current) is h
    kinds sent step.Tick is h =
        tick_goes_to sent.here.before sent.here.row sent.peer sent.octets sent.message is
        (fates sent.here.before (goes_on sent.here.before sent.here.row sent.within)) sent.read
        (all_at_index (λ (d : Peer × List ℕ). Responds d.1 ⊎ AgainAsked sent.here.before d)
        sent.here.row.sent (sent.peer, sent.octets) sent.among h)
    kinds sent (step.Begin first) is h = own sent (step.Begin first) is h

    by : (sent : Sent rows) (kind : StepKind)
        → sent.here.row.step.kind ≡ kind
        → Goes sent.here sent.peer sent.octets sent.message
    by sent kind is =
        kinds sent kind is
        (subst (λ k. GoesBy k sent.here.before sent.here.row) is (row_is sent).goes)

-- what each row of a journal of the machine sends
pub journal_goes : (rows : List Row) → IsJournal rows → AllRows RowGoes rows
journal_goes rows journal =
    rows_go rows (journal-AreRows rows journal)
    (λ before r place within commits. journal-place rows before r place journal within commits)
    (journal_requests rows journal)

-- and each of one of a desk, where each look, commit and keep is made for a request, and each keep
-- has a tag of eight octets
pub desk_goes : (rows : List Row) → IsDeskJournal rows → AreForRequests rows → AllRows RowGoes rows
desk_goes rows journal requests =
    rows_go rows (desk-AreRows rows journal)
    (λ before r place within commits. desk-place rows before r place journal within commits)
    requests

-- so it is in each journal of the machine
pub journal-SentToWhom : (rows : List Row) → IsJournal rows → SentToWhom rows
journal-SentToWhom rows journal = rows-SentToWhom rows (journal_goes rows journal)

-- and in each such journal of a desk
pub desk-SentToWhom : (rows : List Row) → IsDeskJournal rows → AreForRequests rows
    → SentToWhom rows
desk-SentToWhom rows journal requests = rows-SentToWhom rows (desk_goes rows journal requests)
