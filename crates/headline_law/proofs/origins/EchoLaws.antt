-- The directory sends a request only to a peer that answered a challenge.
use Rattle.std.proofs.Common.{
  ◌≡◌,
  ◌⊎◌,
  inl,
  inr,
  ℕ,
  ◌==◌,
  Bool,
  true,
  false,
  cond,
  List,
  [],
  ◌∷◌,
  ◌++◌,
  Option,
  Some,
  None,
  Ok,
  refl,
  sym,
  ap,
  subst,
  ◌∙◌,
}
use Rattle.std.specs.Prelude.{is_some}
use Rattle.std.specs.List.{AllByRecursion}
use Rattle.std.proofs.lemmas.Bool.{false≢true}
use Rattle.std.proofs.lemmas.Option.{same_Some}
use Rattle.rd_base.specs.declared.peers.Peer.{Peer}
use Rattle.rd_base.proofs.lemmas.Among.{all_among, all_at_index}
use Rattle.rd_base.proofs.lemmas.Each.{each_weaker}
use Rattle.message_model.specs.Codes as codes_of
use Rattle.message_model.specs.Message.{Message}
use Rattle.message_model.specs.Reading.{reading}
use Rattle.message_model.specs.Request.{path_in}
use Rattle.message_model.proofs.ReadingLaws.{header_read}
use Rattle.event_model.specs.declared.notes.Note.{Note}
use Rattle.event_model.specs.declared.notes.Note.TheVariants as note
use Rattle.event_model.specs.Events.{Event}
use Rattle.event_model.specs.Repeats.{answer_noted, settled}
use Rattle.event_model.specs.Fetches.{is_request_to, last_request, request_of, is_fetching}
use Rattle.event_model.proofs.SameLaws.{is_same_peer-Decides}
use Rattle.journal_model.specs.declared.steps.Step.{Step}
use Rattle.journal_model.specs.declared.steps.StepKind.{StepKind}
use Rattle.journal_model.specs.declared.steps.StepKind.TheVariants as step
use Rattle.journal_model.specs.declared.rows.Row.{Row}
use Rattle.journal_model.specs.Journal.{events, row_at}
use Rattle.journal_model.specs.Responses.{answered_request}
use Rattle.journal_model.specs.Machine.{IsJournal}
use Rattle.journal_model.specs.DeskJournal.{IsDeskJournal}
use Rattle.journal_model.specs.Rows.{effects, row_moment, row, AreRows, empty, added}
use Rattle.journal_model.specs.PlacedRows.{Within, code_at}
use Rattle.journal_model.specs.CarriedBlocks.{Sent}
use Rattle.journal_model.specs.AdmittedWrites.{AdmittedAt}
use Rattle.journal_model.specs.FetchCompletions.{AnswersFetch}
use Rattle.journal_model.proofs.EventRows.{AllRows, RowOf, row_of, row_within, within_more, said_by}
use Rattle.journal_model.proofs.RowEquations.{row-step, effects-Tick}
use Rattle.journal_model.proofs.observers.ObserversKnow.{IsNoTick}
use Rattle.journal_model.proofs.entries.JournalLaws.{journal-AreRows, desk-AreRows}
use Rattle.journal_model.proofs.entries.CommitPlaces.{AtPlace, at_place, journal-place, desk-place}
use Rattle.journal_model.proofs.datagrams.SentRows.{CommitsPlaced}
use Rattle.journal_model.proofs.sends.BodyAnswers.{same_message}
use Rattle.headline_law.specs.AnsweredChallenges.{ShownBefore}
use Rattle.headline_law.specs.EchoedFirst.{is_request, IsFetchRequest, EchoedFirst}
use Rattle.headline_law.proofs.origins.NoteOrigins.{NoteOrigin, row-NoteOrigins}
use Rattle.headline_law.proofs.origins.InventionLaws.{admitted_shows}
use Rattle.headline_law.proofs.origins.ChallengeLaws.{challenge_of}
use Rattle.headline_law.proofs.origins.ReplyCodes.{IsReply}
use Rattle.headline_law.proofs.origins.StepRequests.{
  SettledReplies,
  CommitsSimple,
  AsksPeer,
  MaySend,
  SettlesReply,
  effects_may,
  effects_settle,
  tick_sends_only,
}

-- ---- shown in earlier rows, and so in more

within_all : (rows before deeper : List Row) (r other : Row)
    → Within rows before r
    → Within before deeper other
    → Within rows deeper other
within_all rows before deeper r other outer inner =
    subst (λ (all : List Row). Within all deeper other) (sym outer.whole) (after outer.later)
  where
    after : (later : List Row) → Within (later ++ r ∷ before) deeper other
    after [] = within_more r before deeper other inner
    after (x ∷ later) = within_more x (later ++ r ∷ before) deeper other (after later)

shown_more : (rows before : List Row) (r : Row) (peer : Peer)
    → Within rows before r
    → ShownBefore before peer
    → ShownBefore rows peer
shown_more rows before r peer within it = record {
  shown = it.shown;
  within = within_all rows before it.shown.before r it.shown.row within it.within;
  shows = it.shows;
  peer_is = it.peer_is;
}

-- ---- what rows note and send

-- who is asked by a note showed its address
abbrev AskedShown : List Row → Note → Type 0
AskedShown before (note.Asked peer token mid params number) = ShownBefore before peer
AskedShown before _ = Unit {0}

-- a datagram is no request, or a GET to a peer that showed its address
abbrev SentShown : List Row → Peer × List ℕ → Type 0
SentShown before d =
    codes_of.is_request_code (code_at d.1) ≡ true
    → (code_at d.1 ≡ codes_of.get) × IsFetchRequest d.1 × ShownBefore before d.0

-- so it is of a row; and what it settles is no request
record RowShown (before : List Row) (r : Row) : Type 0 where
  asked : AllByRecursion (AskedShown before) r.notes
  sent : AllByRecursion (SentShown before) r.sent
  settles : AllByRecursion SettlesReply r.notes

-- ---- what is known of earlier rows

-- the last request of a fetch was made of a peer that showed its address
fetch_shown : (rows : List Row) (s : Step)
    → AllRows RowShown rows
    → AnswersFetch rows s
    → ShownBefore rows s.peer
fetch_shown rows s all it = running (is_fetching s.peer (events rows)) it.fetch
  where
    of_note : (before : List Row) (r : Row) (n : Note)
        → Within rows before r
        → is_request_to s.peer n ≡ true
        → AskedShown before n
        → ShownBefore rows s.peer
    of_note before r (note.Asked p token mid params number) within same shown =
        subst (ShownBefore rows) ((is_same_peer-Decides p s.peer).0 same)
        (shown_more rows before r p within shown)
    of_note before r _ within same shown = absurd (false≢true same)

    last : (o : Option Event)
        → last_request s.peer (events rows) ≡ o
        → answered_request it.message (request_of o) ≡ Some it.request
        → ShownBefore rows s.peer
    last None e h = absurd (let no : None ≡ Some it.request = h in cc)
    last (Some e) is h =
        let found : RowOf (is_request_to s.peer) rows e = row_of (is_request_to s.peer) rows e is in
        of_note found.placed.before found.placed.row e.note found.within found.kind
        (all_among (AskedShown found.placed.before) e.note found.placed.row.notes
        (row_within RowShown rows found.placed.before found.placed.row all found.within).asked
        found.note)

    running : (b : Bool)
        → cond b (answered_request it.message (request_of (last_request s.peer (events rows)))) None
        ≡ Some it.request
        → ShownBefore rows s.peer
    running true h = last (last_request s.peer (events rows)) refl h
    running false h = absurd (let no : None ≡ Some it.request = h in cc)

-- what admissions were answered with is no request
settled_replies : (rows : List Row) → AllRows RowShown rows → SettledReplies (events rows)
unfolding settled
settled_replies rows all place octets e =
    let f = said_by (answer_noted place) (events rows) octets e in
    let it : RowOf (λ n. is_some (answer_noted place n)) rows f.0 =
    row_of (λ n. is_some (answer_noted place n)) rows f.0 f.1 in
    said f.0.note f.2
    (all_among SettlesReply f.0.note it.placed.row.notes
    (row_within RowShown rows it.placed.before it.placed.row all it.within).settles it.note)
  where
    said : (n : Note) → answer_noted place n ≡ Some octets → SettlesReply n → IsReply octets
    said (note.Settled p reply) h good = by (p == place) h
      where
        by : (b : Bool) → cond b (Some reply) None ≡ Some octets → IsReply octets
        by true g = subst IsReply (same_Some reply octets g) good
        by false g = absurd (let no : None ≡ Some octets = g in cc)
    said _ h good = absurd (let no : None ≡ Some octets = h in cc)

-- a commit of a simple registration is for a peer that showed its address
commit_shown : (rows : List Row) (s : Step)
    → AreRows rows
    → ((place : ℕ) → s.kind ≡ step.Commit place → AdmittedAt rows place s)
    → CommitsSimple s
    → ShownBefore rows s.peer
commit_shown rows s all placed it =
    let adm : AdmittedAt rows it.place s = placed it.place it.commits in
    let same : adm.message ≡ it.message =
    same_message adm.message it.message adm.row.step.datagram adm.read
    (ap reading adm.datagram ∙ it.read) in
    record {
      shown = record { row = adm.row; before = adm.before };
      within = adm.within;
      shows =
          admitted_shows rows it.place s all adm
          (ap (λ (m : Message). path_in m) same ∙ it.simple);
      peer_is = adm.from_peer;
    }

-- ---- one row more

-- the row of a step
row_shown : (rows : List Row) (s : Step) (starved : Bool)
    → AreRows rows
    → ((place : ℕ) → s.kind ≡ step.Commit place → AdmittedAt rows place s)
    → AllRows RowShown rows
    → RowShown rows (row rows s starved)
unfolding row
row_shown rows s starved made placed all = record {
  asked =
      each_weaker (NoteOrigin rows (row_moment rows s) s) (AskedShown rows) asked
      (effects s.kind starved rows (row_moment rows s) s).notes
      (row-NoteOrigins rows s starved);
  sent = by s.kind refl;
  settles = effects_settle s.kind starved rows (row_moment rows s) s;
}
  where
    for_either : CommitsSimple s ⊎ AnswersFetch rows s → ShownBefore rows s.peer
    for_either (inl it) = commit_shown rows s made placed it
    for_either (inr it) = fetch_shown rows s all it

    asked : (n : Note) → NoteOrigin rows (row_moment rows s) s n → AskedShown rows n
    asked (note.Asked peer token mid params number) (inl it) =
        subst (ShownBefore rows) (sym it.peer_is)
        (for_either (inl (record {
          place = it.place;
          commits = it.commits;
          message = it.message;
          read = it.read;
          simple = it.simple;
        })))
    asked (note.Asked peer token mid params number) (inr it) =
        subst (ShownBefore rows) (sym it.peer_is) (for_either (inr it.answers))
    asked _ h = tt

    own : (d : Peer × List ℕ) → MaySend rows s d → SentShown rows d
    own d may asks =
        let it : AsksPeer rows s d = may asks in
        (it.method, it.request, subst (ShownBefore rows) (sym it.to) (for_either it.why))

    no_tick : (kind : StepKind)
        → s.kind ≡ kind
        → IsNoTick kind
        → AllByRecursion (SentShown rows) (effects kind starved rows (row_moment rows s) s).sent
    no_tick kind is not_tick =
        each_weaker (MaySend rows s) (SentShown rows) own
        (effects kind starved rows (row_moment rows s) s).sent
        (effects_may kind starved rows (row_moment rows s) s is not_tick
        (settled_replies rows all))

    earlier : (place : ℕ) (r : Row)
        → row_at place rows ≡ Some r
        → AllByRecursion (SentShown rows) r.sent
    earlier place r at =
        let it : AtPlace rows place r = at_place place rows r at in
        each_weaker (SentShown it.before) (SentShown rows)
        (λ d shown asks.
        let h = shown asks in
        (h.0, h.1, shown_more rows it.before r d.0 it.within h.2)) r.sent
        (row_within RowShown rows it.before r all it.within).sent

    by : (kind : StepKind)
        → s.kind ≡ kind
        → AllByRecursion (SentShown rows) (effects kind starved rows (row_moment rows s) s).sent
    by step.Admit is = no_tick step.Admit is tt
    by step.Look is = no_tick step.Look is tt
    by (step.Commit place) is = no_tick (step.Commit place) is tt
    by (step.Keep body tag) is = no_tick (step.Keep body tag) is tt
    by step.Tick is =
        rw (effects-Tick starved rows (row_moment rows s) s)
        (tick_sends_only (SentShown rows) starved rows (row_moment rows s) s
        (λ d good asks. absurd (false≢true (sym good ∙ asks))) earlier)
    by (step.Begin first) is = no_tick (step.Begin first) is tt

-- all rows
rows_shown : (rows : List Row) → AreRows rows → CommitsPlaced rows → AllRows RowShown rows
rows_shown [] empty placed = tt
rows_shown (r ∷ before) (added {rows} s starved made) placed =
    let rest : AllRows RowShown before =
    rows_shown before made
    (λ deeper x place within. placed deeper x place (within_more r before deeper x within)) in
    (row_shown before s starved made own rest, rest)
  where
    own : (place : ℕ) → s.kind ≡ step.Commit place → AdmittedAt before place s
    own place commits =
        subst (AdmittedAt before place) (row-step before s starved)
        (placed before (row before s starved) place (record { later = []; whole = refl })
        (ap (λ (t : Step). t.kind) (row-step before s starved) ∙ commits))

-- ---- the sentence

-- the code of octets that were read is that of the message
code_read : (octets : List ℕ) (m : Message) → reading octets ≡ Ok m → code_at octets ≡ m.code
code_read octets m read = ap code_at (header_read octets m read).octets_are

shown_of : (rows : List Row)
    → AllRows RowShown rows
    → (sent : Sent rows)
    → is_request sent.message ≡ true
    → (sent.message.code ≡ codes_of.get)
    × IsFetchRequest sent.octets
    × ShownBefore sent.here.before sent.peer
shown_of rows all sent asks =
    let code : code_at sent.octets ≡ sent.message.code =
    code_read sent.octets sent.message sent.read in
    let it :
    (code_at sent.octets ≡ codes_of.get)
    × IsFetchRequest sent.octets
    × ShownBefore sent.here.before sent.peer =
    all_at_index (SentShown sent.here.before) sent.here.row.sent (sent.peer, sent.octets) sent.among
    (row_within RowShown rows sent.here.before sent.here.row all sent.within).sent
    (ap (λ c. codes_of.is_request_code c) code ∙ asks) in
    (sym code ∙ it.0, it.1, it.2)

-- so it is in rows of steps, where each commit is of a row that admitted
pub rows-EchoedFirst : (rows : List Row) → AreRows rows → CommitsPlaced rows → EchoedFirst rows
rows-EchoedFirst rows all placed =
    let shown : AllRows RowShown rows = rows_shown rows all placed in
    record {
      method = λ sent asks. (shown_of rows shown sent asks).0;
      fetches = λ sent asks. (shown_of rows shown sent asks).1;
      shown = λ sent asks. (shown_of rows shown sent asks).2;
      challenged = λ before r peer value within among.
          challenge_of rows before r peer value all within among;
    }

-- in each journal of the machine
pub journal-EchoedFirst : (rows : List Row) → IsJournal rows → EchoedFirst rows
journal-EchoedFirst rows journal =
    rows-EchoedFirst rows (journal-AreRows rows journal)
    (λ before r place within commits. journal-place rows before r place journal within commits)

-- and in each journal of a desk
pub desk-EchoedFirst : (rows : List Row) → IsDeskJournal rows → EchoedFirst rows
desk-EchoedFirst rows journal =
    rows-EchoedFirst rows (desk-AreRows rows journal)
    (λ before r place within commits. desk-place rows before r place journal within commits)
