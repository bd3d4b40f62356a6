-- The desk behind the turn, from one turn to the next.
use Rattle.std.proofs.Common.{
  ◌≡◌,
  ◌⊎◌,
  inl,
  inr,
  ℕ,
  ◌<◌,
  ◌≤◌,
  Bool,
  true,
  false,
  not,
  cond,
  max,
  List,
  [],
  ◌∷◌,
  ◌++◌,
  length,
  filter_map,
  Option,
  Some,
  None,
  Result,
  Ok,
  Err,
  IsSome,
  IfSome,
  refl,
  sym,
  ap,
  subst,
  ◌∙◌,
  append-nil,
  arith,
}
use Rattle.std.proofs.lemmas.Bool.{false≢true}
use Rattle.rd_base.specs.declared.moments.Moment.{Moment}
use Rattle.history_model.specs.declared.entries.Entry.{Entry}
use Rattle.history_model.specs.Versions.{Version, VersionStandsFor}
use Rattle.message_model.specs.declared.messages.Unread.{Unread}
use Rattle.message_model.specs.Message.{Message}
use Rattle.message_model.specs.Reading.{reading}
use Rattle.event_model.specs.declared.notes.Note.{Note}
use Rattle.journal_model.specs.declared.rows.Row.{Row}
use Rattle.journal_model.specs.declared.steps.Step.{Step}
use Rattle.journal_model.specs.Journal.{entries, entries_of, entry_noted, is_look, latest, now}
use Rattle.journal_model.specs.DeskJournal.{
  CommitsOpen,
  ends_job,
  MayFollow,
  begun,
  made,
  max_workers,
  NoLaterLook,
}
use Rattle.journal_model.specs.Effects.{answering}
use Rattle.journal_model.specs.Rows.{kept_body, effects, row, row_moment}
use Rattle.journal_model.proofs.entries.RowLaws.{row-single}
use Rattle.journal_model.proofs.entries.QuietSteps.{
  keep_effects-entries_in,
  tick_effects-entries_in,
}
use Rattle.journal_model.proofs.EntriesNoted.{entries_in}
use Rattle.coap_answers.specs.declared.mids.Mids.{Mids}
use Rattle.rd_look.specs.KeepJobs.{Keep}
use Rattle.rd_desk.specs.calls.Desks.{StandsFor}
use Rattle.rd_desk.specs.calls.Steps.{IsCalled}
use Rattle.rd_desk.specs.calls.Shown.{Shown}
use Rattle.rd_desk.specs.calls.Staging.{staged_after, LeavesStaged}
use Rattle.version_board.specs.Ends.{PublisherSeen}
use Rattle.rd_seat.specs.Steps.{first_entry, keep_step, tick_step}
use Rattle.rd_seat.specs.Turns.{
  IsDeskRow,
  AreTurns,
  IsPublished,
  StandsAtTurn,
  MakesAtMost,
  HasStepped,
  published_with,
  board_published,
}

-- ---- rows of turns

-- the moment of a desk is that of a row that is none of a look
pub now-row : (r : Row) (rows : List Row) → IsDeskRow r → now (r ∷ rows) ≡ r.moment.0
unfolding now
now-row r rows e = ap (λ b. cond (not b) r.moment.0 (now rows)) e

-- no rows
pub AreTurns-none : AreTurns []
unfolding latest now
AreTurns-none = record { journal = begun; no_look = tt; in_time = let h : 0 ≤ 0 = omega arith in h }

-- one more row
pub AreTurns-row : (rows : List Row) (s : Step) (starved : Bool) → AreTurns rows
    → MayFollow rows s → is_look s.kind ≡ false → AreTurns (row rows s starved ∷ rows)
unfolding row row_moment latest
AreTurns-row rows s starved turns may e = record {
  journal = made s starved turns.journal may;
  no_look = (e, turns.no_look);
  in_time = let m : now (row rows s starved ∷ rows) ≡ max s.handed.0 (latest rows) =
      now-row (row rows s starved) rows e in omega (arith, m);
}

-- no look is later than a moment that is passed in
pub turns-NoLaterLook : (rows : List Row) (moment : ℕ) → AreTurns rows → NoLaterLook moment rows
turns-NoLaterLook rows moment turns = omega (arith, turns.in_time)

-- ---- entries

-- at most one entry is the first one or none
pub single-first : (es : List Entry) → length es ≤ 1 → (es ≡ []) ⊎ (es ≡ first_entry es ∷ [])
single-first [] h = inl refl
single-first (e ∷ []) h = inr refl
single-first (e ∷ (f ∷ es)) h = absurd (omega (arith, h))

pub row-MakesAtMost : (rows : List Row) (s : Step) (starved : Bool)
    → MakesAtMost (first_entry (entries_of (row rows s starved))) (row rows s starved)
row-MakesAtMost rows s starved = single-first (entries_of (row rows s starved))
    (row-single rows s starved)

-- no rows made none
pub no-entries : [] ≡ entries []
unfolding entries
no-entries = refl

-- the entries with one row more
entries-row : (r : Row) (rows : List Row) → entries (r ∷ rows) ≡ entries rows ++ entries_of r
unfolding entries
entries-row r rows = refl

-- ---- a step

-- what the desk's step leaves
pub HasStepped-by : (rows : List Row) (s : Step) (starved : Bool) (entry : Entry)
    (desk after : Shown PublisherSeen) → StandsAtTurn rows desk → MayFollow rows s
    → is_look s.kind ≡ false
    → StandsFor (row rows s starved ∷ rows) after.tables → after.board.told ≡ desk.board.told
    → after.board.staged ≡ staged_after (entries_of (row rows s starved)) after.tables.version
    None → MakesAtMost entry (row rows s starved)
    → HasStepped entry (row rows s starved) s.worker rows after
unfolding row
HasStepped-by rows s starved entry desk after was may e stands told staged most = record {
  own = refl;
  turns = AreTurns-row rows s starved was.turns may e;
  tables = stands;
  told = told ∙ was.told;
  staged = staged;
  most = most;
}

-- ---- publishing

-- what is staged stands for the told entries with that of the row
pub stepped-staged : (entry : Entry) (r : Row) (worker : ℕ) (rows : List Row)
    (desk : Shown PublisherSeen) → HasStepped entry r worker rows desk
    → IfSome desk.board.staged (VersionStandsFor 0 (desk.board.told ++ entry ∷ []))
stepped-staged entry r worker rows desk it = by it.most
  where
    by : MakesAtMost entry r → IfSome desk.board.staged
        (VersionStandsFor 0 (desk.board.told ++ entry ∷ []))
    by (inl none) =
        subst (λ (v : Option Version). IfSome v
        (VersionStandsFor 0 (desk.board.told ++ entry ∷ [])))
        (sym (it.staged ∙ ap (λ es. staged_after es desk.tables.version None) none)) tt
    by (inr one) =
        subst (λ (v : Option Version). IfSome v
        (VersionStandsFor 0 (desk.board.told ++ entry ∷ [])))
        (sym (it.staged ∙ ap (λ es. staged_after es desk.tables.version None) one))
        (subst (λ h. VersionStandsFor 0 h desk.tables.version)
        (entries-row r rows ∙ (ap (λ es. entries rows ++ es) one
        ∙ ap (λ h. h ++ entry ∷ []) (sym it.told))) it.tables.directory.history)

-- once it is published, the desk stands for the journal with the row
pub stepped-StandsAtTurn : (entry : Entry) (r : Row) (worker : ℕ) (rows : List Row)
    (desk : Shown PublisherSeen) → HasStepped entry r worker rows desk
    → IsPublished (board_published entry desk).board.told (board_published entry desk).board
    → StandsAtTurn (r ∷ rows) (board_published entry desk)
stepped-StandsAtTurn entry r worker rows desk it published = by it.most
  where
    -- by what was staged
    with_staged : (staged : Option Version) → desk.board.staged ≡ staged
        → (published_with staged entry desk.board).told ≡ entries (r ∷ rows)
        → (published_with staged entry desk.board).staged ≡ None
        → StandsAtTurn (r ∷ rows) (board_published entry desk)
    with_staged staged e told none = let tells : (board_published entry desk).board.told
        ≡ entries (r ∷ rows) = ap (λ v. (published_with v entry desk.board).told) e ∙ told in
        record {
          turns = it.turns;
          tables = it.tables;
          told = tells;
          published = subst (λ (h : List Entry). IsPublished h (board_published entry desk).board)
              tells published;
          staged = ap (λ v. (published_with v entry desk.board).staged) e ∙ none;
        }

    by : MakesAtMost entry r → StandsAtTurn (r ∷ rows) (board_published entry desk)
    by (inl none) =
        let e : desk.board.staged ≡ None = it.staged
        ∙ ap (λ es. staged_after es desk.tables.version None) none in
        with_staged None e (it.told ∙ sym (entries-row r rows
        ∙ (ap (λ es. entries rows ++ es) none ∙ append-nil (entries rows)))) e
    by (inr one) =
        with_staged (Some desk.tables.version)
        (it.staged ∙ ap (λ es. staged_after es desk.tables.version None) one)
        (ap (λ h. h ++ entry ∷ []) it.told ∙ sym
        (entries-row r rows ∙ ap (λ es. entries rows ++ es) one)) refl

-- the board keeps its name
pub board_published-name : (entry : Entry) (desk : Shown PublisherSeen)
    → (board_published entry desk).board.name ≡ desk.board.name
board_published-name entry desk = by desk.board.staged
  where
    by : (staged : Option Version) → (published_with staged entry desk.board).name ≡ desk.board.name
    by None = refl
    by (Some version) = refl

-- ---- a row that is picked

-- what holds of it where another thing does
pub picked : {A : Type 0} (o : Option A) (P Q : A → Type 0) → ((x : A) → P x → Q x) → IfSome o P
    → IfSome o Q
picked None P Q f h = tt
picked (Some x) P Q f h = f x h

-- there is one, and two things hold of it
pub both : {A R : Type 0} (o : Option A) (P Q : A → Type 0) → IsSome o → IfSome o P → IfSome o Q
    → ((x : A) → P x → Q x → R) → R
both None P Q some h k f = absurd (false≢true some)
both (Some x) P Q some h k f = f x h k

-- of what three things hold, a fourth does
pub three : {A : Type 0} (o : Option A) (P Q R S : A → Type 0) → IfSome o P → IfSome o Q
    → IfSome o R → ((x : A) → P x → Q x → R x → S x) → IfSome o S
three None P Q R S h k l f = tt
three (Some x) P Q R S h k l f = f x h k l

-- ---- a tick

-- it notes no entry
pub tick-entries_of : (found : List Row) (worker : ℕ) (moment : Moment) (word drawn : ℕ)
    (starved : Bool) → entries_of (row found (tick_step worker moment word drawn) starved) ≡ []
unfolding row effects
tick-entries_of found worker moment word drawn starved =
    tick_effects-entries_in starved found (row_moment found (tick_step worker moment word drawn))
    (tick_step worker moment word drawn)

-- ---- a step that may make an entry

inner : {A : Type 0} → Option (Option A) → Option A
inner None = None
inner (Some x) = x

of_some : {A : Type 0} → A → Option A → A
of_some d None = d
of_some d (Some x) = x

-- what a board exposes
pub same_told : {A : Type 0} (x y : A) → Some x ≡ Some y → x ≡ y
unfolding of_some
same_told x y h = ap (of_some y) h

-- what is staged then, where nothing was
pub leaves_staged : (notes : List Note) (version : Version) (before after : Option Version)
    (is_staged : Bool)
    → LeavesStaged notes version (Some before) (Some after) is_staged → before ≡ None
    → after ≡ staged_after (filter_map entry_noted notes) version None
unfolding inner
leaves_staged notes version before after is_staged h none =
    ap inner h.0 ∙ ap (staged_after (filter_map entry_noted notes) version) none

-- the call is that of a step
pub step-IsCalled : (found : List Row) (s : Step) (mids : Mids) (desk : Shown PublisherSeen)
    → StandsAtTurn found desk → is_look s.kind ≡ false → s.worker ≡ mids.worker
    → s.drawn ≡ mids.drawn
    → IsCalled found s s.handed mids desk.tables
step-IsCalled found s mids desk stands e own drew = record {
  journal = stands.turns.journal;
  no_later_look = turns-NoLaterLook found s.handed.0 stands.turns;
  no_look = e;
  stands = stands.tables;
  handed = refl;
  worker = own;
  drawn = drew;
}

-- and the step may follow
pub step-MayFollow : (found : List Row) (s : Step) (mids : Mids) (desk : Shown PublisherSeen)
    → StandsAtTurn found desk → s.worker ≡ mids.worker → CommitsOpen found s s.kind
    → (ends_job s.kind ≡ true → s.word ≡ 0) → MayFollow found s
step-MayFollow found s mids desk stands own commits word = record {
  commits = commits;
  handed = record {
    in_time = turns-NoLaterLook found s.handed.0 stands.turns;
    worker = subst (λ (n : ℕ). n < max_workers) (sym own) mids.few;
    word = word;
  };
}

-- ---- a body that is kept

-- it notes no entry
kept-entries_in : (starved : Bool) (s : Step) (read : Result Message Unread)
    (body current : List ℕ) → entries_in (kept_body starved s read body current).notes ≡ []
unfolding answering
kept-entries_in starved s (Err fault) body current = refl
kept-entries_in true s (Ok m) body current = refl
kept-entries_in false s (Ok m) body current = keep_effects-entries_in s m body current

pub keep-entries_of : (found : List Row) (worker : ℕ) (moment : Moment) (job : Keep) (drawn : ℕ)
    (starved : Bool) → entries_of (row found (keep_step worker moment job drawn) starved) ≡ []
unfolding row effects
keep-entries_of found worker moment job drawn starved =
    kept-entries_in starved (keep_step worker moment job drawn)
    (reading job.datagram) job.answer.body job.answer.tag
