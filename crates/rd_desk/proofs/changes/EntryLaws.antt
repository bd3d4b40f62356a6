-- An entry that the row of a step makes: the directory then stands for the entries with it.
use Rattle.std.proofs.Common.{
  ◌≡◌,
  ℕ,
  ◌≤◌,
  Bool,
  false,
  List,
  [],
  ◌∷◌,
  ◌++◌,
  filter_map,
  Option,
  refl,
  sym,
  ap,
  subst,
  ◌∙◌,
  arith,
}
use Rattle.std.proofs.lemmas.List.{append-nil}
use Rattle.rd_base.specs.declared.peers.Peer.{Peer}
use Rattle.rd_base.specs.declared.records.Record.{Record}
use Rattle.history_model.specs.declared.entries.Entry.{Entry}
use Rattle.history_model.specs.Live.{live}
use Rattle.history_model.specs.Replay.{replay, numbered, number_about}
use Rattle.history_model.specs.Versions.{Version, VersionStandsFor}
use Rattle.event_model.specs.declared.notes.Note.{Note}
use Rattle.event_model.specs.declared.notes.Note.TheVariants as note
use Rattle.journal_model.specs.declared.steps.Step.{Step}
use Rattle.journal_model.specs.declared.rows.Row.{Row}
use Rattle.journal_model.specs.DeskJournal.{IsDeskJournal}
use Rattle.journal_model.specs.Effects.{Effects, joined, noting}
use Rattle.journal_model.specs.Journal.{is_look, entries, entry_noted}
use Rattle.journal_model.specs.Rows.{row_moment}
use Rattle.journal_model.specs.UnfinishedRow.{making}
use Rattle.journal_model.proofs.UnfinishedRowLaws.{now-making}
use Rattle.coap_answers.specs.declared.mids.Mids.{Mids}
use Rattle.coap_answers.proofs.SendingLaws.{sends_notes}
use Rattle.rd_desk.specs.calls.Desks.{Seen}
use Rattle.observation.specs.declared.change_kinds.ChangeKind.{ChangeKind}
use Rattle.observation.specs.ChangeKinds.{kind_of}
use Rattle.observation.specs.Directories.{DirectoryStandsFor}
use Rattle.observation.specs.Entering.{IsEntered}
use Rattle.observation.specs.Watching.{Watching, WatchingStandsFor}
use Rattle.rd_desk.specs.parts.Outcomes.{HasEntry}
use Rattle.rd_desk.specs.parts.UnderWay.{UnderWay}
use Rattle.rd_desk.proofs.parts.PartLaws.{more_registrations}
use Rattle.rd_desk.proofs.parts.WayLaws.{way_moment}

-- what a row does that enters this alone
abbrev pub entering : Entry → Effects
entering entry = noting (note.Entered entry ∷ [])

-- before it the entries are those of the rows before, and after it there is one more
pub entries-unentered : (rows : List Row) (s : Step) (starved : Bool) (done : Effects)
    → done.notes ≡ []
    → entries (making rows s starved done) ≡ entries rows
unfolding entries
entries-unentered rows s starved done none =
    ap (λ (notes : List Note). entries rows ++ filter_map entry_noted notes) none
    ∙ append-nil (entries rows)

pub entries-entered : (rows : List Row) (s : Step) (starved : Bool) (done : Effects) (entry : Entry)
    → done.notes ≡ []
    → entries (making rows s starved (joined done (entering entry))) ≡ entries rows ++ entry ∷ []
unfolding entries
entries-entered rows s starved done entry none =
    ap (λ (notes : List Note).
    entries rows ++ filter_map entry_noted (notes ++ note.Entered entry ∷ [])) none

-- the version with the entry
pub DirectoryStandsFor-entered : (rows : List Row) (s : Step) (starved : Bool) (done : Effects)
    (entry : Entry) (swept : ℕ) (v : Version) (number : ℕ) (kind : ChangeKind)
    → is_look s.kind ≡ false
    → done.notes ≡ []
    → v.at ≤ row_moment rows s
    → v.swept ≤ row_moment rows s
    → HasEntry (entries rows) swept entry v number kind
    → DirectoryStandsFor (making rows s starved (joined done (entering entry))) v
DirectoryStandsFor-entered rows s starved done entry swept v number kind desk none at sweeps has =
    let here = now-making rows s starved (joined done (entering entry)) desk in
    record {
      history =
          subst (λ (es : List Entry). VersionStandsFor 0 es v)
          (sym (entries-entered rows s starved done entry none)) has.stands;
      at = omega (arith, at, here);
      swept = omega (arith, sweeps, here);
    }

-- the registration that the entry is about, as both versions answer
pub entered : (rows : List Row) (s : Step) (entry : Entry) (swept : ℕ) (v : Version) (number : ℕ)
    (kind : ChangeKind) (moment : ℕ) (old new : Option Record)
    → entry.moment.0 ≡ row_moment rows s
    → moment ≡ row_moment rows s
    → HasEntry (entries rows) swept entry v number kind
    → old ≡ numbered number (live (entries rows) moment)
    → new ≡ numbered number (live (entries rows ++ entry ∷ []) moment)
    → IsEntered rows s entry old new
entered rows s entry swept v number kind moment old new at here has before after =
    let same : moment ≡ entry.moment.0 = here ∙ sym at in
    record {
      accepted = has.accepted;
      at = at;
      before =
          before
          ∙ (ap (λ n. numbered n (live (entries rows) moment)) has.about
          ∙ ap (λ m.
          numbered (number_about (replay (entries rows)) entry.moment.0 entry.change)
          (live (entries rows) m)) same);
      after =
          after
          ∙ (ap (λ n. numbered n (live (entries rows ++ entry ∷ []) moment)) has.about
          ∙ ap (λ m.
          numbered (number_about (replay (entries rows)) entry.moment.0 entry.change)
          (live (entries rows ++ entry ∷ []) m)) same);
    }

-- the step with the entry, where the desk takes the version that has it, and shows the registration
-- that the entry is about to the watched queries
pub way_entered : (rows : List Row) (s : Step) (starved : Bool) (done : Effects) (entry : Entry)
    (x d : Seen) (v : Version) (number : ℕ) (kind : ChangeKind) (w : Watching)
    (old new : Option Record) (out : List (Peer × List ℕ)) (mids : Mids)
    → x ≡ d
    → done.notes ≡ []
    → entry.moment.0 ≡ row_moment rows s
    → v.at ≤ d.moment
    → v.swept ≤ d.moment
    → HasEntry (entries rows) d.version.swept entry v number kind
    → ((history : List Entry)
    → VersionStandsFor 0 history x.version
    → old ≡ numbered number (live history x.moment))
    → ((history : List Entry)
    → VersionStandsFor 0 history v
    → new ≡ numbered number (live history x.moment))
    → (IsDeskJournal rows
    → is_look s.kind ≡ false
    → kind ≡ kind_of entry.change
    → IsEntered rows s entry old new
    → WatchingStandsFor (making rows s starved done) x.watching
    → WatchingStandsFor (making rows s starved (joined done (entering entry))) w)
    → UnderWay rows s starved done d out mids
    → UnderWay rows s starved (joined done (entering entry))
    (record x { version = v; watching = w }) out mids
way_entered rows s starved done entry x d v number kind w old new out mids seen none at timely swept
    has before after watching way =
    let here : UnderWay rows s starved done x out mids =
    subst (λ (y : Seen). UnderWay rows s starved done y out mids) (sym seen) way in
    let moment : x.moment ≡ row_moment rows s = way_moment rows s starved done x out mids here in
    let its : d.moment ≡ row_moment rows s = way_moment rows s starved done d out mids way in
    let history : VersionStandsFor 0 (entries rows) x.version =
    subst (λ (es : List Entry). VersionStandsFor 0 es x.version)
    (entries-unentered rows s starved done none) here.stands.directory.history in
    let into : IsEntered rows s entry old new =
    entered rows s entry d.version.swept v number kind x.moment old new at moment has
    (before (entries rows) history) (after (entries rows ++ entry ∷ []) has.stands) in
    more_registrations rows s starved done (entering entry) x d v w out out mids mids seen refl
    (λ directory. DirectoryStandsFor-entered rows s starved done entry d.version.swept v number kind
    way.no_look none (omega (arith, timely, its)) (omega (arith, swept, its)) has)
    (λ stands. watching way.journal way.no_look has.is_of into stands)
    (sends_notes (note.Entered entry ∷ []) out mids) way
