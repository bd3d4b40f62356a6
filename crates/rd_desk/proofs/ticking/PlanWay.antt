-- While a plan is made: the step is under way as before, and the tag is that of the tick.
use Rattle.std.proofs.Common.{
  ◌≡◌,
  ℕ,
  Bool,
  true,
  List,
  ◌++◌,
  Result,
  Ok,
  Err,
  OnOk,
  is_ok,
  sym,
  ap,
  ap₂,
  subst,
  ◌∙◌,
  append-nil,
}
use Rattle.std.proofs.lemmas.Bool.{false≢true}
use Rattle.rd_base.specs.declared.peers.Peer.{Peer}
use Rattle.history_model.specs.declared.entries.Entry.{Entry}
use Rattle.history_model.specs.Listing.{tag_from, tag}
use Rattle.history_model.specs.Versions.{Version, VersionStandsFor}
use Rattle.journal_model.specs.declared.steps.Step.{Step}
use Rattle.journal_model.specs.declared.rows.Row.{Row}
use Rattle.journal_model.specs.Effects.{Effects}
use Rattle.journal_model.specs.Journal.{entries}
use Rattle.journal_model.specs.Rows.{row_moment}
use Rattle.journal_model.specs.Ticks.{notifications_again}
use Rattle.journal_model.specs.UnfinishedRow.{making}
use Rattle.journal_model.proofs.NoteKinds.{again_tick, tick-entries_in}
use Rattle.journal_model.proofs.StepNotes.{notifications_again-notes}
use Rattle.journal_model.proofs.UnfinishedRowLaws.{now-making}
use Rattle.coap_answers.specs.declared.mids.Mids.{Mids}
use Rattle.rd_desk.specs.calls.Desks.{Seen, StandsFor}
use Rattle.rd_desk.specs.parts.UnderWay.{UnderWay}

-- nothing is entered where notifications are retransmitted
pub entries-again : (rows : List Row) (s : Step) (starved : Bool)
    → entries (making rows s starved (notifications_again rows (row_moment rows s))) ≡ entries rows
unfolding entries
entries-again rows s starved =
    ap (λ (es : List Entry). entries rows ++ es)
    (tick-entries_in (notifications_again rows (row_moment rows s)).notes
    (again_tick (notifications_again rows (row_moment rows s)).notes
    (notifications_again-notes rows (row_moment rows s))))
    ∙ append-nil (entries rows)

-- ---- while a plan is made

-- the step is under way as before, where the desk stands for the same
pub way_kept : (rows : List Row) (s : Step) (starved : Bool) (done : Effects) (d after : Seen)
    (out : List (Peer × List ℕ)) (mids : Mids)
    → ((past : List Row) → StandsFor past d → StandsFor past after)
    → UnderWay rows s starved done d out mids
    → UnderWay rows s starved done after out mids
way_kept rows s starved done d after out mids stands way = record {
  journal = way.journal;
  no_later_look = way.no_later_look;
  no_look = way.no_look;
  stands = stands (making rows s starved done) way.stands;
  requests = way.requests;
  sent = way.sent;
  worker = way.worker;
  drawn = way.drawn;
}

-- what follows from what came of a call
pub on_ok : {X E A B : Type 0} (r : Result X E) → OnOk r A → (A → B) → OnOk r B
on_ok (Ok x) h f = f h
on_ok (Err e) h f = tt

pub when_ok : {X E A : Type 0} (r : Result X E) → is_ok r ≡ true → OnOk r A → A
when_ok (Ok x) is h = h
when_ok (Err e) is h = absurd (false≢true is)

-- ---- with the plan made

-- what the desk tells of the tag of its version
abbrev IsTagged : List ℕ → Version → ℕ → Type 0
IsTagged current v moment =
    (n : ℕ) (history : List Entry)
    → VersionStandsFor n history v
    → current ≡ tag_from n history moment

-- its moment is that of the tick
pub moment_again : (rows : List Row) (s : Step) (starved : Bool) (b d : Seen)
    (out : List (Peer × List ℕ)) (mids : Mids)
    → b ≡ d
    → UnderWay rows s starved (notifications_again rows (row_moment rows s)) d out mids
    → b.moment ≡ row_moment rows s
moment_again rows s starved b d out mids seen way =
    ap (λ (y : Seen). y.moment) seen
    ∙ (way.stands.moment
    ∙ now-making rows s starved (notifications_again rows (row_moment rows s)) way.no_look)

-- it is the tag of the tick
pub tag_again : (rows : List Row) (s : Step) (starved : Bool) (b d : Seen)
    (out : List (Peer × List ℕ)) (mids : Mids) (current : List ℕ)
    → b ≡ d
    → IsTagged current b.version b.moment
    → UnderWay rows s starved (notifications_again rows (row_moment rows s)) d out mids
    → current ≡ tag (entries rows) (row_moment rows s)
tag_again rows s starved b d out mids current seen says way =
    says 0 (entries (making rows s starved (notifications_again rows (row_moment rows s))))
    (subst (λ (y : Seen).
    VersionStandsFor 0
    (entries (making rows s starved (notifications_again rows (row_moment rows s))))
    y.version) (sym seen) way.stands.directory.history)
    ∙ ap₂ (λ (es : List Entry) (m : ℕ). tag es m) (entries-again rows s starved)
    (moment_again rows s starved b d out mids seen way)
