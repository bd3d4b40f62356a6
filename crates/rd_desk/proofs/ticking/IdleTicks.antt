-- A tick in which, after the notifications that are retransmitted, nobody is due and free: no
-- notification is built, and no memory is taken.
use Rattle.std.proofs.Common.{
  ◌≡◌,
  ℕ,
  nat_le,
  Bool,
  false,
  List,
  [],
  fold,
  Option,
  is_some,
  sym,
  ap,
  subst,
  ◌∙◌,
}
use Rattle.rd_base.specs.declared.peers.Peer.{Peer}
use Rattle.event_model.specs.Events.{Event}
use Rattle.event_model.specs.Observers.{observers}
use Rattle.journal_model.specs.declared.steps.Step.{Step}
use Rattle.journal_model.specs.declared.rows.Row.{Row}
use Rattle.journal_model.specs.Effects.{Effects}
use Rattle.journal_model.specs.Journal.{events, transitions}
use Rattle.journal_model.specs.Rows.{row_moment}
use Rattle.journal_model.specs.Ticks.{
  ticking,
  max_notifications,
  notifications_again,
  notification_next,
  notifications,
}
use Rattle.journal_model.specs.UnfinishedRow.{making}
use Rattle.journal_model.proofs.EntriesNoted.{entries_in}
use Rattle.journal_model.proofs.NoteKinds.{again_tick, tick-entries_in}
use Rattle.journal_model.proofs.StepNotes.{notifications_again-notes}
use Rattle.transfers.proofs.KeptLists.{is_none}
use Rattle.coap_answers.specs.declared.mids.Mids.{Mids}
use Rattle.observation.specs.Notifications.{next_notified}
use Rattle.observation.specs.Watching.{Watching, WatchingStandsFor}
use Rattle.rd_desk.specs.calls.Desks.{Seen}
use Rattle.rd_desk.specs.calls.Ticking.{tick_takes_memory}
use Rattle.rd_desk.specs.parts.UnderWay.{UnderWay}
use Rattle.rd_desk.proofs.ticking.NotificationWalk.{events-with, notifications-end, next-unlooked}
use Rattle.rd_desk.proofs.ticking.WholeTick.{again_draws}

-- what is retransmitted enters nothing
again_silent : (rows : List Row) (s : Step)
    → entries_in (notifications_again rows (row_moment rows s)).notes ≡ []
again_silent rows s =
    tick-entries_in (notifications_again rows (row_moment rows s)).notes
    (again_tick (notifications_again rows (row_moment rows s)).notes
    (notifications_again-notes rows (row_moment rows s)))

-- and builds no notification
again_few : (rows : List Row) (s : Step)
    → nat_le max_notifications (notifications_again rows (row_moment rows s)).drew ≡ false
again_few rows s = ap (nat_le max_notifications) (again_draws rows (row_moment rows s))

-- who comes next after what is retransmitted, as the observers of a desk tell it
abbrev Tells : Option ℕ → Watching → Type 0
Tells next w =
    (past : List Row)
    → WatchingStandsFor past w
    → next ≡ next_notified 0 (events past) (transitions past)

-- Where nobody comes next, no notification is built.
pub way_idle : (rows : List Row) (s : Step) (b d : Seen) (out : List (Peer × List ℕ)) (mids : Mids)
    (next : Option ℕ)
    → b ≡ d
    → Tells next b.watching
    → is_some next ≡ false
    → UnderWay rows s false (notifications_again rows (row_moment rows s)) d out mids
    → UnderWay rows s false
    (notifications (ticking rows (row_moment rows s) s)
    (notifications_again rows (row_moment rows s))) d
    out mids
unfolding notifications
way_idle rows s b d out mids next seen tells none way =
    let first = notifications_again rows (row_moment rows s) in
    let t = ticking rows (row_moment rows s) s in
    let watching =
    subst (λ (x : Seen). WatchingStandsFor (making rows s false first) x.watching) (sym seen)
    way.stands.watching in
    let last = sym (tells (making rows s false first) watching) ∙ is_none next (sym none) in
    let all : notifications t first ≡ first =
    ap (λ (es : List Event). fold (notification_next t) first (observers es))
    (events-with rows s false first)
    ∙ notifications-end rows s false first 0 way.no_look (again_silent rows s) (again_few rows s)
    last in
    subst (λ (e : Effects). UnderWay rows s false e d out mids) (sym all) way

-- Where nobody is looked at, nobody comes next.
pub none_comes : (rows : List Row) (s : Step) (starved : Bool) (b d : Seen)
    (out : List (Peer × List ℕ)) (mids : Mids) (next : Option ℕ)
    → b ≡ d
    → Tells next b.watching
    → UnderWay rows s starved (notifications_again rows (row_moment rows s)) d out mids
    → tick_takes_memory rows (row_moment rows s) s ≡ false → is_some next ≡ false
none_comes rows s starved b d out mids next seen tells way silent =
    let first = notifications_again rows (row_moment rows s) in
    let watching =
    subst (λ (x : Seen). WatchingStandsFor (making rows s starved first) x.watching) (sym seen)
    way.stands.watching in
    ap is_some (tells (making rows s starved first) watching
    ∙ next-unlooked rows s starved first way.no_look (again_silent rows s) (again_few rows s)
    silent)
