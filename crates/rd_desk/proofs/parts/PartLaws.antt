-- A part of a step that changes one table of a desk alone, or none.
use Rattle.std.proofs.Common.{◌≡◌, ℕ, Bool, true, false, List, [], length, refl, sym, ap, subst}
use Rattle.std.specs.List.{list_any}
use Rattle.rd_base.specs.declared.peers.Peer.{Peer}
use Rattle.history_model.specs.Versions.{Version}
use Rattle.event_model.specs.Observers.{is_forming, observe_values_sent}
use Rattle.journal_model.specs.declared.steps.Step.{Step}
use Rattle.journal_model.specs.declared.rows.Row.{Row}
use Rattle.journal_model.specs.Effects.{Effects, nothing, joined}
use Rattle.journal_model.specs.Journal.{events}
use Rattle.journal_model.specs.Rows.{row_moment}
use Rattle.journal_model.specs.Ticks.{octets_sent}
use Rattle.journal_model.specs.UnfinishedRow.{making}
use Rattle.exchange_core.specs.Table as exchanges
use Rattle.exchange_core.specs.ExchangeEvents.{ExchangesStandFor}
use Rattle.transfers.specs.TransferEvents as transfers
use Rattle.transfers.specs.TransferEvents.{TransfersStandFor}
use Rattle.transfers.proofs.TransferLaws.{TransfersStandFor-noted}
use Rattle.simple_registration.specs.Table as fetches
use Rattle.simple_registration.specs.FetchEvents.{FetchesStandFor}
use Rattle.simple_registration.specs.Challenges.{ChallengeTable, ChallengesStandFor}
use Rattle.simple_registration.proofs.ChallengeLaws.{ChallengesStandFor-noted}
use Rattle.simple_registration.proofs.DeskLaws.{FetchesStandFor-noted}
use Rattle.coap_answers.specs.declared.mids.Mids.{Mids}
use Rattle.coap_answers.specs.Sendings.{Sends, AreRequestsSent}
use Rattle.rd_desk.specs.calls.Desks.{Seen}
use Rattle.observation.specs.Directories.{DirectoryStandsFor}
use Rattle.observation.specs.Watching.{Watching, WatchingStandsFor}
use Rattle.observation.proofs.WatchingLaws.{WatchingStandsFor-aside}
use Rattle.rd_desk.specs.parts.UnderWay.{UnderWay}
use Rattle.rd_desk.proofs.parts.AsideLaws.{
  DirectoryStandsFor-aside,
  ExchangesStandFor-noted,
  observe_values_sent-aside,
}
use Rattle.rd_desk.proofs.parts.NoteTopics as topic
use Rattle.rd_desk.proofs.parts.NoteTopics.{
  Topic,
  differ,
  AreAbout,
  no_exchanges,
  no_uploads,
  no_answers,
  no_observers,
  no_fetches,
  no_challenges,
  no_entries,
  no_requests,
  no_bodies,
}
use Rattle.rd_desk.proofs.parts.WayLaws.{noting_more, more, only}

-- what a part leaves whose notes are about one thing alone
left_exchanges : (one : Topic) (rows : List Row) (s : Step) (starved : Bool) (done e : Effects)
    (t : exchanges.Table)
    → differ topic.exchanges one ≡ true
    → AreAbout one e.notes
    → ExchangesStandFor (row_moment rows s) (events (making rows s starved done)) t
    → ExchangesStandFor (row_moment rows s)
    (noting_more rows s e.notes (events (making rows s starved done))) t
left_exchanges one rows s starved done e t other alone stands =
    ExchangesStandFor-noted (row_moment rows s) (length rows) (row_moment rows s) s.word e.notes
    (events (making rows s starved done)) t (no_exchanges one e.notes other alone) stands

left_transfers : (one : Topic) (rows : List Row) (s : Step) (starved : Bool) (done e : Effects)
    (t : transfers.Table)
    → differ topic.transfers one ≡ true
    → AreAbout one e.notes
    → TransfersStandFor (row_moment rows s) (events (making rows s starved done)) t
    → TransfersStandFor (row_moment rows s)
    (noting_more rows s e.notes (events (making rows s starved done))) t
left_transfers one rows s starved done e t other alone stands =
    TransfersStandFor-noted (row_moment rows s) t (length rows) (row_moment rows s) s.word e.notes
    (events (making rows s starved done))
    (no_uploads one e.notes other alone) (no_answers one e.notes other alone) stands

left_fetches : (one : Topic) (rows : List Row) (s : Step) (starved : Bool) (done e : Effects)
    (t : fetches.Table)
    → differ topic.fetches one ≡ true
    → AreAbout one e.notes
    → FetchesStandFor (octets_sent (making rows s starved (joined done e)))
    (events (making rows s starved done)) t
    → FetchesStandFor (octets_sent (making rows s starved (joined done e)))
    (noting_more rows s e.notes (events (making rows s starved done))) t
left_fetches one rows s starved done e t other alone stands =
    FetchesStandFor-noted (octets_sent (making rows s starved (joined done e))) t (length rows)
    (row_moment rows s) s.word e.notes (events (making rows s starved done))
    (no_fetches one e.notes other alone) stands

left_challenges : (one : Topic) (rows : List Row) (s : Step) (starved : Bool) (done e : Effects)
    (t : ChallengeTable)
    → differ topic.challenges one ≡ true
    → AreAbout one e.notes
    → ChallengesStandFor (events (making rows s starved done)) t
    → ChallengesStandFor (noting_more rows s e.notes (events (making rows s starved done))) t
left_challenges one rows s starved done e t other alone stands =
    ChallengesStandFor-noted t (length rows) (row_moment rows s) s.word e.notes
    (events (making rows s starved done)) (no_challenges one e.notes other alone) stands

left_observed : (rows : List Row) (s : Step) (starved : Bool) (done e : Effects) (count : ℕ)
    → list_any is_forming e.notes ≡ false
    → count ≡ observe_values_sent (events (making rows s starved done))
    → count ≡ observe_values_sent (noting_more rows s e.notes (events (making rows s starved done)))
left_observed rows s starved done e count none h =
    observe_values_sent-aside count (length rows) (row_moment rows s) s.word e.notes
    (events (making rows s starved done)) none h

left_directory : (one : Topic) (rows : List Row) (s : Step) (starved : Bool) (done e : Effects)
    (v : Version)
    → differ topic.registrations one ≡ true
    → AreAbout one e.notes
    → DirectoryStandsFor (making rows s starved done) v
    → DirectoryStandsFor (making rows s starved (joined done e)) v
left_directory one rows s starved done e v other alone stands =
    DirectoryStandsFor-aside rows s starved done e v (no_entries one e.notes other alone) stands

left_watching : (one : Topic) (rows : List Row) (s : Step) (starved : Bool) (done e : Effects)
    (w : Watching)
    → differ topic.observers one ≡ true
    → differ topic.registrations one ≡ true
    → AreAbout one e.notes
    → WatchingStandsFor (making rows s starved done) w
    → WatchingStandsFor (making rows s starved (joined done e)) w
left_watching one rows s starved done e w other still alone stands =
    WatchingStandsFor-aside rows s starved done e w (no_observers one e.notes other alone)
    (no_entries one e.notes still alone) stands

-- ---- The desk before is x, with the one equation that the code gives.

-- the notes are about the exchanges alone, which change
pub more_exchanges : (rows : List Row) (s : Step) (starved : Bool) (done e : Effects) (x d : Seen)
    (t : exchanges.Table) (out sent : List (Peer × List ℕ)) (mids_before mids : Mids)
    → x ≡ d
    → AreAbout topic.exchanges e.notes
    → (ExchangesStandFor (row_moment rows s) (events (making rows s starved done)) x.exchanges
    → ExchangesStandFor (row_moment rows s)
    (noting_more rows s e.notes (events (making rows s starved done))) t)
    → Sends e out sent mids_before mids
    → UnderWay rows s starved done d out mids_before
    → UnderWay rows s starved (joined done e) (record x { exchanges = t }) sent mids
more_exchanges rows s starved done e x d t out sent mids_before mids seen alone stands sends way =
    more rows s starved done e x (record x { exchanges = t }) out sent mids_before mids refl
    (left_directory topic.exchanges rows s starved done e x.version refl alone)
    stands
    (left_transfers topic.exchanges rows s starved done e x.transfers refl alone)
    (left_watching topic.exchanges rows s starved done e x.watching refl refl alone)
    (left_fetches topic.exchanges rows s starved done e x.fetches refl alone)
    (left_challenges topic.exchanges rows s starved done e x.challenges refl alone)
    (left_observed rows s starved done e x.observed (no_bodies topic.exchanges e.notes refl alone))
    (no_requests e (no_fetches topic.exchanges e.notes refl alone)) sends
    (subst (λ (y : Seen). UnderWay rows s starved done y out mids_before) (sym seen) way)

-- about the transfers alone
pub more_transfers : (rows : List Row) (s : Step) (starved : Bool) (done e : Effects) (x d : Seen)
    (t : transfers.Table) (out sent : List (Peer × List ℕ)) (mids_before mids : Mids)
    → x ≡ d
    → AreAbout topic.transfers e.notes
    → (TransfersStandFor (row_moment rows s) (events (making rows s starved done)) x.transfers
    → TransfersStandFor (row_moment rows s)
    (noting_more rows s e.notes (events (making rows s starved done))) t)
    → Sends e out sent mids_before mids
    → UnderWay rows s starved done d out mids_before
    → UnderWay rows s starved (joined done e) (record x { transfers = t }) sent mids
more_transfers rows s starved done e x d t out sent mids_before mids seen alone stands sends way =
    more rows s starved done e x (record x { transfers = t }) out sent mids_before mids refl
    (left_directory topic.transfers rows s starved done e x.version refl alone)
    (left_exchanges topic.transfers rows s starved done e x.exchanges refl alone)
    stands
    (left_watching topic.transfers rows s starved done e x.watching refl refl alone)
    (left_fetches topic.transfers rows s starved done e x.fetches refl alone)
    (left_challenges topic.transfers rows s starved done e x.challenges refl alone)
    (left_observed rows s starved done e x.observed (no_bodies topic.transfers e.notes refl alone))
    (no_requests e (no_fetches topic.transfers e.notes refl alone)) sends
    (subst (λ (y : Seen). UnderWay rows s starved done y out mids_before) (sym seen) way)

-- about the observers alone; an Observe value may be given
pub more_watching : (rows : List Row) (s : Step) (starved : Bool) (done e : Effects) (x d : Seen)
    (w : Watching) (count : ℕ) (out sent : List (Peer × List ℕ)) (mids_before mids : Mids)
    → x ≡ d
    → AreAbout topic.observers e.notes
    → (WatchingStandsFor (making rows s starved done) x.watching
    → WatchingStandsFor (making rows s starved (joined done e)) w)
    → (x.observed ≡ observe_values_sent (events (making rows s starved done))
    → count
    ≡ observe_values_sent
    (noting_more rows s e.notes (events (making rows s starved done))))
    → Sends e out sent mids_before mids
    → UnderWay rows s starved done d out mids_before
    → UnderWay rows s starved (joined done e) (record x { watching = w; observed = count }) sent
    mids
more_watching rows s starved done e x d w count out sent mids_before mids seen alone stands observed
    sends way =
    more rows s starved done e x (record x { watching = w; observed = count }) out sent mids_before
    mids refl
    (left_directory topic.observers rows s starved done e x.version refl alone)
    (left_exchanges topic.observers rows s starved done e x.exchanges refl alone)
    (left_transfers topic.observers rows s starved done e x.transfers refl alone)
    stands
    (left_fetches topic.observers rows s starved done e x.fetches refl alone)
    (left_challenges topic.observers rows s starved done e x.challenges refl alone)
    observed
    (no_requests e (no_fetches topic.observers e.notes refl alone)) sends
    (subst (λ (y : Seen). UnderWay rows s starved done y out mids_before) (sym seen) way)

-- and none is, where no body is built
pub more_unformed : (rows : List Row) (s : Step) (starved : Bool) (done e : Effects) (x d : Seen)
    (w : Watching) (out sent : List (Peer × List ℕ)) (mids_before mids : Mids)
    → x ≡ d
    → AreAbout topic.observers e.notes → list_any is_forming e.notes ≡ false
    → (WatchingStandsFor (making rows s starved done) x.watching
    → WatchingStandsFor (making rows s starved (joined done e)) w)
    → Sends e out sent mids_before mids
    → UnderWay rows s starved done d out mids_before
    → UnderWay rows s starved (joined done e) (record x { watching = w }) sent mids
more_unformed rows s starved done e x d w out sent mids_before mids seen alone none stands sends
    way =
    more_watching rows s starved done e x d w x.observed out sent mids_before mids seen alone stands
    (left_observed rows s starved done e x.observed none) sends way

-- about the fetches alone; their octets are those that the rows sent with this part
pub more_fetches : (rows : List Row) (s : Step) (starved : Bool) (done e : Effects) (x d : Seen)
    (t : fetches.Table) (out sent : List (Peer × List ℕ)) (mids_before mids : Mids)
    → x ≡ d
    → AreAbout topic.fetches e.notes
    → (FetchesStandFor (octets_sent (making rows s starved (joined done e)))
    (events (making rows s starved done)) x.fetches
    → FetchesStandFor (octets_sent (making rows s starved (joined done e)))
    (noting_more rows s e.notes (events (making rows s starved done))) t)
    → AreRequestsSent e
    → Sends e out sent mids_before mids
    → UnderWay rows s starved done d out mids_before
    → UnderWay rows s starved (joined done e) (record x { fetches = t }) sent mids
more_fetches rows s starved done e x d t out sent mids_before mids seen alone stands requests sends
    way =
    more rows s starved done e x (record x { fetches = t }) out sent mids_before mids refl
    (left_directory topic.fetches rows s starved done e x.version refl alone)
    (left_exchanges topic.fetches rows s starved done e x.exchanges refl alone)
    (left_transfers topic.fetches rows s starved done e x.transfers refl alone)
    (left_watching topic.fetches rows s starved done e x.watching refl refl alone)
    stands
    (left_challenges topic.fetches rows s starved done e x.challenges refl alone)
    (left_observed rows s starved done e x.observed (no_bodies topic.fetches e.notes refl alone))
    requests sends
    (subst (λ (y : Seen). UnderWay rows s starved done y out mids_before) (sym seen) way)

-- about the challenges alone
pub more_challenges : (rows : List Row) (s : Step) (starved : Bool) (done e : Effects) (x d : Seen)
    (t : ChallengeTable) (out sent : List (Peer × List ℕ)) (mids_before mids : Mids)
    → x ≡ d
    → AreAbout topic.challenges e.notes
    → (ChallengesStandFor (events (making rows s starved done)) x.challenges
    → ChallengesStandFor (noting_more rows s e.notes (events (making rows s starved done))) t)
    → Sends e out sent mids_before mids
    → UnderWay rows s starved done d out mids_before
    → UnderWay rows s starved (joined done e) (record x { challenges = t }) sent mids
more_challenges rows s starved done e x d t out sent mids_before mids seen alone stands sends way =
    more rows s starved done e x (record x { challenges = t }) out sent mids_before mids refl
    (left_directory topic.challenges rows s starved done e x.version refl alone)
    (left_exchanges topic.challenges rows s starved done e x.exchanges refl alone)
    (left_transfers topic.challenges rows s starved done e x.transfers refl alone)
    (left_watching topic.challenges rows s starved done e x.watching refl refl alone)
    (left_fetches topic.challenges rows s starved done e x.fetches refl alone)
    stands
    (left_observed rows s starved done e x.observed (no_bodies topic.challenges e.notes refl alone))
    (no_requests e (no_fetches topic.challenges e.notes refl alone)) sends
    (subst (λ (y : Seen). UnderWay rows s starved done y out mids_before) (sym seen) way)

-- about the registrations alone: the version changes, and observers are due
pub more_registrations : (rows : List Row) (s : Step) (starved : Bool) (done e : Effects)
    (x d : Seen) (v : Version) (w : Watching) (out sent : List (Peer × List ℕ))
    (mids_before mids : Mids)
    → x ≡ d
    → AreAbout topic.registrations e.notes
    → (DirectoryStandsFor (making rows s starved done) x.version
    → DirectoryStandsFor (making rows s starved (joined done e)) v)
    → (WatchingStandsFor (making rows s starved done) x.watching
    → WatchingStandsFor (making rows s starved (joined done e)) w)
    → Sends e out sent mids_before mids
    → UnderWay rows s starved done d out mids_before
    → UnderWay rows s starved (joined done e) (record x { version = v; watching = w }) sent mids
more_registrations rows s starved done e x d v w out sent mids_before mids seen alone directory
    watching sends way =
    more rows s starved done e x (record x { version = v; watching = w }) out sent mids_before mids
    refl
    directory
    (left_exchanges topic.registrations rows s starved done e x.exchanges refl alone)
    (left_transfers topic.registrations rows s starved done e x.transfers refl alone)
    watching
    (left_fetches topic.registrations rows s starved done e x.fetches refl alone)
    (left_challenges topic.registrations rows s starved done e x.challenges refl alone)
    (left_observed rows s starved done e x.observed
    (no_bodies topic.registrations e.notes refl alone))
    (no_requests e (no_fetches topic.registrations e.notes refl alone)) sends
    (subst (λ (y : Seen). UnderWay rows s starved done y out mids_before) (sym seen) way)

-- a part that notes nothing leaves the desk
pub more_silent : (rows : List Row) (s : Step) (starved : Bool) (done e : Effects) (d : Seen)
    (out sent : List (Peer × List ℕ)) (mids_before mids : Mids)
    → e.notes ≡ []
    → Sends e out sent mids_before mids
    → UnderWay rows s starved done d out mids_before
    → UnderWay rows s starved (joined done e) d sent mids
more_silent rows s starved done e d out sent mids_before mids silent sends way =
    more_exchanges rows s starved done e d d d.exchanges out sent mids_before mids refl
    (ap (list_any (topic.is_beside topic.exchanges)) silent)
    (left_exchanges topic.transfers rows s starved done e d.exchanges refl
    (ap (list_any (topic.is_beside topic.transfers)) silent)) sends way

-- and where it is the whole step
pub only_silent : (rows : List Row) (s : Step) (starved : Bool) (e : Effects) (d : Seen)
    (out sent : List (Peer × List ℕ)) (mids_before mids : Mids)
    → e.notes ≡ []
    → Sends e out sent mids_before mids
    → UnderWay rows s starved nothing d out mids_before
    → UnderWay rows s starved e d sent mids
only_silent rows s starved e d out sent mids_before mids silent sends way =
    only rows s starved e d sent mids
    (more_silent rows s starved nothing e d out sent mids_before mids silent sends way)
