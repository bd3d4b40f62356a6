-- A step under way, from its beginning over its parts to its row.
use Rattle.std.proofs.Common.{
  ◌≡◌,
  ℕ,
  ◌≤◌,
  max,
  Bool,
  false,
  List,
  [],
  ◌++◌,
  length,
  sym,
  ap,
  subst,
  ◌∙◌,
  arith,
}
use Rattle.rd_base.specs.declared.moments.Moment.{Moment}
use Rattle.rd_base.specs.declared.peers.Peer.{Peer}
use Rattle.history_model.specs.declared.entries.Entry.{Entry}
use Rattle.history_model.specs.Versions.{VersionStandsFor}
use Rattle.event_model.specs.declared.notes.Note.{Note}
use Rattle.event_model.specs.Events.{Event, noted}
use Rattle.event_model.specs.Observers.{observe_values_sent}
use Rattle.journal_model.specs.declared.steps.Step.{Step}
use Rattle.journal_model.specs.declared.rows.Row.{Row}
use Rattle.journal_model.specs.DeskJournal.{NoLaterLook}
use Rattle.journal_model.specs.Effects.{Effects, nothing, joined}
use Rattle.journal_model.specs.Journal.{is_look, events, now}
use Rattle.journal_model.specs.Rows.{row_with, row_moment, effects, row}
use Rattle.journal_model.specs.Ticks.{octets_sent}
use Rattle.journal_model.specs.UnfinishedRow.{making, drawing}
use Rattle.journal_model.proofs.UnfinishedRowLaws.{
  row_moment-now,
  now-making,
  events-making_nothing,
  events-making_joined,
}
use Rattle.exchange_core.specs.ExchangeEvents.{ExchangesStandFor}
use Rattle.exchange_core.proofs.TableLaws.{ExchangesStandFor-later}
use Rattle.transfers.specs.TransferEvents.{TransfersStandFor}
use Rattle.transfers.proofs.TransferLaws.{TransfersStandFor-later}
use Rattle.simple_registration.specs.FetchEvents.{FetchesStandFor}
use Rattle.simple_registration.specs.Challenges.{ChallengesStandFor}
use Rattle.coap_answers.specs.declared.mids.Mids.{Mids}
use Rattle.coap_answers.specs.Sendings.{IsStepOf, Sends, AreRequestsSent}
use Rattle.rd_desk.specs.calls.Desks.{Seen, StandsFor}
use Rattle.observation.specs.Directories.{DirectoryStandsFor}
use Rattle.observation.specs.Watching.{Watching, WatchingStandsFor}
use Rattle.rd_desk.specs.parts.UnderWay.{UnderWay}
use Rattle.rd_desk.specs.calls.Steps.{IsCalled, Made}
use Rattle.rd_desk.proofs.parts.EffectLaws.{joined-nothing_first, drawing-more}
use Rattle.rd_desk.proofs.parts.FetchLaws.{FetchesStandFor-sent}
use Rattle.rd_desk.proofs.parts.MakingLaws.{
  entries-making_nothing,
  now-making_joined,
  requests-joined,
}
use Rattle.rd_desk.proofs.responses.FetchStepLaws.{FetchesStandFor-row}

-- ---- it begins

-- time passes: the moment rises to the greatest of both, and the observers are due whom a lapse
-- makes due
time_passes : (rows : List Row) (s : Step) (starved : Bool) (handed moment : ℕ) (d : Seen)
    (w : Watching)
    → is_look s.kind ≡ false
    → s.handed.0 ≡ handed
    → NoLaterLook handed rows
    → moment ≡ max handed d.moment
    → WatchingStandsFor (making rows s starved nothing) w
    → StandsFor rows d
    → StandsFor (making rows s starved nothing) (record d { moment = moment; watching = w })
time_passes rows s starved handed moment d w desk is none at watching stands =
    let made : row_moment rows s ≡ max handed (now rows) =
    row_moment-now rows s (subst (λ (h : ℕ). NoLaterLook h rows) (sym is) none)
    ∙ ap (λ (h : ℕ). max h (now rows)) is in
    let here : now (making rows s starved nothing) ≡ row_moment rows s =
    now-making rows s starved nothing desk in
    let later : now rows ≤ now (making rows s starved nothing) = omega (arith, made, here) in
    let same : events rows ≡ events (making rows s starved nothing) =
    sym (events-making_nothing rows s starved) in
    let at_version = stands.directory.at in
    let swept = stands.directory.swept in
    record {
      moment = at ∙ (ap (max handed) stands.moment ∙ (sym made ∙ sym here));
      directory = record {
        history =
            subst (λ (es : List Entry). VersionStandsFor 0 es d.version)
            (sym (entries-making_nothing rows s starved)) stands.directory.history;
        at = omega (arith, at_version, later);
        swept = omega (arith, swept, later);
      };
      exchanges =
          subst (λ (es : List Event).
          ExchangesStandFor (now (making rows s starved nothing)) es d.exchanges) same
          (ExchangesStandFor-later (now rows) (now (making rows s starved nothing)) (events rows)
          d.exchanges later stands.exchanges);
      transfers =
          subst (λ (es : List Event).
          TransfersStandFor (now (making rows s starved nothing)) es d.transfers) same
          (TransfersStandFor-later (now rows) (now (making rows s starved nothing)) (events rows)
          d.transfers later stands.transfers);
      watching = watching;
      fetches =
          subst (λ (es : List Event).
          FetchesStandFor (octets_sent (making rows s starved nothing)) es d.fetches) same
          (FetchesStandFor-row rows (row_with s (row_moment rows s) starved nothing) d.fetches
          stands.fetches);
      challenges =
          subst (λ (es : List Event). ChallengesStandFor es d.challenges) same stands.challenges;
      observed = stands.observed ∙ ap observe_values_sent same;
    }

-- then the step is under way, and did nothing yet
pub begun : (rows : List Row) (s : Step) (starved : Bool) (x d : Seen) (moment : ℕ) (w : Watching)
    (out : List (Peer × List ℕ)) (handed : Moment) (mids : Mids)
    → x ≡ d
    → out ≡ []
    → moment ≡ max handed.0 x.moment
    → WatchingStandsFor (making rows s starved nothing) w
    → IsCalled rows s handed mids d
    → UnderWay rows s starved nothing (record x { moment = moment; watching = w }) out mids
begun rows s starved x d moment w out handed mids seen none at watching call = record {
  journal = call.journal;
  no_later_look = subst (λ (h : ℕ). NoLaterLook h rows) (sym call.handed) call.no_later_look;
  no_look = call.no_look;
  stands =
      time_passes rows s starved handed.0 moment x w call.no_look call.handed call.no_later_look at
      watching (subst (StandsFor rows) (sym seen) call.stands);
  requests = tt;
  sent = none;
  worker = sym call.worker;
  drawn = sym call.drawn;
}

-- what `pass` of the watched queries asks: the moment before, and that of the row
pub moment_passes : (rows : List Row) (s : Step) (handed : Moment) (mids : Mids) (d : Seen)
    → IsCalled rows s handed mids d
    → max handed.0 d.moment ≡ row_moment rows s
moment_passes rows s handed mids d call =
    ap (max handed.0) call.stands.moment
    ∙ sym (row_moment-now rows s
    (subst (λ (h : ℕ). NoLaterLook h rows) (sym call.handed) call.no_later_look)
    ∙ ap (λ (h : ℕ). max h (now rows)) call.handed)

-- ---- it goes on

-- the moment of the desk is that of the row
pub way_moment : (rows : List Row) (s : Step) (starved : Bool) (done : Effects) (d : Seen)
    (out : List (Peer × List ℕ)) (mids : Mids)
    → UnderWay rows s starved done d out mids
    → d.moment ≡ row_moment rows s
way_moment rows s starved done d out mids way =
    way.stands.moment ∙ now-making rows s starved done way.no_look

-- the step is of its peer and of its worker, who has drawn no other Message ID yet
pub step_of : (rows : List Row) (s : Step) (starved : Bool) (done : Effects) (d : Seen)
    (out : List (Peer × List ℕ)) (mids : Mids) (sender : Peer)
    → s.peer ≡ sender
    → done.drew ≡ 0
    → UnderWay rows s starved done d out mids → IsStepOf s sender mids
step_of rows s starved done d out mids sender of none way = record {
  peer_is = of;
  worker = sym way.worker;
  drawn = sym (way.drawn ∙ ap (λ (n : ℕ). drawing n s.drawn) none);
}

-- the events with these notes of the row after them
abbrev pub noting_more : List Row → Step → List Note → List Event → List Event
noting_more rows s notes past = noted (length rows) (row_moment rows s) s.word notes past

-- one part more, table by table
pub more : (rows : List Row) (s : Step) (starved : Bool) (done e : Effects) (before after : Seen)
    (out sent : List (Peer × List ℕ)) (mids_before mids : Mids)
    → after.moment ≡ before.moment
    → (DirectoryStandsFor (making rows s starved done) before.version
    → DirectoryStandsFor (making rows s starved (joined done e)) after.version)
    → (ExchangesStandFor (row_moment rows s) (events (making rows s starved done)) before.exchanges
    → ExchangesStandFor (row_moment rows s)
    (noting_more rows s e.notes (events (making rows s starved done))) after.exchanges)
    → (TransfersStandFor (row_moment rows s) (events (making rows s starved done)) before.transfers
    → TransfersStandFor (row_moment rows s)
    (noting_more rows s e.notes (events (making rows s starved done))) after.transfers)
    → (WatchingStandsFor (making rows s starved done) before.watching
    → WatchingStandsFor (making rows s starved (joined done e)) after.watching)
    → (FetchesStandFor (octets_sent (making rows s starved (joined done e)))
    (events (making rows s starved done)) before.fetches
    → FetchesStandFor (octets_sent (making rows s starved (joined done e)))
    (noting_more rows s e.notes (events (making rows s starved done))) after.fetches)
    → (ChallengesStandFor (events (making rows s starved done)) before.challenges
    → ChallengesStandFor (noting_more rows s e.notes (events (making rows s starved done)))
    after.challenges)
    → (before.observed ≡ observe_values_sent (events (making rows s starved done))
    → after.observed
    ≡ observe_values_sent
    (noting_more rows s e.notes (events (making rows s starved done))))
    → AreRequestsSent e
    → Sends e out sent mids_before mids
    → UnderWay rows s starved done before out mids_before
    → UnderWay rows s starved (joined done e) after sent mids
more rows s starved done e before after out sent mids_before mids moment directory exchanges
    transfers watching fetches challenges observed requests sends way =
    let past = events (making rows s starved done) in
    let same : noting_more rows s e.notes past ≡ events (making rows s starved (joined done e)) =
    sym (events-making_joined rows s starved done e) in
    let still : now (making rows s starved done) ≡ now (making rows s starved (joined done e)) =
    sym (now-making_joined rows s starved done e) in
    let here : now (making rows s starved done) ≡ row_moment rows s =
    now-making rows s starved done way.no_look in
    let there : row_moment rows s ≡ now (making rows s starved (joined done e)) =
    sym here ∙ still in
    record {
      journal = way.journal;
      no_later_look = way.no_later_look;
      no_look = way.no_look;
      stands = record {
        moment = moment ∙ (way.stands.moment ∙ still);
        directory = directory way.stands.directory;
        exchanges =
            subst (λ (at : ℕ).
            ExchangesStandFor at (events (making rows s starved (joined done e)))
            after.exchanges) there
            (subst (λ (es : List Event). ExchangesStandFor (row_moment rows s) es after.exchanges)
            same
            (exchanges (subst (λ (at : ℕ). ExchangesStandFor at past before.exchanges) here
            way.stands.exchanges)));
        transfers =
            subst (λ (at : ℕ).
            TransfersStandFor at (events (making rows s starved (joined done e)))
            after.transfers) there
            (subst (λ (es : List Event). TransfersStandFor (row_moment rows s) es after.transfers)
            same
            (transfers (subst (λ (at : ℕ). TransfersStandFor at past before.transfers) here
            way.stands.transfers)));
        watching = watching way.stands.watching;
        fetches =
            subst (λ (es : List Event).
            FetchesStandFor (octets_sent (making rows s starved (joined done e))) es
            after.fetches) same
            (fetches (FetchesStandFor-sent rows s starved done e before.fetches way.requests
            way.stands.fetches));
        challenges =
            subst (λ (es : List Event). ChallengesStandFor es after.challenges) same
            (challenges way.stands.challenges);
        observed = observed way.stands.observed ∙ ap observe_values_sent same;
      };
      requests = requests-joined done e way.requests requests;
      sent = sends.sent ∙ ap (λ (xs : List (Peer × List ℕ)). xs ++ e.sent) way.sent;
      worker = sends.worker ∙ way.worker;
      drawn = sends.drawn ∙ (ap (drawing e.drew) way.drawn ∙ drawing-more done.drew e.drew s.drawn);
    }

-- the desk may change where it stands for the same
pub stood : (rows : List Row) (s : Step) (starved : Bool) (done : Effects) (before after : Seen)
    (out : List (Peer × List ℕ)) (mids : Mids)
    → (StandsFor (making rows s starved done) before → StandsFor (making rows s starved done) after)
    → UnderWay rows s starved done before out mids
    → UnderWay rows s starved done after out mids
stood rows s starved done before after out mids goes way = record {
  journal = way.journal;
  no_later_look = way.no_later_look;
  no_look = way.no_look;
  stands = goes way.stands;
  requests = way.requests;
  sent = way.sent;
  worker = way.worker;
  drawn = way.drawn;
}

-- what was done after nothing is all that was done
pub only : (rows : List Row) (s : Step) (starved : Bool) (e : Effects) (d : Seen)
    (out : List (Peer × List ℕ)) (mids : Mids)
    → UnderWay rows s starved (joined nothing e) d out mids
    → UnderWay rows s starved e d out mids
only rows s starved e d out mids way =
    subst (λ (f : Effects). UnderWay rows s starved f d out mids) (joined-nothing_first e) way

-- ---- it ends

-- where it did all that the step does, its row was made
pub ended : (rows : List Row) (s : Step) (starved : Bool) (e : Effects) (desk : Seen)
    (out : List (Peer × List ℕ)) (mids_before mids : Mids)
    → UnderWay rows s starved e desk out mids
    → e ≡ effects s.kind starved rows (row_moment rows s) s
    → s.worker ≡ mids_before.worker
    → s.drawn ≡ mids_before.drawn
    → Made rows (row rows s starved) desk out mids_before mids
unfolding row
ended rows s starved e desk out mids_before mids way is worker drawn =
    subst (λ (f : Effects).
    Made rows (row_with s (row_moment rows s) starved f) desk out mids_before mids) is
    (record {
      stands = way.stands;
      sent = way.sent;
      worker = way.worker ∙ worker;
      drawn = way.drawn ∙ ap (drawing e.drew) drawn;
    })
