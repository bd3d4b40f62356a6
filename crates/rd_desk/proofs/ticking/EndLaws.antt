-- What leaves what the desk stands for: bodies that are kept, and the end of a tick, where old
-- exchanges are dropped and the version is swept.
use Rattle.std.proofs.Common.{◌≡◌, ℕ, ◌≤◌, List, sym, subst, arith}
use Rattle.history_model.specs.declared.entries.Entry.{Entry}
use Rattle.history_model.specs.Versions.{Version, VersionStandsFor}
use Rattle.event_model.specs.Events.{Event}
use Rattle.journal_model.specs.declared.rows.Row.{Row}
use Rattle.journal_model.specs.Journal.{events, entries, now}
use Rattle.exchange_core.specs.Table as exchanges
use Rattle.exchange_core.specs.ExchangeEvents.{ExchangesStandFor}
use Rattle.observation.specs.Watching.{Watching, WatchingStandsFor}
use Rattle.rd_desk.specs.calls.Desks.{Seen, StandsFor}

-- without old exchanges
pub aged-StandsFor : (rows : List Row) (b d : Seen) (t : exchanges.Table) → b ≡ d
    → ((at : ℕ) (past : List Event)
    → at ≤ b.moment
    → ExchangesStandFor at past b.exchanges
    → ExchangesStandFor b.moment past t)
    → StandsFor rows d
    → StandsFor rows (record b { exchanges = t })
aged-StandsFor rows b d t seen aged h =
    let own : StandsFor rows b = subst (StandsFor rows) (sym seen) h in
    let at = own.moment in
    record {
      moment = own.moment;
      directory = own.directory;
      exchanges =
          subst (λ (m : ℕ). ExchangesStandFor m (events rows) t) own.moment
          (aged (now rows) (events rows) (omega (arith, at)) own.exchanges);
      transfers = own.transfers;
      watching = own.watching;
      fetches = own.fetches;
      challenges = own.challenges;
      observed = own.observed;
    }

-- without what has lapsed
pub swept-StandsFor : (rows : List Row) (b d : Seen) (v : Version)
    → b ≡ d
    → ((history : List Entry) → VersionStandsFor 0 history b.version → VersionStandsFor 0 history v)
    → v.at ≡ b.version.at
    → v.swept ≡ b.moment
    → StandsFor rows d → StandsFor rows (record b { version = v })
swept-StandsFor rows b d v seen stands at swept h =
    let own : StandsFor rows b = subst (StandsFor rows) (sym seen) h in
    let moment = own.moment in
    let before = own.directory.at in
    record {
      moment = own.moment;
      directory = record {
        history = stands (entries rows) own.directory.history;
        at = omega (arith, at, before);
        swept = omega (arith, swept, moment);
      };
      exchanges = own.exchanges;
      transfers = own.transfers;
      watching = own.watching;
      fetches = own.fetches;
      challenges = own.challenges;
      observed = own.observed;
    }

-- with watched queries and observers that stand for the same
pub watched-StandsFor : (rows : List Row) (b d : Seen) (w : Watching)
    → b ≡ d
    → (WatchingStandsFor rows b.watching → WatchingStandsFor rows w)
    → StandsFor rows d
    → StandsFor rows (record b { watching = w })
watched-StandsFor rows b d w seen stands h =
    let own : StandsFor rows b = subst (StandsFor rows) (sym seen) h in
    record {
      moment = own.moment;
      directory = own.directory;
      exchanges = own.exchanges;
      transfers = own.transfers;
      watching = stands own.watching;
      fetches = own.fetches;
      challenges = own.challenges;
      observed = own.observed;
    }
