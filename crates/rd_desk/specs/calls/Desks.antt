-- What a desk shows, and the journal that it stands for.
use Rattle.std.specs.Prelude.{◌≡◌, ℕ, List}
use Rattle.history_model.specs.Versions.{Version}
use Rattle.event_model.specs.Observers.{observe_values_sent}
use Rattle.journal_model.specs.declared.rows.Row.{Row}
use Rattle.journal_model.specs.Journal.{events, now}
use Rattle.journal_model.specs.Ticks.{octets_sent}
use Rattle.exchange_core.specs.Table as exchanges
use Rattle.exchange_core.specs.ExchangeEvents.{ExchangesStandFor}
use Rattle.transfers.specs.TransferEvents as transfers
use Rattle.transfers.specs.TransferEvents.{TransfersStandFor}
use Rattle.simple_registration.specs.Table as fetches
use Rattle.simple_registration.specs.FetchEvents.{FetchesStandFor}
use Rattle.simple_registration.specs.Challenges.{ChallengeTable, ChallengesStandFor}
use Rattle.observation.specs.Directories.{DirectoryStandsFor}
use Rattle.observation.specs.Watching.{Watching, WatchingStandsFor}

-- What a desk shows: its moment, the version of the directory, and the tables. It also shows how
-- many Observe values it gave, modulo 2^64.
pub record Seen : Type 0 where
  pub moment : ℕ
  pub version : Version
  pub exchanges : exchanges.Table
  pub transfers : transfers.Table
  pub watching : Watching
  pub fetches : fetches.Table
  pub challenges : ChallengeTable
  pub observed : ℕ

-- A desk that stands for a journal. Its moment is that of the last row that is not a look, and each
-- table stands for the events.
pub record StandsFor (rows : List Row) (d : Seen) : Type 0 where
  pub moment : d.moment ≡ now rows
  pub directory : DirectoryStandsFor rows d.version
  pub exchanges : ExchangesStandFor (now rows) (events rows) d.exchanges
  pub transfers : TransfersStandFor (now rows) (events rows) d.transfers
  pub watching : WatchingStandsFor rows d.watching
  pub fetches : FetchesStandFor (octets_sent rows) (events rows) d.fetches
  pub challenges : ChallengesStandFor (events rows) d.challenges
  pub observed : d.observed ≡ observe_values_sent (events rows)
