-- A desk that is made stands for the journal without a row.
use Rattle.std.proofs.Common.{◌≡◌, ℕ, [], refl, arith}
use Rattle.history_model.specs.Live.{last_moment}
use Rattle.history_model.specs.Versions.{VersionStandsFor}
use Rattle.event_model.specs.Flights.{OctetsSent}
use Rattle.event_model.specs.Observers.{observe_values_sent}
use Rattle.journal_model.specs.Journal.{events, entries, now}
use Rattle.journal_model.specs.Ticks.{octets_sent}
use Rattle.exchange_core.specs.ExchangeEvents.{ExchangesStandFor}
use Rattle.transfers.specs.TransferEvents.{TransfersStandFor}
use Rattle.simple_registration.specs.FetchEvents.{FetchesStandFor}
use Rattle.simple_registration.specs.Challenges.{ChallengesStandFor}
use Rattle.observation.specs.Watching.{WatchingStandsFor}
use Rattle.rd_desk.specs.calls.Desks.{Seen, StandsFor}

-- without entries the moment of the last one is 0
pub last_moment-none : last_moment [] ≡ 0
unfolding last_moment
last_moment-none = refl

pub StandsFor-none : (d : Seen)
    → d.moment ≡ 0
    → VersionStandsFor 0 [] d.version
    → d.version.swept ≡ 0
    → ExchangesStandFor 0 [] d.exchanges
    → ((at : ℕ) → TransfersStandFor at [] d.transfers)
    → WatchingStandsFor [] d.watching
    → ((octets : OctetsSent) → FetchesStandFor octets [] d.fetches)
    → ChallengesStandFor [] d.challenges
    → d.observed ≡ 0
    → StandsFor [] d
unfolding events entries now last_moment observe_values_sent
StandsFor-none d moment version swept exchanges transfers watching fetches challenges observed =
    record {
      moment = moment;
      directory = record {
        history = version;
        at = (let at = version.at in omega (arith, at));
        swept = omega (arith, swept);
      };
      exchanges = exchanges;
      transfers = transfers 0;
      watching = watching;
      fetches = fetches (octets_sent []);
      challenges = challenges;
      observed = observed;
    }
