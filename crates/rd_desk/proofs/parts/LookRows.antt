-- A row of a look leaves what a desk stands for.
use Rattle.std.proofs.Common.{◌≡◌, ℕ, ◌≤◌, true, not, cond, List, [], ◌∷◌, ◌++◌, length, filter_map}
use Rattle.std.proofs.Common.{sym, ap, subst, ◌∙◌, append-nil}
use Rattle.history_model.specs.declared.entries.Entry.{Entry}
use Rattle.history_model.specs.Versions.{VersionStandsFor}
use Rattle.event_model.specs.declared.notes.Note.{Note}
use Rattle.event_model.specs.Events.{Event, noted}
use Rattle.event_model.specs.Observers.{observe_values_sent}
use Rattle.journal_model.specs.declared.rows.Row.{Row}
use Rattle.journal_model.specs.Journal.{is_look, entry_noted, events, entries, now}
use Rattle.journal_model.specs.Ticks.{octets_sent}
use Rattle.journal_model.proofs.RowEquations.{events-row, now-row}
use Rattle.exchange_core.specs.ExchangeEvents.{ExchangesStandFor}
use Rattle.transfers.specs.TransferEvents.{TransfersStandFor}
use Rattle.simple_registration.specs.FetchEvents.{FetchesStandFor}
use Rattle.simple_registration.specs.Challenges.{ChallengesStandFor}
use Rattle.rd_desk.specs.calls.Desks.{Seen, StandsFor}
use Rattle.rd_desk.proofs.responses.FetchStepLaws.{FetchesStandFor-row}
use Rattle.observation.specs.Directories.{DirectoryStandsFor}
use Rattle.observation.proofs.WatchingLaws.{WatchingStandsFor-looked}

-- it notes nothing, so the events, the entries and the moment are as before
events-same : (rows : List Row) (r : Row) → r.notes ≡ [] → events (r ∷ rows) ≡ events rows
events-same rows r none =
    events-row rows r ∙ ap
    (λ (notes : List Note). noted (length rows) r.moment.0 r.step.word notes (events rows)) none

entries-same : (rows : List Row) (r : Row) → r.notes ≡ [] → entries (r ∷ rows) ≡ entries rows
unfolding entries
entries-same rows r none =
    ap (λ (notes : List Note). entries rows ++ filter_map entry_noted notes) none
    ∙ append-nil (entries rows)

now-same : (rows : List Row) (r : Row) → is_look r.step.kind ≡ true → now (r ∷ rows) ≡ now rows
now-same rows r looks = now-row rows r ∙ ap (λ b. cond (not b) r.moment.0 (now rows)) looks

-- so is what each table stands for
DirectoryStandsFor-looked : (rows : List Row) (r : Row) (d : Seen) → is_look r.step.kind ≡ true
    → r.notes ≡ [] → DirectoryStandsFor rows d.version → DirectoryStandsFor (r ∷ rows) d.version
DirectoryStandsFor-looked rows r d looks none h = record {
  history = subst (λ (es : List Entry). VersionStandsFor 0 es d.version)
      (sym (entries-same rows r none)) h.history;
  at = subst (λ (n : ℕ). d.version.at ≤ n) (sym (now-same rows r looks)) h.at;
  swept = subst (λ (n : ℕ). d.version.swept ≤ n) (sym (now-same rows r looks)) h.swept;
}

-- A desk that stands for rows stands for them with the row of a look.
pub StandsFor-looked : (rows : List Row) (r : Row) (d : Seen) → is_look r.step.kind ≡ true
    → r.notes ≡ [] → StandsFor rows d → StandsFor (r ∷ rows) d
StandsFor-looked rows r d looks none h =
    let past = sym (events-same rows r none) in
    let still = sym (now-same rows r looks) in
    record {
      moment = h.moment ∙ still;
      directory = DirectoryStandsFor-looked rows r d looks none h.directory;
      exchanges = subst (λ (n : ℕ). ExchangesStandFor n (events (r ∷ rows)) d.exchanges) still
          (subst (λ (es : List Event). ExchangesStandFor (now rows) es d.exchanges) past
          h.exchanges);
      transfers = subst (λ (n : ℕ). TransfersStandFor n (events (r ∷ rows)) d.transfers) still
          (subst (λ (es : List Event). TransfersStandFor (now rows) es d.transfers) past
          h.transfers);
      watching = WatchingStandsFor-looked rows r d.watching (ap not looks) none h.watching;
      fetches = subst (λ (es : List Event). FetchesStandFor (octets_sent (r ∷ rows)) es d.fetches)
          past (FetchesStandFor-row rows r d.fetches h.fetches);
      challenges =
          subst (λ (es : List Event). ChallengesStandFor es d.challenges) past h.challenges;
      observed = h.observed ∙ ap observe_values_sent past;
    }
