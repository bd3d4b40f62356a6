-- What is done next leaves a table that it notes nothing about.
use Rattle.std.proofs.Common.{
  ◌≡◌,
  ℕ,
  ◌+◌,
  ◌%◌,
  ◌^◌,
  ◌≤◌,
  Bool,
  false,
  cond,
  List,
  [],
  ◌∷◌,
  sym,
  ap,
  subst,
  ◌∙◌,
}
use Rattle.std.specs.List.{list_any}
use Rattle.history_model.specs.declared.entries.Entry.{Entry}
use Rattle.history_model.specs.Versions.{Version, VersionStandsFor}
use Rattle.event_model.specs.declared.notes.Note.{Note}
use Rattle.event_model.specs.Events.{Event, noted}
use Rattle.event_model.specs.Observers.{is_forming, observe_values_sent}
use Rattle.event_model.proofs.AsideLaws.{notes_aside}
use Rattle.event_model.proofs.AsideTables.{about_exchanges, exchanges_at-noted}
use Rattle.event_model.proofs.CounterLaws.{observe_values_sent-event}
use Rattle.journal_model.specs.declared.steps.Step.{Step}
use Rattle.journal_model.specs.declared.rows.Row.{Row}
use Rattle.journal_model.specs.Effects.{Effects, joined}
use Rattle.journal_model.specs.UnfinishedRow.{making}
use Rattle.journal_model.proofs.EntriesNoted.{entries_in}
use Rattle.exchange_core.specs.Table as exchanges
use Rattle.exchange_core.specs.ExchangeEvents.{ExchangesStandFor}
use Rattle.observation.specs.Directories.{DirectoryStandsFor}
use Rattle.rd_desk.proofs.parts.MakingLaws.{now-making_joined, entries-making_joined}

-- the directory
pub DirectoryStandsFor-aside : (rows : List Row) (s : Step) (starved : Bool) (done more : Effects)
    (v : Version)
    → entries_in more.notes ≡ []
    → DirectoryStandsFor (making rows s starved done) v
    → DirectoryStandsFor (making rows s starved (joined done more)) v
DirectoryStandsFor-aside rows s starved done more v none stands =
    let still = sym (now-making_joined rows s starved done more) in
    record {
      history =
          subst (λ (es : List Entry). VersionStandsFor 0 es v)
          (sym (entries-making_joined rows s starved done more none)) stands.history;
      at = subst (λ (n : ℕ). v.at ≤ n) still stands.at;
      swept = subst (λ (n : ℕ). v.swept ≤ n) still stands.swept;
    }

-- the exchanges
pub ExchangesStandFor-noted : (at place moment word : ℕ) (notes : List Note) (past : List Event)
    (t : exchanges.Table)
    → list_any about_exchanges notes ≡ false
    → ExchangesStandFor at past t → ExchangesStandFor at (noted place moment word notes past) t
ExchangesStandFor-noted at place moment word notes past t none stands = record {
  kept = stands.kept ∙ sym (exchanges_at-noted at place moment word notes past none);
}

-- the count of Observe values
pub observe_values_sent-aside : (count place moment word : ℕ) (notes : List Note)
    (past : List Event)
    → list_any is_forming notes ≡ false
    → count ≡ observe_values_sent past
    → count ≡ observe_values_sent (noted place moment word notes past)
observe_values_sent-aside count place moment word notes past none h =
    notes_aside is_forming (λ before. count ≡ observe_values_sent before) one place moment word
    notes past none h
  where
    one : (e : Event) (before : List Event)
        → is_forming e.note ≡ false
        → count ≡ observe_values_sent before
        → count ≡ observe_values_sent (e ∷ before)
    one e before other g =
        g
        ∙ sym (observe_values_sent-event e before
        ∙ ap (λ b.
        cond b ((observe_values_sent before + 1) % 2 ^ 64)
        (observe_values_sent before)) other)
