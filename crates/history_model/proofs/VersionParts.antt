-- The same marks from a version that stands for the history.
use Rattle.std.proofs.Common.{◌≡◌, ℕ, ◌≤◌, List, None, Some, refl, ap}
use Rattle.std.specs.List.{list_any}
use Rattle.rd_base.specs.declared.queries.Query.{Query}
use Rattle.rd_base.specs.declared.records.Record.{Record}
use Rattle.history_model.specs.declared.entries.Change.{Change}
use Rattle.history_model.specs.declared.entries.Change.TheVariants as change
use Rattle.history_model.specs.declared.entries.Entry.{Entry}
use Rattle.history_model.specs.Leases.{live_among}
use Rattle.history_model.specs.Replay.{replay, numbered, number_about}
use Rattle.history_model.specs.Live.{live}
use Rattle.history_model.specs.Versions.{Version, state_of, VersionStandsFor}
use Rattle.history_model.proofs.VersionLaws.{
  lapsing-VersionStandsFor,
  live-VersionStandsFor,
  number_for-VersionStandsFor,
}
use Rattle.history_model.specs.ChangedParts.{is_other_part, is_lapse_of}

pub is_lapse_of-VersionStandsFor : (first : ℕ) (history : List Entry) (version : Version)
    (query : Query) (from to : ℕ)
    → VersionStandsFor first history version
    → version.swept ≤ from
    → is_lapse_of query from to version.records ≡ is_lapse_of query from to (replay history).records
is_lapse_of-VersionStandsFor first history version query from to stands order =
    ap (list_any (λ (r : Record). is_other_part query (Some r) None))
    (lapsing-VersionStandsFor first history version from to stands order)

pub numbered-VersionStandsFor : (first : ℕ) (history : List Entry) (version : Version)
    (number moment : ℕ)
    → VersionStandsFor first history version
    → version.swept ≤ moment
    → numbered number (live_among moment version.records) ≡ numbered number (live history moment)
numbered-VersionStandsFor first history version number moment stands order =
    ap (numbered number) (live-VersionStandsFor first history version moment stands order)

pub number_about-VersionStandsFor : (first : ℕ) (history : List Entry) (version : Version)
    (moment : ℕ) (c : Change)
    → VersionStandsFor first history version
    → version.swept ≤ moment
    → number_about (state_of version) moment c ≡ number_about (replay history) moment c
number_about-VersionStandsFor first history version moment (change.Register params links) stands
    order =
    number_for-VersionStandsFor first history version params.name moment stands order
number_about-VersionStandsFor first history version moment (change.Update number given) stands
    order =
    refl
number_about-VersionStandsFor first history version moment (change.Replace number links) stands
    order =
    refl
number_about-VersionStandsFor first history version moment (change.Remove number) stands order =
    refl
number_about-VersionStandsFor first history version moment (change.Begin begin) stands order = refl
