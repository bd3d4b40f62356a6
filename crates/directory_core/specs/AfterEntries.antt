-- A version after an entry, and the refusal if it has no room.
use Rattle.std.specs.Prelude.{
  ◌≡◌,
  ⊤,
  ℕ,
  ◌+◌,
  ◌^◌,
  ◌<◌,
  ◌≤◌,
  true,
  not,
  max,
  List,
  filter,
  Result,
  Ok,
  Err,
}
use Rattle.std.specs.List.{list_all}
use Rattle.rd_base.specs.declared.records.Record.{Record}
use Rattle.record_model.specs.Parameters.{is_base}
use Rattle.history_model.specs.Refusals.{max_text, max_entries}
use Rattle.history_model.specs.Replay.{is_numbered, with_changed}
use Rattle.history_model.specs.Versions.{Version}
use Rattle.registration.specs.declared.drafts.Draft.{Draft}
use Rattle.registration.specs.Drafts.{has_references}
use Rattle.registration.specs.Submissions.{AreOfBody}
use Rattle.registration.specs.Weights.{capped}
use Rattle.directory_core.specs.declared.refusals.Refusal.{Refusal}
use Rattle.directory_core.specs.declared.refusals.Refusal.TheVariants as answer
use Rattle.directory_core.specs.LinksAgainst.{AreAgainst}

-- Returns the records with this one in place of the one with its number.
abbrev pub renewed : Record → List Record → List Record
renewed r records = with_changed r.number (λ _. r) records

-- Returns the records without the one with a number.
abbrev pub without : ℕ → List Record → List Record
without number records = filter (λ r. not (is_numbered number r)) records

-- Returns a version after an entry at a moment, with these records and this last number.
abbrev pub after_entry : Version → ℕ → List Record → ℕ → Version
after_entry v now records last_number = record {
  records = records;
  entries = v.entries + 1;
  at = now;
  last_number = last_number;
  swept_live = 0;
  swept = v.swept;
}

-- Returns a version after a beginning at a moment. Its last number and its count are raised to this
-- number, and one more entry is counted.
abbrev pub begun : Version → ℕ → ℕ → Version
begun v now first = record {
  records = v.records;
  entries = max v.entries first + 1;
  at = now;
  last_number = max v.last_number first;
  swept_live = 0;
  swept = v.swept;
}

-- The conditions on a draft that becomes a record.
pub record IsSound (draft : Draft) : Type 0 where
  pub lasting : (0 < draft.lt) × (draft.lt < 2 ^ 32)
  pub references : list_all has_references draft.items ≡ true
  pub against : AreAgainst draft.base draft.items
  pub of_body : AreOfBody draft.items
  pub base : is_base draft.base ≡ true

-- States that the result fits this much text and this count of entries. If the text is allowed and
-- one more entry can be counted, the result is the text; otherwise it is the refusal that says so.
abbrev pub HasRoom : ℕ → ℕ → Result ℕ Refusal → Type 0
HasRoom text entries (Ok sum) = (sum ≡ text) × (text ≤ max_text) × (entries < max_entries)
HasRoom text entries (Err (answer.FullText sum)) = (sum ≡ capped text) × (max_text < text)
HasRoom text entries (Err answer.FullEntries) = (text ≤ max_text) × (max_entries ≤ entries)
HasRoom text entries (Err answer.Starved) = ⊥
HasRoom text entries (Err (answer.Gone number)) = ⊥
HasRoom text entries (Err (answer.FullCount count)) = ⊥

-- States the same of a version, which is made if there is room.
abbrev pub IsMadeWithRoom : ℕ → ℕ → Version → Result Version Refusal → Type 0
IsMadeWithRoom text entries new (Ok version) =
    (version ≡ new) × (text ≤ max_text) × (entries < max_entries)
IsMadeWithRoom text entries new (Err (answer.FullText sum)) =
    (sum ≡ capped text) × (max_text < text)
IsMadeWithRoom text entries new (Err answer.FullEntries) =
    (text ≤ max_text) × (max_entries ≤ entries)
IsMadeWithRoom text entries new (Err answer.Starved) = ⊤
IsMadeWithRoom text entries new (Err (answer.Gone number)) = ⊥
IsMadeWithRoom text entries new (Err (answer.FullCount count)) = ⊥

-- States that the result says whether one more entry can be counted.
abbrev pub HasEntryRoom : ℕ → Result (Unit {0}) Refusal → Type 0
HasEntryRoom entries (Ok nothing) = entries < max_entries
HasEntryRoom entries (Err answer.FullEntries) = max_entries ≤ entries
HasEntryRoom entries (Err (answer.FullText sum)) = ⊥
HasEntryRoom entries (Err answer.Starved) = ⊥
HasEntryRoom entries (Err (answer.Gone number)) = ⊥
HasEntryRoom entries (Err (answer.FullCount count)) = ⊥
