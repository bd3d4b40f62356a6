-- The refusal of an entry that would come next in a history.
use Rattle.std.specs.Prelude.{◌≡◌, ⊤, ℕ, List, length, Some}
use Rattle.history_model.specs.declared.entries.Entry.{Entry}
use Rattle.history_model.specs.declared.refusals.Refusal.TheVariants as cause
use Rattle.history_model.specs.Live.{live}
use Rattle.history_model.specs.Replay.{replay, number_about}
use Rattle.history_model.specs.Refusals.{max_registrations, text_after, change_refusal}
use Rattle.registration.specs.Weights.{capped}
use Rattle.directory_core.specs.declared.refusals.Refusal.{Refusal}
use Rattle.directory_core.specs.declared.refusals.Refusal.TheVariants as answer

-- States that the result is the first refusal of the entry, with what it names: the number, how
-- many records are live, or what they would weigh. Running out of memory has no cause in the
-- history.
abbrev pub IsRefusalOf : ℕ → List Entry → Entry → Refusal → Type 0
IsRefusalOf first history entry (answer.Gone number) =
    (change_refusal first history entry ≡ Some cause.Registration)
    × (number ≡ number_about (replay history) entry.moment.0 entry.change)
IsRefusalOf first history entry (answer.FullCount count) =
    (change_refusal first history entry ≡ Some cause.Registrations)
    × (count ≡ length (live history entry.moment.0))
    × (count ≡ max_registrations)
IsRefusalOf first history entry (answer.FullText text) =
    (change_refusal first history entry ≡ Some cause.Text)
    × (text ≡ capped (text_after (replay history) entry))
IsRefusalOf first history entry answer.FullEntries =
    change_refusal first history entry ≡ Some cause.Entries
IsRefusalOf first history entry answer.Starved = ⊤
