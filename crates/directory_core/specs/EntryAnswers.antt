-- The result of a change of a version, for each history that the version stands for.
use Rattle.std.specs.Prelude.{◌≡◌, ℕ, List, [], ◌∷◌, ◌++◌, None, Result, Ok, Err, IfOk, IfErr, OnOk}
use Rattle.history_model.specs.declared.entries.Entry.{Entry}
use Rattle.history_model.specs.Refusals.{change_refusal}
use Rattle.history_model.specs.Versions.{Version, VersionStandsFor}
use Rattle.directory_core.specs.declared.refusals.Refusal.{Refusal}
use Rattle.directory_core.specs.Answers.{IsRefusalOf}

-- The result of an entry after a history. Either it is a version that stands for the history with
-- the entry, or it is the first refusal of the entry.
pub record AnswersEntry (first : ℕ) (history : List Entry) (entry : Entry) (swept : ℕ)
    (answer : Result Version Refusal) : Type 0 where
  pub stands : IfOk answer (λ version. VersionStandsFor first (history ++ entry ∷ []) version)
  pub accepted : OnOk answer (change_refusal first history entry ≡ None)
  pub refused : IfErr answer (λ refusal. IsRefusalOf first history entry refusal)
  pub kept : IfOk answer (λ version. version.swept ≡ swept)

-- Returns a version with the number of the registration that it added or replaced.
abbrev pub with_number : Result Version Refusal → ℕ → Result (Version × ℕ) Refusal
with_number (Ok version) number = Ok (version, number)
with_number (Err refusal) number = Err refusal
