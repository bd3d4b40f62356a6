-- What a step leaves on a board, to be published after it.
use Rattle.std.specs.Prelude.{
  ◌≡◌,
  Bool,
  false,
  List,
  [],
  ◌∷◌,
  filter_map,
  Option,
  Some,
  IfSome,
}
use Rattle.history_model.specs.declared.entries.Entry.{Entry}
use Rattle.history_model.specs.Versions.{Version}
use Rattle.event_model.specs.declared.notes.Note.{Note}
use Rattle.journal_model.specs.Journal.{entry_noted}

-- Returns the version that is staged after a step that made these entries and left this version. If
-- the step made any entry, this version is staged. Otherwise it is the one staged before.
abbrev pub staged_after : List Entry → Version → Option Version → Option Version
staged_after [] version before = before
staged_after (entry ∷ entries) version before = Some version

-- States what is staged after a step with these notes that left this version. On a board that
-- exposes what is staged, this version is staged if the step made an entry, and nothing new
-- otherwise. On every board, nothing is staged after a step that made no entry.
abbrev pub LeavesStaged : List Note → Version → Option (Option Version)
    → Option (Option Version)
    → Bool → Type 0
LeavesStaged notes version before after is_staged =
    IfSome before (λ staged. after ≡ Some
    (staged_after (filter_map entry_noted notes) version staged))
    × (filter_map entry_noted notes ≡ [] → is_staged ≡ false)
