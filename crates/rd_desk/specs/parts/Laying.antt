-- What a part of a step stages on a board, to be published after the step.
use Rattle.std.specs.Prelude.{
  ◌≡◌,
  ◌≤◌,
  Bool,
  true,
  false,
  List,
  Option,
  Some,
  None,
  IfSome,
  if◌then◌else◌,
}
use Rattle.std.specs.Arc.{arc_value}
use Rattle.history_model.specs.declared.entries.Entry.{Entry}
use Rattle.history_model.specs.Versions.{Version, VersionStandsFor}
use Rattle.directory_core.specs.Boards.{HasOneMore}
use Rattle.rd_desk.specs.declared.write.outcomes.Entering.{Entering}
use Rattle.rd_desk.specs.declared.write.outcomes.Outcome.{Outcome}

-- A part of a step that found one version and left another, with a board. Either it made one entry
-- and staged the version with it, or it left the version and the board unchanged. If it made no
-- entry, nothing is staged.
pub record IsLaid (old new : Version) (before after : Option (Option Version))
    (is_staged : Bool) : Type 0 where
  pub entered : Bool
  pub staged : IfSome before (λ staged. after ≡ Some (if entered then Some new else staged))
  pub kept : entered ≡ false → new ≡ old
  pub made : entered ≡ true
      → (history : List Entry)
      → VersionStandsFor 0 history old
      → HasOneMore history new
  pub free : entered ≡ false → is_staged ≡ false

-- Returns the version of the entry that is ready, or the one staged before if none is.
abbrev pub version_ready : Option Entering → Option Version → Option Version
version_ready None before = before
version_ready (Some e) before = Some (arc_value e.version)

-- States that the outcome has one entry more than a history, if it makes one.
abbrev pub IsNextOf : List Entry → Outcome → Type 0
IsNextOf history o = IfSome o.entering (λ e. HasOneMore history (arc_value e.version))

-- States that the version was not swept after its last entry.
abbrev pub IsSweptBefore : Outcome → Type 0
IsSweptBefore o = IfSome o.entering (λ e. (arc_value e.version).swept ≤ (arc_value e.version).at)

-- States that the outcome leaves the new version. That is its own version, or the old one if it
-- makes no entry.
abbrev pub IsLeftBy : Version → Version → Option Entering → Type 0
IsLeftBy old new None = new ≡ old
IsLeftBy old new (Some e) = new ≡ arc_value e.version
