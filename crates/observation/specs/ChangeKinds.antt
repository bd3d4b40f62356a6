-- The kinds of changes, and updates that leave what lookups show of a registration (RFC 9176
-- sections 5 and 5.3).
use Rattle.std.specs.Prelude.{◌≡◌, Option, Some, None}
use Rattle.rd_base.specs.declared.records.Record.{Record}
use Rattle.history_model.specs.declared.entries.Change.{Change}
use Rattle.history_model.specs.declared.entries.Change.TheVariants as change
use Rattle.observation.specs.declared.change_kinds.ChangeKind.{ChangeKind}
use Rattle.observation.specs.declared.change_kinds.ChangeKind.TheVariants as kind

-- Returns the kind of a change.
abbrev pub kind_of : Change → ChangeKind
kind_of (change.Register params links) = kind.Registration
kind_of (change.Update number given) = kind.Update
kind_of (change.Replace number links) = kind.Replacement
kind_of (change.Remove number) = kind.Removal
kind_of (change.Begin first) = kind.Beginning

-- States that the registration exists before and after, with the same base and the same attributes.
abbrev pub StaysAsShown : Option Record → Option Record → Type 0
StaysAsShown None new = ⊥
StaysAsShown (Some old) None = ⊥
StaysAsShown (Some old) (Some new) = (old.base ≡ new.base) × (old.attrs ≡ new.attrs)
