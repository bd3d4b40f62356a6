-- The entry that a beginning makes ready before anything changes.
use Rattle.std.specs.Prelude.{◌≡◌, ℕ, List, Option, Some, None}
use Rattle.history_model.specs.declared.entries.Entry.{Entry}
use Rattle.history_model.specs.declared.refusals.Refusal.{Refusal}
use Rattle.history_model.specs.Refusals.{change_refusal}
use Rattle.rd_desk.specs.declared.write.outcomes.Entering.{Entering}
use Rattle.rd_desk.specs.parts.Outcomes.{IsEntering}

-- States what a beginning makes ready after a history, from a version that is swept up to a moment.
-- Its entry is ready. If the beginning is refused, nothing is.
abbrev pub IsBegun : List Entry → ℕ → Entry → Option Entering → Type 0
IsBegun history swept entry None = (why : Refusal) × (change_refusal 0 history entry ≡ Some why)
IsBegun history swept entry (Some e) = IsEntering history swept entry e
