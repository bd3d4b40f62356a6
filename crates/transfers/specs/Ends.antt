-- The state of a table after a reference into it has ended.
use Rattle.std.specs.Prelude.{⊤}
use Rattle.std.specs.Borrow.{Fml, MutBor, follows_so}
use mathlib.Core.Option.{none}
use Rattle.transfers.specs.TransferEvents.{Table}
use Rattle.transfers.specs.contracts.table.Transfers.{the_row}

-- States that the table ends so that `P` holds.
abbrev pub ends_so : MutBor Table → (Table → Type 0) → Fml
ends_so s P = follows_so the_row the_row s.ghost_name none (λ _ _. ⊤) P
