-- The results of watching a query.
use Rattle.std.specs.Prelude.{◌≡◌, ℕ, Result, Ok, Err}
use Rattle.rd_base.specs.declared.queries.Query.{Query}
use Rattle.watch_table.specs.declared.watch_fault.WatchFault.{WatchFault}
use Rattle.watch_table.specs.declared.watch_fault.WatchFault.TheVariants as fault
use Rattle.watch_table.specs.WatchedQueries.{Table, one_more, IsSlotFor, IsFullFor}

-- The tables before and after a query gained one more observer, in this slot. There was room for
-- it.
pub record IsWatchedOnceMore (query : Query) (slot : ℕ) (before after : Table) : Type 0 where
  pub slot_for : IsSlotFor query slot before
  pub table : after ≡ one_more slot query before
  pub room : IsFullFor query before → ⊥

-- The same table before and after a refusal, because there is no room to watch this query.
pub record IsRefused (query : Query) (before after : Table) : Type 0 where
  pub full : IsFullFor query before
  pub same : after ≡ before

-- States the result of watching a query in place of an observer that is removed first, and the
-- table after it. The first table is the one before, and the second is the one without that
-- observer. A refusal leaves the table without that observer. If memory ran out, nothing changed.
abbrev pub Watches : Query → Table → Table → Result ℕ WatchFault → Table → Type 0
Watches query old gone (Ok slot) new = IsWatchedOnceMore query slot gone new
Watches query old gone (Err fault.FullWatches) new = IsRefused query gone new
Watches query old gone (Err fault.Starved) new = new ≡ old
