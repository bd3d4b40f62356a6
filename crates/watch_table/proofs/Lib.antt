-- Queries: QueryLaws (when two are the same). Marks: MarkLaws. Slots: SlotLaws (a free one, and
-- each after the other), EntryLaws (one observer more, and one fewer). What comes of watching:
-- OutcomeLaws. The observers that a table stands for: ObserverLaws (one more, one fewer, how many
-- queries), TouchedLaws (what leaves queries and observers), WatchedAtLaws (the query in a slot).
-- Prints: PrintLaws (what is not noted), NoteLaws (the texts of a registration), MissLaws (a query
-- that seeks what is not noted).
pub mod QueryLaws
pub mod MarkLaws
pub mod SlotLaws
pub mod EntryLaws
pub mod OutcomeLaws
pub mod ObserverLaws
pub mod TouchedLaws
pub mod WatchedAtLaws
pub mod PrintLaws
pub mod MissLaws
pub mod NoteLaws
