-- Events: EventLaws (the observers that stand after a note about them). The table: WalkLaws (which
-- is found, and what changes), AwaitedLaws (the peers that notifications are in flight to).
-- StandLaws: the events that the table stands for after each change. MarkLaws, for the crate above:
-- marks that are passed on, and whom the table waits for.
pub mod EventLaws
pub mod WalkLaws
pub mod AwaitedLaws
pub mod StandLaws
pub mod MarkLaws
