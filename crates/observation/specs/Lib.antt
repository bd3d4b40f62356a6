-- Kinds of changes, and updates that leave the base and the attributes (RFC 9176 section 5.3).
pub mod ChangeKinds
-- The version at the end of a journal.
pub mod Directories
-- Marks that make observers due, and an entry with its registration (RFC 7641 section 4.2, RFC 9176
-- section 5).
pub mod Marks
pub mod Entering
-- Adding observers, rows that send a notification, and the next observer (RFC 7641 sections 4.1 and
-- 4.2).
pub mod Joining
pub mod Notifications
-- The watched queries with their observers, and the journal that they stand for (RFC 7641).
pub mod Watching
