-- What notes hold and steps note: EntriesNoted, NoteKinds, StepNotes; in notes: SilentSteps (what
-- notes nothing), ChangeNotes (the kinds of notes of commits and responses),
--   StepTable, the one table of what each step notes, and LookupNotes (what is kept, and who
-- observes, is as it was asked).
-- Rows: RowEquations (their parts), UnfinishedRowLaws (a row that is being made), EventRows (the
-- row of an event), Jobs (the jobs of workers), SeatLaws (seats), FlightKeys (notifications in
-- flight).
-- Messages: MessageSizeLaws (how many octets spell them); in sends: what answers carry and steps
-- send (BodyAnswers, PlainSteps, ValidSends, TickSends).
-- Rows of steps, in whatever journal (entries): which steps note an entry and where it comes from
-- (QuietSteps, ChangeEntries, ResponseEntries, EntryOrigins), rows (RowLaws),
--   that the entries are a legal history (JournalLaws), and that a commit is of a row that admitted
-- its own write (CommitPlaces).
-- Observers: what each knows (ObserverKnowledge, AddedObservers, TickKnowledge, ObserversKnow), who
-- is due after a row by the marks of a desk (DueRows),
--   and the octets of messages that wait (SentOctets); in flights: what the first part of a tick
-- leaves (WaitedPeers, NotificationsAgain).
-- Datagrams: what rows send can be read and fits (FittingReplies, OwnSends, TickedSends,
-- NotedSends, SentRows, DatagramRows).
-- Journals of a desk (desks): TouchedExchanges (what a row notes of exchanges), AdmissionsInOrder
-- (what a table of exchanges asks of events, of each such journal),
--   OpenAdmissions (an admission from its row on, until it is ended; what is admitted is the row's
-- own), CommitsOnce (each is committed at most once),
--   OpenForOthers (it stays open while other workers make rows), MachineJournals (a journal of
--   the machine is one).
-- OnLiterals unfolds the definitions, so that examples compute.
pub mod OnLiterals
pub mod EntriesNoted
pub mod NoteKinds
pub mod MessageSizeLaws
pub mod StepNotes
pub mod RowEquations
pub mod UnfinishedRowLaws
pub mod EventRows
pub mod Jobs
pub mod SeatLaws
pub mod FlightKeys
pub mod sends
pub mod notes
pub mod entries
pub mod observers
pub mod desks
pub mod flights
pub mod datagrams
mod examples
