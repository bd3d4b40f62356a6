-- A step in parts (parts): effects one after the other (EffectLaws), what a journal shows while its
-- last row is made (MakingLaws, FetchLaws), which table a note is about (NoteTopics) and what it
-- leaves (AsideLaws), a step under way from its beginning to its row (WayLaws), one part more
-- (PartLaws); tables of the empty journal (DeskLaws), writes (WriteLaws), one that is forgotten in
-- its own row (ForgottenLaws), empty messages (EmptyMessageLaws), keeps (KeepLaws), the row of a
-- look, which leaves what a desk stands for (LookRows), lookups with the journal (LookupLaws), how
-- a request is refused (RefusalLaws), a beginning (BeginLaws), and what an admission does and
-- leaves by what it hears (AdmissionLaws, RoleLaws, HearingLaws).
-- What is shown of an observer: ShownLaws.
-- Responses to fetches (responses): the fetches that a desk keeps stay sound (FetchingLaws), and
-- what a response does, part after part (ResponseLaws).
-- Changes of the registrations (changes): what is planned of a write (OutcomeLaws), the entry that
-- a row makes (EntryLaws), how its parts are what settles a write and what that does to
--   its exchange (SettlingLaws), how long an answer is that is kept (ShortAnswers), and a commit,
-- by its query options, its method, its block and its path (CommitLaws);
--   for the desk above, that a commit is of an open admission (OpenJobs).
--   A block of a registration (UploadLaws), and a simple one, whose fetch starts beside its
-- answer (FetchStartLaws); what a step leaves on a board (StagingLaws).
-- Ticks (ticking): how many observe and are fetched from (BoundLaws), how long the octets are that
-- may be retransmitted (FittingLaws); notifications that are retransmitted (AgainLaws, observer
--   after observer AgainWalk), requests of fetches that are (RequestWalk); who gets a new
-- notification (NotificationWalk); a plan, from its beginning to its end
--   (PlanLaws; what is as before meanwhile, PlanWay), past those to whose peers a notification is
-- planned (SkipLaws) and with one observer more (PlanSteps; by what is planned for it, PlanCases),
-- and how it is carried out (CarryLaws); that no notification is sent where nobody is due and free
-- (IdleTicks); what is dropped at the end (EndLaws),
--   and that the parts are all that a tick does (WholeTick).
-- What steps send and note in which memory runs out, computed (examples).
pub mod parts
pub mod changes
pub mod responses
pub mod ticking
mod examples
