-- The five sentences of the headline, of every journal of the machine and so of every trace, and
-- the files that serve each. What holds of rows of steps in whatever journal, and so of those of
-- desks, stands below, in `journal_model`, under the same names of folders; its map says what.
--
-- HeadlineLaw: all five, of journals and of traces. Its laws of traces nothing here cites.
--
-- HoldsEachOnce: each accepted request stands once in one legal history; of journals of the
-- machine, and of those of desks.
--   Below: EntryOrigins says which steps note an entry, where it comes from, and that it comes
-- next, by ChangeEntries (commits: an entry stands beside
--   an answer that reports a change), ResponseEntries (responses that complete a fetch) and
-- QuietSteps (all others); RowLaws and JournalLaws lift it to
--   rows of steps and journals; CommitPlaces has that a commit is of a row that admitted its own
-- write, CommitsOnce that an admission of a desk is committed once.
--   entries: CommitLaws has that of the machine, EntryChanges that an entry is the change that its
-- request asks for; Admissions and FailedLaws that a repeat
--   is recognized, Failures that what failed ended in 5.00, which was sent; HoldsEachOnce, the
-- sentence.
--
-- TagsDecideStates: equal tags mean one state, and blocks of one listing or of one source.
--   entries: TagStates (the tags of rows of steps). rows: TaggedAnswers (the tags that are read in
-- answers), and the sentence; of a desk it holds of answers that were built in rows.
--
-- ObserversKnow: an observer that is not due knows the listing; of journals of the machine, and of
-- those of desks. It stands below whole, in observers.
--
-- AnswersAsFormed: each lookup answers the listing of the row that built it, and each read of a
-- registration its source.
--   Below, in sends: BodyAnswers (an answer bears the block of its body that is wanted), PlainSteps
-- (what refusals, writes and changes send is neither 2.05 nor 2.03),
--   TickSends (what is retransmitted), ValidSends (2.03); in flights: WaitedPeers and
-- NotificationsAgain
-- (the first part of a tick).
--   sends: LookupSends (looks, lookups, reads of a registration, keeps), PlainCommits (commits and
-- responses), StepOutcomes (one table of what each step but a tick sends);
--   RowSends and ValidLaw have that 2.03 is sent exactly where a look names the tag.
--   flights: TickNotifications, FreshNotifications and TickFolds (one record of what a tick did so
-- far, and
-- each notification more), KnownFlights and TickFlights (the row that built
--   each notification in flight), FirstBodies (other rows build no notification), CarriedListings
-- (what it is to carry the listing or the source of the row that built it).
--   notes: TickNotes (what a tick keeps is as it was asked).
--   rows: each row carries what was built as the headline says: RowCarries (looks and plain rows),
-- LookupRows (lookups and reads of a registration), KeepRows, TickRows; Validations has what
--   2.03 carries; and AnswersAsFormed, the sentence.
--
-- SendsToWhoAsked: each datagram can be read, fits, and goes to who asked or observes; and what is
-- noted as built is sent.
--   Below, in datagrams: FittingReplies (replies that can be read and fit), OwnSends (what each
-- step but a tick sends), TickedSends (what a tick sends), NotedSends (what
--   notes say of that), SentRows (rows of steps, one after the other), and DatagramRows (of a desk:
-- that each datagram can be read and fits, and that what is built is sent).
--   datagrams: DatagramLaws, the sentence.
--
-- Moments, NothingInvented, KeptAnswers and EchoedFirst, of specs: sentences that are claims of any
-- journal by themselves; of journals of the machine, and of those of desks.
--   MomentLaws: the moment of a row is the greatest that was passed in so far.
--   origins: NoteOrigins is the one table of where it comes from what a step notes of admissions,
-- uploads, fetches and kept answers that are read; AskedRequests has that each request that is
-- noted is sent; InventionLaws is the sentence. KeptAnswerLaws is the one on kept answers.
--   ReplyCodes, StepRequests and ChallengeLaws: which steps send a request, and that challenges are
-- sent; EchoLaws is the sentence on Echo.
--   WrongMoments, WrongInventions, WrongKeptAnswers and WrongEchoes: journals that have not the
-- sentence that their name tells.
--
-- The sentences of this crate's own specs:
--
-- SentToWhom: requests go to peers of running fetches, Resets and empty acknowledgements to who
-- sent what they answer.
--   whom: Dispatches is one table of what each step but a tick sends (answers, kept answers,
-- Resets, acknowledgements, requests of fetches), by RunningFetches (which fetches run);
--   TickDispatches has what a tick sends (responses, and requests that are retransmitted), GoesRows
-- lifts both to rows, and WhomLaws is the sentence.
--
-- AnsweredAlike: writes are answered once, as their requests want it, and alike where they come
-- again.
--   answers: ReportedOutcomes (the reply of each write: its code, no Observe, the location of its
-- entry), SettledNotes (what is settled was sent), CommitAnswers (a commit answers once; what is
--   admitted is a write), AdmittedRows (a row that admits sends nothing), StarvedRows (5.00 where
-- memory ran out), SingleAnswers (any other step sends at most one), and AnsweredAlike, the
--   sentence, by the table of `whom`.
--
-- ObserversStand: an answer with Observe makes an observer, which ends only for a reason.
--   watchers: ObserverNotes (what each step notes of who observes, and why), ObserversEnd (who is
-- rejected, given up or cancelled does not stand), ToldObservers (who is added is told so), and
--   ObserversStand, the sentence, by the table of `whom`.
--
-- WrongPeers, WrongAnswers and WrongObservers: rows that fall by these. WrongReadings: rows that a
-- second reader thought of, by any of the sentences of this crate's own specs.
--
-- WholeHeadlineLaw: all sentences, of journals, of desks and of traces.
--
-- WrongRows, WrongDatagrams, WrongSources and WrongBeginnings: rows with wrong answers or entries,
-- none of which has the headline.
--
-- desks: TraceJournals (a journal of a trace is one of a desk).
--
-- Restarts: two runs of a directory, each of which begins above a number, have no number of a
-- registration and no entity tag in common.
pub mod notes
pub mod entries
pub mod sends
pub mod flights
pub mod rows
pub mod desks
pub mod datagrams
pub mod answers
pub mod whom
pub mod watchers
pub mod HeadlineLaw
pub mod WrongRows
pub mod WrongEntries
pub mod WrongBodies
pub mod WrongBeginnings
pub mod WrongDatagrams
pub mod WrongSources
pub mod WrongPeers
pub mod WrongObservers
pub mod WrongAnswers
pub mod Restarts
pub mod MomentLaws
pub mod origins
pub mod WrongMoments
pub mod WrongInventions
pub mod WrongKeptAnswers
pub mod WrongEchoes
pub mod WrongReadings
pub mod WholeHeadlineLaw
