-- The headline: of each journal of the machine, and so of each trace, its registrations, its
-- answers, its tags, its observers and its datagrams are as promised; and what of that holds of
-- each journal of a desk.
use Rattle.std.proofs.Common.{ℕ, List}
use Rattle.journal_model.specs.HoldsEachOnce.{HoldsEachOnce}
use Rattle.journal_model.specs.AnswersAsFormed.{AnswersAsFormed}
use Rattle.journal_model.specs.TagsDecideStates.{TagsDecideStates}
use Rattle.journal_model.specs.ObserversKnow.{ObserversKnow}
use Rattle.journal_model.specs.SentDatagrams.{SendsToWhoAsked}
use Rattle.headline_law.proofs.datagrams.DatagramLaws.{journal-SendsToWhoAsked}
use Rattle.headline_law.proofs.datagrams.DatagramLaws.{desk-SendsToWhoAsked}
use Rattle.journal_model.specs.Headline.{Headline, DeskHeadline}
use Rattle.headline_law.proofs.entries.HoldsEachOnce.{journal-HoldsEachOnce, desk-HoldsEachOnce}
use Rattle.headline_law.proofs.rows.AnswersAsFormed.{answers_as_formed, desk-DeskAnswersAsFormed}
use Rattle.headline_law.proofs.rows.TaggedAnswers.{
  journal-TagsDecideStates,
  desk-FormedTagsDecideStates,
}
use Rattle.journal_model.proofs.observers.ObserversKnow.{journal-ObserversKnow, desk-ObserversKnow}
use Rattle.trace_model.specs.Steps.{journal}
use Rattle.trace_model.proofs.JournalLaw.{journal-IsJournal}
use Rattle.journal_model.specs.declared.rows.Row.{Row}
use Rattle.journal_model.specs.Machine.{IsJournal}
use Rattle.journal_model.specs.DeskJournal.{IsDeskJournal}

-- of each journal, whole
pub journal-Headline : (rows : List Row) → IsJournal rows → Headline rows
journal-Headline rows journal = record {
  changes = journal-HoldsEachOnce rows journal;
  answers = answers_as_formed rows journal;
  tags = journal-TagsDecideStates rows journal;
  observers = journal-ObserversKnow rows journal;
  sends = journal-SendsToWhoAsked rows journal;
}

-- of each journal of a desk
-- An end theorem: nothing here cites it.
pub desk-DeskHeadline : (rows : List Row) → IsDeskJournal rows → DeskHeadline rows
desk-DeskHeadline rows journal = record {
  changes = desk-HoldsEachOnce rows journal;
  answers = desk-DeskAnswersAsFormed rows journal;
  tags = desk-FormedTagsDecideStates rows journal;
  observers = desk-ObserversKnow rows journal;
  sends = λ requests. desk-SendsToWhoAsked rows journal requests;
}

-- ---- traces

-- each accepted request stands once
-- An end theorem: nothing here cites it.
pub trace-HoldsEachOnce : (workers : ℕ) (bytes : List ℕ) → HoldsEachOnce (journal workers bytes)
trace-HoldsEachOnce workers bytes =
    journal-HoldsEachOnce (journal workers bytes) (journal-IsJournal workers bytes)

-- each lookup answers the listing of the row that built it
-- An end theorem: nothing here cites it.
pub trace-AnswersAsFormed : (workers : ℕ) (bytes : List ℕ) → AnswersAsFormed (journal workers bytes)
trace-AnswersAsFormed workers bytes =
    answers_as_formed (journal workers bytes) (journal-IsJournal workers bytes)

-- equal tags mean one state
-- An end theorem: nothing here cites it.
pub trace-TagsDecideStates : (workers : ℕ) (bytes : List ℕ)
    → TagsDecideStates (journal workers bytes)
trace-TagsDecideStates workers bytes =
    journal-TagsDecideStates (journal workers bytes) (journal-IsJournal workers bytes)

-- an observer that is not due knows the listing
-- An end theorem: nothing here cites it.
pub trace-ObserversKnow : (workers : ℕ) (bytes : List ℕ) → ObserversKnow (journal workers bytes)
trace-ObserversKnow workers bytes =
    journal-ObserversKnow (journal workers bytes) (journal-IsJournal workers bytes)

-- each datagram can be read, fits, and goes to who asked or observes
-- An end theorem: nothing here cites it.
pub trace-SendsToWhoAsked : (workers : ℕ) (bytes : List ℕ) → SendsToWhoAsked (journal workers bytes)
trace-SendsToWhoAsked workers bytes =
    journal-SendsToWhoAsked (journal workers bytes) (journal-IsJournal workers bytes)

-- of each trace, whole
-- An end theorem: nothing here cites it.
pub trace-Headline : (workers : ℕ) (bytes : List ℕ) → Headline (journal workers bytes)
trace-Headline workers bytes =
    journal-Headline (journal workers bytes) (journal-IsJournal workers bytes)
