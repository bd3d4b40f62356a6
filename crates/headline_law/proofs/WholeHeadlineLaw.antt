-- The whole headline, of each journal of the machine, of each of a desk, and so of each trace.
use Rattle.std.proofs.Common.{ℕ, List}
use Rattle.journal_model.specs.declared.rows.Row.{Row}
use Rattle.journal_model.specs.Machine.{IsJournal}
use Rattle.journal_model.specs.DeskJournal.{IsDeskJournal}
use Rattle.trace_model.specs.Steps.{journal}
use Rattle.trace_model.proofs.JournalLaw.{journal-IsJournal}
use Rattle.headline_law.specs.WholeHeadline.{WholeHeadline, WholeDeskHeadline}
use Rattle.headline_law.proofs.HeadlineLaw.{journal-Headline, desk-DeskHeadline}
use Rattle.headline_law.proofs.MomentLaws.{journal-Moments, desk-Moments}
use Rattle.headline_law.proofs.answers.AnsweredAlike.{journal-AnsweredAlike, desk-AnsweredAlike}
use Rattle.headline_law.proofs.origins.InventionLaws.{
  journal-NothingInvented,
  desk-NothingInvented,
}
use Rattle.headline_law.proofs.origins.KeptAnswerLaws.{journal-KeptAnswers, desk-KeptAnswers}
use Rattle.headline_law.proofs.origins.EchoLaws.{journal-EchoedFirst, desk-EchoedFirst}
use Rattle.headline_law.proofs.watchers.ObserversStand.{
  journal-ObserversStand,
  desk-ObserversStand,
}
use Rattle.headline_law.proofs.whom.WhomLaws.{journal-SentToWhom, desk-SentToWhom}

-- of each journal
pub journal-WholeHeadline : (rows : List Row) → IsJournal rows → WholeHeadline rows
journal-WholeHeadline rows it = record {
  five = journal-Headline rows it;
  moments = journal-Moments rows it;
  alike = journal-AnsweredAlike rows it;
  invented = journal-NothingInvented rows it;
  kept = journal-KeptAnswers rows it;
  watched = journal-ObserversStand rows it;
  whom = journal-SentToWhom rows it;
  echo = journal-EchoedFirst rows it;
}

-- of each journal of a desk
pub desk-WholeDeskHeadline : (rows : List Row) → IsDeskJournal rows → WholeDeskHeadline rows
desk-WholeDeskHeadline rows it = record {
  five = desk-DeskHeadline rows it;
  moments = desk-Moments rows it;
  alike = λ requests. desk-AnsweredAlike rows it requests;
  invented = desk-NothingInvented rows it;
  kept = desk-KeptAnswers rows it;
  watched = λ requests. desk-ObserversStand rows it requests;
  whom = λ requests. desk-SentToWhom rows it requests;
  echo = desk-EchoedFirst rows it;
}

-- of each trace
pub trace-WholeHeadline : (workers : ℕ) (bytes : List ℕ) → WholeHeadline (journal workers bytes)
trace-WholeHeadline workers bytes =
    journal-WholeHeadline (journal workers bytes) (journal-IsJournal workers bytes)
