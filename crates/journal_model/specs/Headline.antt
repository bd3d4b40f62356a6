-- The headline: what holds of each journal of the machine, and of each journal of a desk.
use Rattle.std.specs.Prelude.{List}
use Rattle.journal_model.specs.declared.rows.Row.{Row}
use Rattle.journal_model.specs.HoldsEachOnce.{HoldsEachOnce}
use Rattle.journal_model.specs.AnswersAsFormed.{AnswersAsFormed, DeskAnswersAsFormed}
use Rattle.journal_model.specs.TagsDecideStates.{TagsDecideStates, FormedTagsDecideStates}
use Rattle.journal_model.specs.ObserversKnow.{ObserversKnow}
use Rattle.journal_model.specs.SentDatagrams.{SendsToWhoAsked, AreForRequests}

-- What holds of every journal of the machine.
pub record Headline (rows : List Row) : Type 0 where
  pub changes : HoldsEachOnce rows
  pub answers : AnswersAsFormed rows
  pub tags : TagsDecideStates rows
  pub observers : ObserversKnow rows
  pub sends : SendsToWhoAsked rows

-- What holds of every journal of a desk, which need not contain its looks, and whose keeps may have
-- any body and tag. Of answers it holds if their bodies were built in rows. Of datagrams it holds
-- if each look, commit and keep is made for a request, and each keep has a tag of eight octets.
pub record DeskHeadline (rows : List Row) : Type 0 where
  pub changes : HoldsEachOnce rows
  pub answers : DeskAnswersAsFormed rows
  pub tags : FormedTagsDecideStates rows
  pub observers : ObserversKnow rows
  pub sends : AreForRequests rows → SendsToWhoAsked rows
