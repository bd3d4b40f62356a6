-- The whole headline: the five sentences of `journal_model`, and seven more. These make each of the
-- five a claim about any journal by itself (RFC 7252, RFC 7641, RFC 7959, RFC 9175, RFC 9176).
use Rattle.std.specs.Prelude.{List}
use Rattle.journal_model.specs.declared.rows.Row.{Row}
use Rattle.journal_model.specs.Headline.{Headline, DeskHeadline}
use Rattle.journal_model.specs.SentDatagrams.{AreForRequests}
use Rattle.headline_law.specs.Moments.{Moments}
use Rattle.headline_law.specs.AnsweredAlike.{AnsweredAlike}
use Rattle.headline_law.specs.NothingInvented.{NothingInvented}
use Rattle.headline_law.specs.KeptAnswers.{KeptAnswers}
use Rattle.headline_law.specs.ObserversStand.{ObserversStand}
use Rattle.headline_law.specs.SentToWhom.{SentToWhom}
use Rattle.headline_law.specs.EchoedFirst.{EchoedFirst}

-- What holds of every journal of the machine.
pub record WholeHeadline (rows : List Row) : Type 0 where
  pub five : Headline rows
  pub moments : Moments rows
  pub alike : AnsweredAlike rows
  pub invented : NothingInvented rows
  pub kept : KeptAnswers rows
  pub watched : ObserversStand rows
  pub whom : SentToWhom rows
  pub echo : EchoedFirst rows

-- What holds of every journal of a desk. Three sentences have a condition: those about the answers
-- to writes, about observers, and about recipients. Each look, commit and keep is made for a
-- request, and each keep has a tag of eight octets.
pub record WholeDeskHeadline (rows : List Row) : Type 0 where
  pub five : DeskHeadline rows
  pub moments : Moments rows
  pub alike : AreForRequests rows → AnsweredAlike rows
  pub invented : NothingInvented rows
  pub kept : KeptAnswers rows
  pub watched : AreForRequests rows → ObserversStand rows
  pub whom : AreForRequests rows → SentToWhom rows
  pub echo : EchoedFirst rows
